-- Why a lawful disk is not opened.
use Rattle.std.proofs.Common.{◌≡◌, ◌⊎◌, ◌<◌, ◌∙◌, ℕ, List, Result, Ok, Err, Some, ap, inl, inr}
use Rattle.std.proofs.Common.{refl, subst, sym}
use Rattle.std.specs.Prelude.{◌^◌}
use Rattle.syn_journal.specs.Layout.{Fault, Value, meaning}
use Rattle.syn_journal.specs.declared.error.JournalError.TheVariants as journal
use Rattle.syn_model.specs.History.{History}
use Rattle.syn_model.specs.Version.{current_version}
use Rattle.syn_model.specs.Image.{StandsFor}
use Rattle.syn_model.specs.Refusal.{Device, Memory as NoMemory}
use Rattle.syn_replica.specs.Disks.{DiskStands, IsOpenRefusal}
use Rattle.syn_replica.specs.ErrorRefusals.{refusal_of}
use Rattle.syn_replica.specs.declared.error.ReplicaError.{ReplicaError}
use Rattle.syn_replica.specs.declared.error.ReplicaError.TheVariants.{Tree, History as OfHistory}
use Rattle.syn_replica.specs.declared.error.ReplicaError.TheVariants.{Journal, Memory, Touched}
use Rattle.syn_replica.specs.declared.error.ReplicaError.TheVariants.{OldSession, Damaged}
use Rattle.syn_replica.specs.declared.error.ReplicaError.TheVariants.{WrongPair, OldVersion}
use Rattle.syn_replica.specs.Readings.{OneIsGiven}
use Rattle.syn_replica.proofs.VersionLemmas.{not_old}

not_both : (r : Result Value Fault) (v : Value) (f : Fault) → r ≡ Ok v → r ≡ Err f → ⊥
not_both r v f ok err = cc

module _ (one : OneIsGiven) (pair : ℕ) (bytes : List ℕ) (history : History) (fits : pair < 2 ^ 64)
    (is : DiskStands pair bytes history) where
  -- one disk has one value
  stands_there : (value : Value) → meaning bytes ≡ Ok value
      → StandsFor pair value.image value.payloads history
  stands_there value means =
      subst (λ v. StandsFor pair v.image v.payloads history) (ap value_in (sym is.means ∙ means))
      is.stands
    where
      value_in : {E : Type 0} → Result Value E → Value
      value_in (Ok found) = found
      value_in (Err e) = is.value

  pub lawful_opens : (error : ReplicaError) → IsOpenRefusal error (Some pair) bytes
      → (refusal_of error ≡ Device) ⊎ (refusal_of error ≡ NoMemory)
  lawful_opens (Journal journal.Device) why = inl refl
  lawful_opens (Journal journal.Memory) why = inr refl
  lawful_opens (Journal journal.NoImage) why =
      absurd (not_both (meaning bytes) is.value _ is.means why)
  lawful_opens (Journal journal.Damaged) why =
      absurd (not_both (meaning bytes) is.value _ is.means why)
  lawful_opens (Journal journal.Full) why = absurd why
  lawful_opens (Journal journal.JournalFull) why = absurd why
  lawful_opens (Journal journal.Halted) why = absurd why
  lawful_opens Memory why = inr refl
  lawful_opens Damaged why =
      absurd (why.nothing pair _ fits (stands_there why.value why.means).gives)
  lawful_opens WrongPair why =
      let other = why.other in
      let same = one current_version why.value.image why.value.payloads pair other.pair _
      other.standing fits other.fits (stands_there why.value why.means).gives other.gives in
      let asked : pair ≡ other.asked = let k : Some pair ≡ Some other.asked = other.wanted_is in
      cc in
      absurd (other.differ (sym asked ∙ same.0))
  lawful_opens (Tree e) why = absurd why
  lawful_opens (OfHistory e) why = absurd why
  lawful_opens Touched why = absurd why
  lawful_opens OldSession why = absurd why
  lawful_opens OldVersion why =
      absurd (not_old pair why.value.image why.value.payloads _
      (stands_there why.value why.means).gives why.old)
