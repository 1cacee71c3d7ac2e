-- Another opening of the archive is what its machine does.
use Rattle.std.proofs.Common.{◌≡◌, ◌≢◌, ◌≤◌, ℕ, List, [], Result, Ok, Err, refl, sym, None, Some}
use Rattle.std.proofs.Common.{ap, ap₂, ◌∙◌, ◌+◌, ◌-◌, arith, subst, inl, inr, suc, zero}
use Rattle.syn_archive.specs.Disks.{IsReopenRefusal}
use Rattle.syn_archive.specs.Machines.{IsMachine, Journal, Moves, ReadsDisk, failed_reading}
use Rattle.syn_archive.specs.Machines.{moves_down, moves_on, read, stopped_reading, unread}
use Rattle.syn_archive.specs.declared.archive.Archive.{Archive}
use Rattle.syn_archive.specs.declared.error.ArchiveError.{ArchiveError}
use Rattle.syn_archive.specs.declared.error.ArchiveError.TheVariants as error
use Rattle.syn_disk.specs.declared.disk.Disk.{Ghosts}
use Rattle.syn_machine.specs.Coordinator.{archive_layout}
use Rattle.syn_machine.specs.Machine.{Up, Halted, Down, Status, Arms, Meets, Opens, unarmed}
use Rattle.syn_machine.specs.Machine.{after_device, IsBefore, after_calls, all_made}
use Rattle.syn_journal.specs.Layout.{Value, meaning, Fault}
use Rattle.syn_model.specs.Path.{Bytes}
use Rattle.syn_model.specs.Archive as model
use Rattle.syn_model.specs.Archive.{Kept, CanKeep}
use Rattle.syn_model.specs.ArchiveImage.{ArchiveStandsFor}
use Rattle.syn_model.specs.Refusal as why
use Rattle.syn_archive.specs.Keepings.{of_archive}
use Rattle.syn_journal.specs.Meaning.{MayBeOf, MayMean, as_kept, with_record, compacted}

-- The machine was opened again by so many device calls; or it went down among them
pub data Reopened (pair : ℕ) (machine : Journal) : Journal → List Kept → Type 0 where
  opened_again : (calls : ℕ) (new : Journal) (kept : List Kept) → 1 ≤ calls →
      Opens (archive_layout pair) CanKeep machine calls new kept →
      Reopened pair machine new kept
  cut_off : (calls : ℕ) (arms : Arms) (failed : ℕ) → Meets machine.arms calls Down arms failed →
      Reopened pair machine (after_device machine Down arms failed) []

-- Its device calls met this, and nothing was opened: it is left so; or it went down among them
pub data NotReopened (machine : Journal) (met left : Status) : Journal → Type 0 where
  stayed : (calls : ℕ) (arms : Arms) (failed : ℕ) → Meets machine.arms calls met arms failed →
      NotReopened machine met left (after_device machine left arms failed)
  went_down : (calls : ℕ) (arms : Arms) (failed : ℕ) → Meets machine.arms calls Down arms failed →
      NotReopened machine met left (after_device machine Down arms failed)

-- it means some archive
pub some_archive : (pair : ℕ) (machine : Journal) (value : Value) (generation : ℕ) →
    MayMean (of_archive pair) machine value generation →
    (archive : model.Archive) × ArchiveStandsFor pair value.image value.payloads archive
some_archive pair machine value generation (as_kept m) = (machine.value, m.stands)
some_archive pair machine value generation (with_record m) = (_, m.stands)
some_archive pair machine value generation (compacted m) = (machine.value, m.stands)

not_both : (r : Result Value Fault) (v : Value) (f : Fault) → r ≡ Ok v → r ≡ Err f → ⊥
not_both r v f ok err = cc

-- so lack of memory alone refuses it, where its device does not fail
pub only_memory : (pair : ℕ) (machine : Journal) (bytes : Bytes) →
    MayBeOf (of_archive pair) machine bytes → (e : ArchiveError) → e ≢ error.Device →
    IsReopenRefusal e pair bytes → e ≡ error.Memory
only_memory pair machine bytes may error.Memory other why = refl
only_memory pair machine bytes may error.Device other why = absurd (other refl)
only_memory pair machine bytes may error.NoImage other why =
    absurd (not_both (meaning bytes) _ _ may.journal.means why)
only_memory pair machine bytes may error.Damaged other (inl why) =
    absurd (not_both (meaning bytes) _ _ may.journal.means why)
only_memory pair machine bytes may error.Damaged other (inr why) =
    let found = some_archive pair machine may.value may.generation may.means in
    let same = ap value_in (sym may.journal.means ∙ why.1) in
    absurd
    (why.2 found.0 (subst (λ v. ArchiveStandsFor pair v.image v.payloads found.0) same found.1))
  where
    value_in : {E : Type 0} → Result Value E → Value
    value_in (Ok value) = value
    value_in (Err e) = may.value
only_memory pair machine bytes may error.NoParent other why = absurd why
only_memory pair machine bytes may error.Root other why = absurd why
only_memory pair machine bytes may error.Full other why = absurd why
only_memory pair machine bytes may error.JournalFull other why = absurd why
only_memory pair machine bytes may error.Halted other why = absurd why
only_memory pair machine bytes may error.OldVersion other why = absurd why
only_memory pair machine bytes may error.WrongPair other why = absurd why

before_none : (n : ℕ) → IsBefore 0 n
before_none zero = inl refl
before_none (suc n) = inr (omega arith)

none_less : (n : ℕ) → n - 0 ≡ n
none_less n = omega arith

none_more : (n : ℕ) → n + 0 ≡ n
none_more n = omega arith

-- no device call leaves the machine as it was
no_calls : (machine : Journal) →
    after_device machine machine.status (after_calls 0 machine.arms) 0 ≡ machine
no_calls machine =
    ap₂ (λ arms failures. record machine { arms = arms; failures = failures })
    (ap₂ (λ fail stop. record { fail = fail; stop = stop }) (none_less machine.arms.fail)
    (none_less machine.arms.stop)) (none_more machine.failures)

-- memory is refused before any device call
pub reopen_early : {D : Type 0} {disk : Ghosts D} (archive : Archive D disk) (pair : ℕ)
    (machine : Journal) → IsMachine archive pair machine →
    Moves archive pair (NotReopened machine Up machine.status) machine.status
reopen_early archive pair machine is =
    moves_on _ (stayed 0 (after_calls 0 machine.arms) 0
    (all_made (before_none machine.arms.fail) (before_none machine.arms.stop))) refl
    (subst (IsMachine archive pair) (sym (no_calls machine)) is)

-- what the archive says of it
module _ {D : Type 0} {disk : Ghosts D} (new : Archive D disk) (pair : ℕ) (machine : Journal) where
  pub reopen_ok : ReadsDisk new pair machine None →
      Moves new pair (λ journal. (kept : List Kept) × Reopened pair machine journal kept) Up
  reopen_ok (read calls next added some opens up now) =
      moves_on next (added, opened_again calls next added some opens) up now
  reopen_ok (stopped_reading ended calls meets it) =
      moves_down (after_device machine Down unarmed 0) ([], cut_off calls unarmed 0 meets)
      it.stopped it.down it.leaves

  pub reopen_failed : ReadsDisk new pair machine (Some why.Device) →
      Moves new pair (NotReopened machine Halted Halted) Halted
  reopen_failed (failed_reading calls arms meets now) =
      moves_on (after_device machine Halted arms 1) (stayed calls arms 1 meets) refl now
  reopen_failed (stopped_reading ended calls meets it) =
      moves_down (after_device machine Down unarmed 0) (went_down calls unarmed 0 meets) it.stopped
      it.down it.leaves

  pub reopen_stayed : ReadsDisk new pair machine (Some why.Memory) →
      Moves new pair (NotReopened machine Up machine.status) machine.status
  reopen_stayed (unread calls arms some meets now) =
      moves_on (after_device machine machine.status arms 0) (stayed calls arms 0 meets) refl now
  reopen_stayed (stopped_reading ended calls meets it) =
      moves_down (after_device machine Down unarmed 0) (went_down calls unarmed 0 meets) it.stopped
      it.down it.leaves
