-- Why a replica is not opened again, and what it stands for where it is.
use Rattle.std.proofs.Common.{◌≡◌, ◌≤◌, ◌<◌, ◌^◌, ℕ, List, [], ◌∷◌, ◌++◌, length, refl, sym, ap}
use Rattle.std.proofs.Common.{◌∙◌, subst, inl, inr, arith, Some, Ok}
use Rattle.std.proofs.lemmas.List.{length-append}
use Rattle.syn_disk.specs.declared.disk.Disk.{Ghosts}
use Rattle.syn_journal.specs.Layout.{Value, meaning}
use Rattle.syn_journal.specs.Refusals as journal
use Rattle.syn_journal.specs.declared.error.JournalError.{JournalError}
use Rattle.syn_journal.specs.declared.error.JournalError.TheVariants as refused
use Rattle.syn_journal.specs.Journaled.{state_of}
use Rattle.syn_journal.specs.Openings.{NotOpened}
use Rattle.syn_model.specs.Standing.{Standing}
use Rattle.syn_model.specs.History.{History, standing_of}
use Rattle.syn_model.specs.Version.{current_version}
use Rattle.syn_model.specs.Image.{Gives}
use Rattle.syn_replica.specs.Disks.{DiskStands, IsReopenRefusal}
use Rattle.syn_replica.specs.Growth.{KeepsUp, WithTried}
use Rattle.syn_replica.specs.Refusals.{IsOneOf, outside_refusals}
use Rattle.syn_replica.specs.Replica.{pair_of, position_shown, disk_of, tried_shown, Stands}
use Rattle.syn_replica.specs.Growing.{remembered}
use Rattle.syn_replica.specs.inner.Memories.{IsUnreadAgain}
use Rattle.syn_replica.specs.Readings.{OneIsGiven}
use Rattle.syn_replica.specs.declared.remembered.Remembered.{Remembered}
use Rattle.syn_replica.specs.declared.replica.Replica.{Replica}
use Rattle.syn_replica.specs.declared.error.ReplicaError.{ReplicaError}
use Rattle.syn_replica.specs.declared.error.ReplicaError.TheVariants.{Tree, History as OfHistory}
use Rattle.syn_replica.specs.declared.error.ReplicaError.TheVariants.{Journal, Memory, Touched}
use Rattle.syn_replica.specs.declared.error.ReplicaError.TheVariants.{OldSession, Damaged}
use Rattle.syn_replica.specs.declared.error.ReplicaError.TheVariants.{WrongPair, OldVersion}
use Rattle.syn_replica.proofs.GrowthLemmas.{disk_keeps}
use Rattle.syn_journal.proofs.Meanings.{no_value, one_value}
use Rattle.syn_replica.proofs.MeaningLemmas.{reopen_refusal}

asked_is : (a b : ℕ) → Some a ≡ Some b → a ≡ b
asked_is a b e = cc e

-- what a journal refuses of a disk that stands for a history
pub journal_outside : (e : JournalError) (pair : ℕ) (bytes : List ℕ) (history : History) →
    DiskStands pair bytes history → journal.IsOpenRefusal e (meaning bytes) →
    IsOneOf outside_refusals (Journal e)
journal_outside refused.Full pair bytes history d h = absurd h
journal_outside refused.JournalFull pair bytes history d h = absurd h
journal_outside refused.Device pair bytes history d h = refl
journal_outside refused.Halted pair bytes history d h = absurd h
journal_outside refused.Memory pair bytes history d h = refl
journal_outside refused.NoImage pair bytes history d h =
    absurd (no_value (meaning bytes) d.value _ d.means h)
journal_outside refused.Damaged pair bytes history d h =
    absurd (no_value (meaning bytes) d.value _ d.means h)

-- what a disk gives that stands for a history
module _ (one : OneIsGiven) (pair : ℕ) (bytes : List ℕ) (history : History) (fits : pair < 2 ^ 64)
    (d : DiskStands pair bytes history) where
  given : (value : Value) → meaning bytes ≡ Ok value →
      Gives pair value.image value.payloads (standing_of history)
  given value means =
      subst (λ (v : Value). Gives pair v.image v.payloads (standing_of history))
      (one_value (meaning bytes) d.value value d.means means) d.stands.gives

  -- it is refused for lack of memory, or where a device call fails
  pub outside : (e : ReplicaError) (position : ℕ) → position ≤ length history →
      IsReopenRefusal e pair position bytes → IsOneOf outside_refusals e
  outside (Tree e) position early h = absurd h
  outside (OfHistory e) position early h = absurd h
  outside (Journal refused.Full) position early h = absurd h
  outside (Journal refused.JournalFull) position early h = absurd h
  outside (Journal refused.Device) position early h = refl
  outside (Journal refused.Halted) position early h = absurd h
  outside (Journal refused.Memory) position early h = refl
  outside (Journal refused.NoImage) position early h =
      absurd (no_value (meaning bytes) d.value _ d.means h)
  outside (Journal refused.Damaged) position early h =
      absurd (no_value (meaning bytes) d.value _ d.means h)
  outside Memory position early h = refl
  outside Touched position early h = absurd h
  outside OldSession position early h = absurd h
  outside Damaged position early (inl u) =
      absurd (u.nothing pair (standing_of history) fits (given u.value u.means))
  outside Damaged position early (inr (inl f)) =
      let same = (one current_version f.gives.value.image f.gives.value.payloads pair pair
      f.standing (standing_of history) fits fits f.gives.gives
      (given f.gives.value f.gives.means)).1 in
      let long : f.standing.position ≡ length history = ap (λ (s : Standing). s.position) same in
      let few = f.fewer in
      absurd (omega (arith, early, long, few))
  outside Damaged position early (inr (inr o)) =
      let other = o.other in
      let same = (one current_version o.value.image o.value.payloads pair other.pair
      (standing_of history) other.standing fits other.fits (given o.value o.means) other.gives).0 in
      absurd (other.differ (sym (asked_is pair other.asked other.wanted_is) ∙ same))
  outside WrongPair position early h = absurd h
  outside OldVersion position early h = absurd h

-- a disk that stands for a history no shorter than what is remembered is not opened for them alone
pub unopened_outside : OneIsGiven → (memory : Remembered) (bytes : List ℕ) (history : History) →
    DiskStands memory.pair bytes history → memory.standing.position ≤ length history →
    (e : ReplicaError) → NotOpened (λ by. Journal by) (IsUnreadAgain e memory) e bytes →
    IsOneOf outside_refusals e
unopened_outside one memory bytes history d early e (inl h) =
    subst (IsOneOf outside_refusals) (sym h.1)
    (journal_outside h.0 memory.pair bytes history d h.2)
unopened_outside one memory bytes history d early e (inr h) =
    outside one memory.pair bytes history h.2.0 d e memory.standing.position early
    (reopen_refusal e memory bytes (inr h))

module _ {D : Type 0} {disk : Ghosts D} where
  pub kept_outside : OneIsGiven → (old : Replica D disk) (history : History) →
      KeepsUp old history → (e : ReplicaError) →
      NotOpened (λ by. Journal by) (IsUnreadAgain e (state_of old.journaled)) e
      (disk.seen (disk_of old)) → IsOneOf outside_refusals e
  kept_outside one old history k e h =
      let here : position_shown old ≡ length history =
      ap (λ (s : Standing). s.position) (remembered old history k).standing in
      elim (disk_keeps old history k) as (λ _. IsOneOf outside_refusals e) [
        | inl d ↦ unopened_outside one (state_of old.journaled) (disk.seen (disk_of old)) history d
            (omega (arith, here)) e h
        | inr d ↦ let more = length-append history (d.0 ∷ []) in
            unopened_outside one (state_of old.journaled) (disk.seen (disk_of old))
            (history ++ d.0 ∷ []) d.2 (omega (arith, here, more)) e h
      ]

  pub stands_again : (old new : Replica D disk) (history : History) → pair_of new ≡ pair_of old →
      ((h : History) → DiskStands (pair_of new) (disk.seen (disk_of old)) h → Stands new h) →
      KeepsUp old history → WithTried (Stands new) (tried_shown old) history
  stands_again old new history pair stands k =
      let of_new : (h : History) → DiskStands (pair_of old) (disk.seen (disk_of old)) h →
      Stands new h = λ h d. stands h
      (subst (λ (n : ℕ). DiskStands n (disk.seen (disk_of old)) h) (sym pair) d) in
      elim (disk_keeps old history k) as (λ _. WithTried (Stands new) (tried_shown old) history) [
        | inl d ↦ inl (of_new history d)
        | inr d ↦ inr (d.0, d.1, of_new (history ++ d.0 ∷ []) d.2)
      ]
