-- Why a disk is not opened.
use Rattle.std.proofs.Common.{◌≡◌, ℕ, List, refl, sym, subst, Option, Ok, Some, inl, inr}
use Rattle.syn_journal.specs.Layout.{Value, meaning}
use Rattle.syn_journal.proofs.Meanings.{no_value, one_value}
use Rattle.syn_journal.specs.Refusals as journal
use Rattle.syn_journal.specs.declared.error.JournalError.{JournalError}
use Rattle.syn_journal.specs.declared.error.JournalError.TheVariants as refused
use Rattle.syn_journal.specs.Openings.{NotOpened}
use Rattle.syn_model.specs.Image.{Gives, IsOldImage}
use Rattle.syn_replica.specs.Disks.{IsOfOtherPair, IsOldDisk, IsOpenRefusal, IsReopenRefusal}
use Rattle.syn_replica.specs.Refusals.{IsOneOf, hiding_refusals}
use Rattle.syn_replica.specs.inner.Memories.{IsNoNext, IsUnread, IsUnreadAgain}
use Rattle.syn_replica.specs.declared.error.ReplicaError.{ReplicaError}
use Rattle.syn_replica.specs.declared.error.ReplicaError.TheVariants.{Tree, History, Journal}
use Rattle.syn_replica.specs.declared.error.ReplicaError.TheVariants.{Memory, Touched, OldSession}
use Rattle.syn_replica.specs.declared.error.ReplicaError.TheVariants.{Damaged, WrongPair}
use Rattle.syn_replica.specs.declared.error.ReplicaError.TheVariants.{OldVersion}
use Rattle.syn_replica.specs.declared.remembered.Remembered.{Remembered}
use Rattle.syn_replica.proofs.VersionLemmas.{not_old}

-- what a journal refuses, a replica does
pub journal_refusal : (e : JournalError) (wanted : Option ℕ) (bytes : List ℕ) →
    journal.IsOpenRefusal e (meaning bytes) → IsOpenRefusal (Journal e) wanted bytes
journal_refusal refused.Full wanted bytes h = absurd h
journal_refusal refused.JournalFull wanted bytes h = absurd h
journal_refusal refused.Device wanted bytes h = tt
journal_refusal refused.Halted wanted bytes h = absurd h
journal_refusal refused.Memory wanted bytes h = tt
journal_refusal refused.NoImage wanted bytes h = h
journal_refusal refused.Damaged wanted bytes h = h

-- the image of such a disk is that of its value
pub old_value : (bytes : List ℕ) (value : Value) → meaning bytes ≡ Ok value → IsOldDisk bytes →
    IsOldImage value.image
old_value bytes value means old =
    subst (λ v. IsOldImage v.image) (one_value (meaning bytes) old.value value old.means means)
    old.old

-- and what its image and its payloads refuse
by_meaning : (e : ReplicaError) (wanted : Option ℕ) (bytes : List ℕ) (value : Value) →
    meaning bytes ≡ Ok value → IsUnread e wanted value.image value.payloads →
    IsOpenRefusal e wanted bytes
by_meaning (Tree e) wanted bytes value means h = absurd h
by_meaning (History e) wanted bytes value means h = absurd h
by_meaning (Journal e) wanted bytes value means h = absurd h
by_meaning Memory wanted bytes value means h = tt
by_meaning Touched wanted bytes value means h = absurd h
by_meaning OldSession wanted bytes value means h = absurd h
by_meaning Damaged wanted bytes value means h =
    record { value = value; means = means; nothing = h.1; not_old = h.0 }
by_meaning WrongPair wanted bytes value means h =
    record { value = value; means = means; other = h }
by_meaning OldVersion wanted bytes value means h =
    record { value = value; means = means; old = h }

pub open_refusal : (e : ReplicaError) (wanted : Option ℕ) (bytes : List ℕ) →
    NotOpened (λ by. Journal by) (IsUnread e wanted) e bytes → IsOpenRefusal e wanted bytes
open_refusal e wanted bytes (inl h) =
    subst (λ x. IsOpenRefusal x wanted bytes) (sym h.1) (journal_refusal h.0 wanted bytes h.2)
open_refusal e wanted bytes (inr h) = by_meaning e wanted bytes h.0 h.1 h.2

-- where a replica of the pair reads them again
by_own : (e : ReplicaError) (memory : Remembered) (bytes : List ℕ) (value : Value) →
    meaning bytes ≡ Ok value → IsNoNext e memory value.image value.payloads →
    IsReopenRefusal e memory.pair memory.standing.position bytes
by_own (Tree e) memory bytes value means h = absurd h
by_own (History e) memory bytes value means h = absurd h
by_own (Journal e) memory bytes value means h = absurd h
by_own Memory memory bytes value means h = tt
by_own Touched memory bytes value means h = absurd h
by_own OldSession memory bytes value means h = absurd h
by_own Damaged memory bytes value means (inl nothing) =
    inl (record { value = value; means = means; nothing = nothing })
by_own Damaged memory bytes value means (inr (inl less)) =
    inr (inl (record {
      standing = less.standing;
      gives = record { value = value; means = means; gives = less.gives };
      fewer = less.fewer;
    }))
by_own Damaged memory bytes value means (inr (inr other)) =
    inr (inr (record { value = value; means = means; other = other }))
by_own WrongPair memory bytes value means h = absurd h
by_own OldVersion memory bytes value means h = absurd h

pub reopen_refusal : (e : ReplicaError) (memory : Remembered) (bytes : List ℕ) →
    NotOpened (λ by. Journal by) (IsUnreadAgain e memory) e bytes →
    IsReopenRefusal e memory.pair memory.standing.position bytes
reopen_refusal e memory bytes (inl h) =
    subst (λ x. IsReopenRefusal x memory.pair memory.standing.position bytes) (sym h.1)
    (journal_refusal h.0 (Some memory.pair) bytes h.2)
reopen_refusal e memory bytes (inr h) = by_own e memory bytes h.0 h.1 h.2.1

-- where the disk is of another pair, that is answered, or what comes first
pub hidden : (e : ReplicaError) (wanted : Option ℕ) (bytes : List ℕ) →
    IsOpenRefusal e wanted bytes → IsOfOtherPair wanted bytes → IsOneOf hiding_refusals e
hidden (Tree e) wanted bytes h other = absurd h
hidden (History e) wanted bytes h other = absurd h
hidden (Journal refused.Full) wanted bytes h other = absurd h
hidden (Journal refused.JournalFull) wanted bytes h other = absurd h
hidden (Journal refused.Device) wanted bytes h other = refl
hidden (Journal refused.Halted) wanted bytes h other = absurd h
hidden (Journal refused.Memory) wanted bytes h other = refl
hidden (Journal refused.NoImage) wanted bytes h other =
    absurd (no_value (meaning bytes) other.value _ other.means h)
hidden (Journal refused.Damaged) wanted bytes h other =
    absurd (no_value (meaning bytes) other.value _ other.means h)
hidden Memory wanted bytes h other = refl
hidden Touched wanted bytes h other = absurd h
hidden OldSession wanted bytes h other = absurd h
hidden Damaged wanted bytes h other =
    let there = other.other in
    absurd (h.nothing there.pair there.standing there.fits
    (subst (λ v. Gives there.pair v.image v.payloads there.standing)
    (one_value (meaning bytes) other.value h.value other.means h.means) there.gives))
hidden WrongPair wanted bytes h other = refl
hidden OldVersion wanted bytes h other =
    let there = other.other in
    absurd (not_old there.pair other.value.image other.value.payloads there.standing there.gives
    (old_value bytes other.value other.means h))
