-- What a record of a call says of its answer.
use Rattle.std.proofs.Common.{◌≡◌, ◌⊎◌, Option, Some, Result, Ok, Err, ap}
use Rattle.std.proofs.lemmas.Option.{none-some, same_Some}
use Rattle.std.specs.Prelude.{IfErr}
use Rattle.syn_disk.specs.declared.disk.Disk.{Ghosts}
use Rattle.syn_journal.specs.declared.error.JournalError.TheVariants as journal_error
use Rattle.syn_journal.specs.Endings.{ended}
use Rattle.syn_model.specs.Event.{Event}
use Rattle.syn_model.specs.Refusal as why
use Rattle.syn_replica.proofs.RefusalLemmas.{halted_is}
use Rattle.syn_replica.specs.Calls.{Writes}
use Rattle.syn_replica.specs.Replica.{KeepsReadings, journal_of}
use Rattle.syn_replica.specs.declared.replica.Replica.{Replica}
use Rattle.syn_replica.specs.ErrorRefusals.{refusal_of}
use Rattle.syn_replica.specs.declared.error.ReplicaError.{ReplicaError}
use Rattle.syn_replica.specs.declared.error.ReplicaError.TheVariants.{Journal}

-- which error is answered where it was halted
pub halted_answer : {X : Type 0} (answer : Result X ReplicaError) →
    ended refusal_of answer ≡ Some why.Halted → answer ≡ Err (Journal journal_error.Halted)
halted_answer (Ok x) is = absurd (none-some _ is)
halted_answer (Err e) is = ap (λ x. Err x) (halted_is e (same_Some _ _ is))

module _ {X D : Type 0} {disk : Ghosts D} (found left : Replica D disk) (event : Option Event) where
  pub readings_of : (answer : Result X ReplicaError) →
      Writes found left event (ended refusal_of answer) →
      IfErr answer (λ _. KeepsReadings found left)
  readings_of (Ok x) writes = tt
  readings_of (Err e) writes = writes.readings

  pub unchanged_of : (answer : Result X ReplicaError) →
      Writes found left event (ended refusal_of answer) →
      IfErr answer (λ e. (refusal_of e ≡ why.Device) ⊎ (journal_of left ≡ journal_of found))
  unchanged_of (Ok x) writes = tt
  unchanged_of (Err e) writes = writes.unchanged
