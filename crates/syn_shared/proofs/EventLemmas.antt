-- An event that a hold writes is what the world's side writes, as the replica says it of its
-- machine.
use Rattle.std.proofs.Common.{◌≡◌, ◌≢◌, ◌+◌, ℕ, [], ◌∷◌, ◌++◌, length, refl, sym, subst, inl, inr}
use Rattle.std.proofs.Common.{None, Some, Result, Ok, Err}
use Rattle.std.specs.Prelude.{IfOk, IfErr}
use Rattle.std.specs.Result.{MatchResult}
use Rattle.syn_agent.specs.Machines.{IsOf, goes_on, stops}
use Rattle.syn_agent.specs.declared.agent.Agent.{Agent}
use Rattle.syn_disk.specs.declared.disk.Disk.{Ghosts}
use Rattle.syn_machine.specs.Machine.{Up, Halted, Down, unarmed, unwritten, with_record}
use Rattle.syn_machine.specs.Machine as model
use Rattle.syn_machine.specs.SideMachine.{SideMachine, side_layout}
use Rattle.syn_journal.specs.Endings.{ended}
use Rattle.syn_journal.specs.Machines.{writing}
use Rattle.syn_model.specs.Event.{Event}
use Rattle.syn_model.specs.History.{History}
use Rattle.syn_model.specs.Refusal.{Refusal}
use Rattle.syn_model.specs.Refusal as why
use Rattle.syn_replica.specs.ErrorRefusals.{refusal_of}
use Rattle.syn_replica.specs.Machines.{WritesRecord, failed, refused, stopped, stopped_after}
use Rattle.syn_replica.specs.Machines.{written}
use Rattle.syn_replica.specs.Replica.{Stands}
use Rattle.syn_replica.specs.declared.error.ReplicaError.{ReplicaError}
use Rattle.syn_replica.specs.declared.replica.Replica.{Replica}
use Rattle.syn_shared.specs.Machines.{Says, WritesEvent, refuses, writes}
use Rattle.syn_shared.proofs.UpkeepLemmas.{on, stays}

module _ {D : Type 0} {disk : Ghosts D} (pair : ℕ) (found left : Replica D disk) (agent : Agent)
    (machine : SideMachine) (is : IsOf pair found agent machine) (event : Event) (Allowed : Type 0)
    (Refused : ReplicaError → Type 0) where
  abbrev Written : Result ℕ ReplicaError → Type 0
  Written answer = WritesEvent pair left agent machine event Allowed Refused answer

  abbrev value : History
  value = machine.journal.value

  added : Allowed → WritesRecord left pair machine.journal event None →
      Written (Ok (length value + 1))
  added allowed (written arms up meets now) =
      let next = with_record (side_layout pair) machine.journal event arms in
      writes (Ok (length value + 1)) next (event ∷ []) up allowed (model.written arms refl meets)
      (subst (λ s. Says s (length value + 1) (Ok (length value + 1))) (sym up) refl)
      (goes_on (on pair found left agent machine is next now))
  added allowed (stopped_after up meets now) =
      writes (Ok (length value + 1)) (writing machine.journal event Down unarmed 0) [] up allowed
      (unwritten Down unarmed 0 refl (inr refl) meets) tt (stops now)

  pub event_refused : (e : ReplicaError) (refusal : Refusal) → refusal_of e ≡ refusal →
      (refusal ≡ why.Device → Allowed) → (refusal ≢ why.Device → Refused e) →
      WritesRecord left pair machine.journal event (Some refusal) → Written (Err e)
  event_refused e refusal so allowed caused (failed arms up meets now) =
      let next = writing machine.journal event Halted arms 1 in
      writes (Err e) next [] up (allowed refl) (unwritten Halted arms 1 refl (inl refl) meets) so
      (goes_on (on pair found left agent machine is next now))
  event_refused e refusal so allowed caused (stopped up meets now) =
      writes (Err e) (writing machine.journal event Down unarmed 0) [] up (allowed refl)
      (unwritten Down unarmed 0 refl (inr refl) meets) tt (stops now)
  event_refused e refusal so allowed caused (refused same other now) =
      refuses e (caused other) (stays pair found left agent machine is now)

  pub event_written : (answer : Result ℕ ReplicaError) → IfOk answer
      (λ position. (position ≡ length value + 1) × Stands left (value ++ event ∷ [])) →
      WritesRecord left pair machine.journal event (ended refusal_of answer) →
      MatchResult answer (λ _. Allowed) (λ e. refusal_of e ≡ why.Device → Allowed) →
      IfErr answer (λ e. refusal_of e ≢ why.Device → Refused e) → Written answer
  event_written (Ok position) acknowledged told allowed caused =
      subst (λ n. Written (Ok n)) (sym acknowledged.0) (added allowed told)
  event_written (Err e) acknowledged told allowed caused =
      event_refused e (refusal_of e) refl allowed caused told
