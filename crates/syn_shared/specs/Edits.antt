-- What the edit of one thread answers and leaves.
use Rattle.std.specs.Prelude.{◌≡◌, ◌⊎◌, ◌+◌, ℕ, [], ◌∷◌, ◌++◌, length, Some, Result}
use Rattle.std.specs.Prelude.{IfOk, IfErr, IsErrAnd}
use Rattle.syn_agent.specs.Machines.{IsOf}
use Rattle.syn_agent.specs.declared.agent.Agent.{Agent}
use Rattle.syn_disk.specs.Stops.{LeavesOnly}
use Rattle.syn_disk.specs.declared.disk.Disk.{Ghosts}
use Rattle.syn_machine.specs.SideMachine.{SideMachine}
use Rattle.syn_journal.specs.Endings.{ended}
use Rattle.syn_model.specs.Event.{Event}
use Rattle.syn_model.specs.History.{History}
use Rattle.syn_model.specs.Refusal.{Refusal, Device}
use Rattle.syn_replica.specs.Calls.{Writes}
use Rattle.syn_replica.specs.ErrorRefusals.{refusal_of}
use Rattle.syn_replica.specs.Refusals.{IsOneOf, edit_refusals, outside_refusals}
use Rattle.syn_replica.specs.Replica.{disk_of, room_shown, Stands, KeepsBeforeOrAfter}
use Rattle.syn_replica.specs.Steps.{add_refusal}
use Rattle.syn_replica.specs.declared.error.ReplicaError.{ReplicaError}
use Rattle.syn_replica.specs.declared.replica.Replica.{Replica}
use Rattle.syn_shared.specs.Machines.{EditsSide}
use Rattle.syn_shared.specs.Steps.{StepsBy}

-- an edit, as its event
pub record Edits {D : Type 0} {disk : Ghosts D} (event : Event) (answer : Result ℕ ReplicaError)
    (found left : Replica D disk) : Type 0 where
  -- the world's edit on the machine that the replica is
  pub world : (pair : ℕ) (agent : Agent) (machine : SideMachine)
      → IsOf pair found agent machine → EditsSide pair left agent machine event answer
  -- one step of a side
  pub step : (history : History) → Stands found history
      → StepsBy found left history event (add_refusal (room_shown found) history event) answer
  -- Ok: the event is added, and stands
  pub acknowledged : (history : History) → Stands found history
      → IfOk answer (λ position. (position ≡ length history + 1)
      × Stands left (history ++ event ∷ []))
  -- a stop finds the history before or after
  pub any_moment : (history : History) → Stands found history
      → LeavesOnly disk.moment disk.left_since (disk_of found) (disk_of left)
      (KeepsBeforeOrAfter found history event)
  -- refused: each refusal has its cause, and each cause its refusal
  pub cause : (history : History) → Stands found history
      → IfErr answer (λ e. IsOneOf outside_refusals e
      ⊎ (add_refusal (room_shown found) history event ≡ Some (refusal_of e)))
  pub refused : (history : History) (why : Refusal) → Stands found history
      → add_refusal (room_shown found) history event ≡ Some why
      → IsErrAnd answer (λ e. refusal_of e ≡ why)
  pub refusals : IfErr answer (IsOneOf edit_refusals)
  pub unchanged : (history : History) → Stands found history
      → IfErr answer (λ e. (refusal_of e ≡ Device) ⊎ Stands left history)
  -- what it made of the replica, and what its device was asked
  pub machine : Writes found left (Some event) (ended refusal_of answer)
