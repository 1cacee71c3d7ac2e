-- What the replacement of one thread answers and leaves.
use Rattle.std.specs.Prelude.{◌≡◌, ◌⊎◌, ℕ, true, false, length, Some, None, Result, Ok}
use Rattle.std.specs.Prelude.{IfOk, IfErr, IsErrAnd}
use Rattle.syn_agent.specs.Machines.{IsOf}
use Rattle.syn_agent.specs.declared.agent.Agent.{Agent}
use Rattle.syn_disk.specs.Stops.{LeavesOnly}
use Rattle.syn_disk.specs.declared.disk.Disk.{Ghosts}
use Rattle.syn_machine.specs.SideMachine.{SideMachine}
use Rattle.syn_journal.specs.Endings.{ended}
use Rattle.syn_model.specs.Event.{Token, Replaced}
use Rattle.syn_model.specs.History.{History}
use Rattle.syn_model.specs.Path.{Path}
use Rattle.syn_model.specs.Refusal.{Refusal, Memory}
use Rattle.syn_model.specs.Tree.{Tree}
use Rattle.syn_replica.specs.Calls.{Writes, unless}
use Rattle.syn_replica.specs.ErrorRefusals.{refusal_of}
use Rattle.syn_replica.specs.Refusals.{IsOneOf, replace_refusals, outside_refusals}
use Rattle.syn_replica.specs.Replica.{disk_of, room_shown, standing_shown, Stands}
use Rattle.syn_replica.specs.Replica.{KeepsBeforeOrAfter}
use Rattle.syn_replica.specs.Steps.{early_refusal, is_done, is_done_at, replaced, replace_refusal}
use Rattle.syn_replica.specs.declared.error.ReplicaError.{ReplicaError}
use Rattle.syn_replica.specs.declared.replica.Replica.{Replica}
use Rattle.syn_shared.specs.Machines.{WritesEvent, IsRefusedEarly}
use Rattle.syn_shared.specs.Steps.{StepsBy}

-- a replacement under a token
pub record Replaces {D : Type 0} {disk : Ghosts D} (token : Token) (path : Path) (since : ℕ)
    (new : Tree) (answer : Result ℕ ReplicaError) (found left : Replica D disk) : Type 0 where
  -- the world's write of the event on the machine that the replica is, where the token is not done
  pub world : (pair : ℕ) (agent : Agent) (machine : SideMachine)
      → IsOf pair found agent machine → is_done machine.journal.value token ≡ false
      → let cause = replace_refusal (room_shown found) machine.journal.value token path since new in
      WritesEvent pair left agent machine (Replaced token path since new) (cause ≡ None)
      (IsRefusedEarly machine cause) answer
  -- one step of a side, where the token is not done
  pub step : (history : History) → Stands found history → is_done history token ≡ false
      → StepsBy found left history (Replaced token path since new)
      (replace_refusal (room_shown found) history token path since new) answer
  -- Ok: the event is added and stands, or its token was done before and nothing changed
  pub acknowledged : (history : History) → Stands found history
      → let after = replaced history token path since new in
      IfOk answer (λ position. (position ≡ length after) × Stands left after)
  pub again : (history : History) → Stands found history → is_done history token ≡ true
      → (answer ≡ Ok (length history)) × (left ≡ found)
  -- a stop finds the history before or after
  pub any_moment : (history : History) → Stands found history
      → LeavesOnly disk.moment disk.left_since (disk_of found) (disk_of left)
      (KeepsBeforeOrAfter found history (Replaced token path since new))
  -- refused: each refusal has its cause, and each cause its refusal
  pub cause : (history : History) → Stands found history
      → IfErr answer (λ e. IsOneOf outside_refusals e
      ⊎ (replace_refusal (room_shown found) history token path since new ≡ Some (refusal_of e)))
  pub refused : (history : History) (why : Refusal) → Stands found history
      → is_done history token ≡ false
      → replace_refusal (room_shown found) history token path since new ≡ Some why
      → IsErrAnd answer (λ e. (refusal_of e ≡ why) ⊎ (refusal_of e ≡ Memory))
  pub refusals : IfErr answer (IsOneOf replace_refusals)
  -- the token, the touches and the place are looked at before memory is asked for
  pub memory : (history : History) → Stands found history → IfErr answer (λ e.
      refusal_of e ≡ Memory → early_refusal history token path since ≡ None)
  -- what it made of the replica, and what its device was asked
  pub machine : Writes found left (unless (is_done_at (standing_shown found) token)
      (Replaced token path since new)) (ended refusal_of answer)
