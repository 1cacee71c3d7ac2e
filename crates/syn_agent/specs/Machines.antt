-- An answer as a step of the world.
use Rattle.std.specs.Prelude.{◌≡◌, ◌⊎◌, ◌∷◌, [], ℕ, false, List, Option, Some, None}
use Rattle.syn_agent.specs.Agents.{staging_of}
use Rattle.syn_agent.specs.declared.agent.Agent.{Agent}
use Rattle.syn_disk.specs.Arms.{is_stopped}
use Rattle.syn_disk.specs.declared.disk.Disk.{Ghosts}
use Rattle.syn_machine.specs.Machine.{Status, Up, Down}
use Rattle.syn_machine.specs.Side.{Request, Reply}
use Rattle.syn_machine.specs.SideMachine.{SideMachine, SideTakes}
use Rattle.syn_journal.specs.Calls.{CountsNoMore, armed_at}
use Rattle.syn_model.specs.Event.{Event}
use Rattle.syn_model.specs.Spelling.{event_spelling}
use Rattle.syn_replica.specs.Machines.{IsDown, IsMachine}
use Rattle.syn_replica.specs.Replica.{Stands, disk_of, generation_shown, left_shown, pair_of}
use Rattle.syn_replica.specs.Replica.{tried_shown}
use Rattle.syn_replica.specs.declared.replica.Replica.{Replica}

-- The replica with its agent is the machine of a side that is not down: the replica keeps its
-- journal, and the agent what it has staged
pub record IsOf {D : Type 0} {disk : Ghosts D} (pair : ℕ) (replica : Replica D disk) (agent : Agent)
    (machine : SideMachine) : Type 0 where
  pub keeps : IsMachine replica pair machine.journal
  pub staging : machine.staging ≡ staging_of agent

-- a replica that stands for the history of a machine that is up, with as much room, the same
-- generation and arms, and what is staged
pub record IsUpAs {D : Type 0} {disk : Ghosts D} (pair : ℕ) (replica : Replica D disk)
    (agent : Agent) (machine : SideMachine) : Type 0 where
  pub pair_is : pair_of replica ≡ pair
  pub up : machine.journal.status ≡ Up
  pub stands : Stands replica machine.journal.value
  pub room : machine.journal.room ≡ left_shown replica
  pub generation : machine.journal.generation ≡ generation_shown replica
  pub armed : machine.journal.arms ≡ armed_at (disk.arms (disk_of replica))
  pub runs : is_stopped (disk.arms (disk_of replica)) ≡ false
  pub staging : machine.staging ≡ staging_of agent

-- the disk is stopped, and the machine is down
abbrev pub IsStopped : {D : Type 0} → {disk : Ghosts D} → ℕ → Replica D disk → SideMachine → Type 0
IsStopped pair replica machine = IsDown replica pair machine.journal

-- whether it goes on or stops
pub data IsLeftAs {D : Type 0} {disk : Ghosts D} (pair : ℕ) (replica : Replica D disk)
    (agent : Agent) (machine : SideMachine) : Type 0 where
  goes_on : IsOf pair replica agent machine → IsLeftAs pair replica agent machine
  stops : IsStopped pair replica machine → IsLeftAs pair replica agent machine

-- what is heard of a reply: nothing where the machine stopped
abbrev pub heard : Status → Reply → Option Reply
heard Down reply = None
heard _ reply = Some reply

-- A step of the world's side, with the machine after it, what it says and the events that it adds.
-- An event that it adds, or was writing as its device failed or stopped, is what was sent to the
-- disk last
pub record Takes {D : Type 0} {disk : Ghosts D} (pair : ℕ) (old new : Replica D disk)
    (after : Agent) (machine : SideMachine) (session : ℕ) (request : Request) (reply : Reply)
    : Type 0 where
  pub next : SideMachine
  pub events : List Event
  pub takes : SideTakes pair machine session request next (heard next.journal.status reply) events
  pub leaves : IsLeftAs pair new after next
  pub added : (event : Event) → events ≡ event ∷ [] →
      tried_shown new ≡ Some (event_spelling event)
  pub writing : (event : Event) → next.journal.writing ≡ Some event →
      (machine.journal.writing ≡ Some event)
      ⊎ (tried_shown new ≡ Some (event_spelling event))
  pub counts : CountsNoMore (disk.failures (disk_of old)) (disk.failures (disk_of new))
      machine.journal next.journal
