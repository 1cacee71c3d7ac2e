-- What a side answers from its replica, and what becomes of that.
use Rattle.std.specs.Prelude.{◌≡◌, ◌<◌, ℕ, Bool, nat_le, [], ◌∷◌, ◌++◌, Option, Some, None}
use Rattle.syn_agent.specs.Agents.{side_of, staging_of}
use Rattle.syn_agent.specs.declared.agent.Agent.{Agent}
use Rattle.syn_disk.specs.Calls.{Breaks, Makes}
use Rattle.syn_disk.specs.Stops.{LeavesOnly}
use Rattle.syn_disk.specs.declared.disk.Disk.{Ghosts}
use Rattle.syn_machine.specs.Machine.{record_size}
use Rattle.syn_machine.specs.Side.{Request, Reply, Refused, Served, Serves}
use Rattle.syn_model.specs.Event.{Event}
use Rattle.syn_model.specs.History.{History}
use Rattle.syn_model.specs.Refusal.{Refusal, Device}
use Rattle.syn_model.specs.Spelling.{event_spelling}
use Rattle.syn_replica.specs.Machines.{IsMachine, Journal, WritesUnlessDone}
use Rattle.syn_replica.specs.Replica.{Stands, SameMemory, KeepsReadings, KeepsBeforeOrAfter}
use Rattle.syn_replica.specs.Replica.{HasRecord, IsHalted}
use Rattle.syn_replica.specs.Replica.{disk_of, journal_of, left_shown, pair_of, tried_shown}
use Rattle.syn_replica.specs.declared.replica.Replica.{Replica}

-- the record of the event fits into what the journal has left
abbrev pub room_for : {D : Type 0} → {disk : Ghosts D} → Replica D disk → Event → Bool
room_for replica event = nat_le (record_size (event_spelling event)) (left_shown replica)

-- the replica stays as it was, and its disk
pub record IsUnchanged {D : Type 0} {disk : Ghosts D} (old new : Replica D disk) : Type 0 where
  pub memory : SameMemory old new
  pub journal : journal_of new ≡ journal_of old
  pub tried : tried_shown new ≡ tried_shown old

-- the event was sent to the disk, and a stop at any moment of that leaves the history with it or
-- without it
pub record Sends {D : Type 0} {disk : Ghosts D} (old new : Replica D disk) (history : History)
    (event : Event) : Type 0 where
  pub tried : tried_shown new ≡ Some (event_spelling event)
  pub any_moment : LeavesOnly disk.moment disk.left_since (disk_of old) (disk_of new)
      (KeepsBeforeOrAfter old history event)

-- what the writing of the event is to each machine of the model that the replica is
abbrev pub WritesFor : {D : Type 0} → {disk : Ghosts D} → Replica D disk → Replica D disk →
    Option Event → Option Refusal → Type 0
WritesFor old new event why = (number : ℕ) (machine : Journal) → IsMachine old number machine →
    WritesUnlessDone new number machine event why

-- the record of an event is written
pub record Adds {D : Type 0} {disk : Ghosts D} (old new : Replica D disk) (history : History)
    (event : Event) : Type 0 where
  pub stands : Stands new (history ++ event ∷ [])
  pub has : HasRecord old new event
  pub sends : Sends old new history event
  pub calls : Makes 4 (disk.arms (disk_of old)) (disk.arms (disk_of new))
  pub failures : disk.failures (disk_of new) ≡ disk.failures (disk_of old)
  pub world : WritesFor old new (Some event) None

-- the device failed as it was written
pub record BreaksOff {D : Type 0} {disk : Ghosts D} (old new : Replica D disk) (history : History)
    (event : Event) : Type 0 where
  pub halted : IsHalted new
  pub readings : KeepsReadings old new
  pub sends : Sends old new history event
  pub seen : KeepsBeforeOrAfter old history event (disk.seen (disk_of new))
  pub calls : Breaks 4 (disk.arms (disk_of old)) (disk.arms (disk_of new))
  pub failures : disk.failures (disk_of old) < disk.failures (disk_of new)
  pub world : WritesFor old new (Some event) (Some Device)

-- One answer of a side that runs: nothing is added to its history, or one event; or an event should
-- be added, and the device failed. What is staged stays where an event is, or should be, added
pub data Answers {D : Type 0} {disk : Ghosts D} (old new : Replica D disk) (agent after : Agent)
    (history : History) (session : ℕ) (request : Request) : Reply → Type 0 where
  keeps : (served : Served) →
      Serves (pair_of old) (room_for old) (side_of history agent) session request served →
      served.side ≡ side_of history after → IsUnchanged old new → Stands new history →
      Answers old new agent after history session request served.reply
  adds : (served : Served) (event : Event) →
      Serves (pair_of old) (room_for old) (side_of history agent) session request served →
      served.side ≡ side_of (history ++ event ∷ []) agent → staging_of after ≡ staging_of agent →
      Adds old new history event → Answers old new agent after history session request served.reply
  breaks : (served : Served) (event : Event) →
      Serves (pair_of old) (room_for old) (side_of history agent) session request served →
      served.side ≡ side_of (history ++ event ∷ []) agent → staging_of after ≡ staging_of agent →
      BreaksOff old new history event →
      Answers old new agent after history session request (Refused Device)
