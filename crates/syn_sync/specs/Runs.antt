-- What a driver does with a coordinator: its acts are a run of the coordinator's machine, what it
-- takes was heard, and what it sends was written.
use Rattle.std.specs.Prelude.{◌≡◌, ◌⊎◌, ◌&&◌, not, ℕ, true, List, [], ◌∷◌, flat_map, if◌then◌else◌}
use Rattle.std.specs.Prelude.{Option}
use Rattle.syn_disk.specs.Arms.{is_stopped}
use Rattle.syn_disk.specs.declared.disk.Disk.{Ghosts}
use Rattle.syn_machine.specs.Acts.{Act, ActsAll, Done}
use Rattle.syn_machine.specs.Acts as acts
use Rattle.syn_machine.specs.Coordinator.{Call, CoordinatorMachine}
use Rattle.syn_machine.specs.Machine.{Status}
use Rattle.syn_machine.specs.Machine as status
use Rattle.syn_machine.specs.MachineSteps.{Checkpoint, refused_by}
use Rattle.syn_machine.specs.Network.{Answers, Asks, Message, Which, is_side}
use Rattle.syn_link.specs.Frames.{Bytes, frame_of}
use Rattle.syn_message.specs.Replies.{ReplyMessage}
use Rattle.syn_message.specs.Requests.{request_spelling}
use Rattle.syn_coordinator.specs.Coordinators.{Stands, device_of, tried_shown}
use Rattle.syn_coordinator.specs.Machines.{LeavesMachine}
use Rattle.syn_coordinator.specs.Tries.{Tries}
use Rattle.syn_coordinator.specs.declared.coordinator.Coordinator.{Coordinator}
use Rattle.syn_sync.specs.Drivers.{ConnectionStates, Outlets}
use Rattle.syn_sync.specs.States.{HearsAll}
use Rattle.syn_sync.specs.Outlets.{Writes}

-- the act that takes a side's reply
abbrev pub taking : Which → ReplyMessage → Act
taking from answering = acts.Taking from answering.session answering.number answering.reply

-- They begin with a start that prefers this, or with a checkpoint and such a start after it. Each
-- was made: it is refused 9 at most, where it left the machine halted
pub data Begins (preference : Option Which) : List Done → Type 0 where
  at_once : (call : Call) (left : Status) (later : List Done) →
      Begins preference (record {
        act = acts.Starting preference;
        call = call;
        refusals = refused_by left;
      } ∷ later)
  with_room : (first second : Call) (between left : Status) (later : List Done) →
      Begins preference (record {
        act = acts.Calling Checkpoint;
        call = first;
        refusals = refused_by between;
      } ∷ record {
        act = acts.Starting preference;
        call = second;
        refusals = refused_by left;
      } ∷ later)

-- the replies of a side that the coordinator was given
abbrev pub answer_in : Which → Act → List ReplyMessage
answer_in side (acts.Taking from session number reply) = if is_side side from
    then record { session = session; number = number; reply = reply } ∷ [] else []
answer_in side (acts.Starting preference) = []
answer_in side acts.Ticking = []
answer_in side (acts.Calling call) = []

abbrev pub answers_in : Which → List Done → List ReplyMessage
answers_in side all = flat_map (λ done. answer_in side done.act) all

-- the request to a side as its frame
abbrev pub frame_to : Which → Message → Bytes
frame_to side (Asks to session number request) = if is_side side to
    then frame_of (request_spelling (record {
      session = session;
      number = number;
      request = request;
    })) else []
frame_to side (Answers from session number reply) = []

abbrev pub frames_to : Which → List Message → Bytes
frames_to side messages = flat_map (frame_to side) messages

-- what is to be written to a side: each request that was sent to it, but none again, since a driver
-- lets time go by only to give up
abbrev pub frames_of : Which → Act → List Message → Bytes
frames_of side acts.Ticking messages = []
frames_of side (acts.Starting preference) messages = frames_to side messages
frames_of side (acts.Taking from session number reply) messages = frames_to side messages
frames_of side (acts.Calling call) messages = frames_to side messages

abbrev pub frames_in : Which → List Done → Bytes
frames_in side all = flat_map (λ done. frames_of side done.act done.call.messages) all

module _ {D : Type 0} {disk : Ghosts D} (new : Coordinator D disk) (pair : ℕ) where
  -- the machine went down in the last call
  pub record Down (machine : CoordinatorMachine) : Type 0 where
    pub stopped : is_stopped (disk.arms (device_of new)) ≡ true
    pub down : machine.journal.status ≡ status.Down
    pub leaves : LeavesMachine disk (device_of new) pair machine.journal
    pub tries : Tries (tried_shown new) machine.journal

  -- The acts lead to the coordinator's machine, or it went down in the last of them. Each reply
  -- that it was given came from its side, in order. The frames of what it sent were written to
  -- their sides, in order: all where the connection goes on and no machine went down, else a
  -- beginning
  pub record Drives (machine : CoordinatorMachine) (states heard : ConnectionStates)
      (from to : Outlets)
      : Type 0 where
    pub acts : List Done
    pub reached : CoordinatorMachine
    pub leads : ActsAll pair machine acts reached
    pub ends : Stands new pair reached ⊎ Down reached
    pub hears : (side : Which) → HearsAll (states side) (answers_in side acts) (heard side)
    pub writes : (side : Which) → Writes (from side) (to side) (frames_in side acts)
        ((to side).goes && not (is_stopped (disk.arms (device_of new))))
