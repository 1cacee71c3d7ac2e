-- A side as a machine: its journal of events, its staging, and what it does by itself.
use Rattle.std.specs.Prelude.{ℕ, Bool, false, ◌≡◌, ◌⊎◌, List, [], ◌∷◌, ◌++◌, Option, Some, None}
use Rattle.syn_model.specs.Refusal.{Device, Memory, Cause}
use Rattle.syn_model.specs.Refusal as why
use Rattle.syn_model.specs.Event.{Event, IsLawfulEvent}
use Rattle.syn_model.specs.History.{History, IsAllowed, event_causes, standing_of}
use Rattle.syn_model.specs.Spelling.{event_spelling}
use Rattle.syn_model.specs.Image.{image_spelling}
use Rattle.syn_machine.specs.Machine.{Status, Up, Halted, Down, Journaled, Layout, has_room}
use Rattle.syn_machine.specs.Machine.{Writes}
use Rattle.syn_machine.specs.MachineSteps.{Kind, Effect, Calls}
use Rattle.syn_machine.specs.Side.{Request, Stage, Reply, Refused, Staging, Side, Served, Serves}
use Rattle.syn_machine.specs.Side.{answer, stage, token_of, room_causes}

-- what a side stands for is its history; its staging is in memory alone
pub record SideMachine : Type 0 where
  pub journal : Journaled History Event
  pub staging : Option Staging

-- how a side's journal is written
abbrev pub side_layout : ℕ → Layout History Event
side_layout pair = record {
  after = λ history event. history ++ event ∷ [];
  is_idle = λ history event. false;
  payload = event_spelling;
  image = λ history. image_spelling pair (standing_of history);
}

-- the side as its steps see it
abbrev pub side_now : SideMachine → Side
side_now machine = record { history = machine.journal.value; staging = machine.staging }

-- a stop loses what is staged
abbrev pub staging_after : Status → Option Staging → Option Staging
staging_after Down staging = None
staging_after Up staging = staging
staging_after Halted staging = staging

-- a call on the journal left it so
abbrev pub with_journal : SideMachine → Journaled History Event → SideMachine
with_journal machine journal = record {
  journal = journal;
  staging = staging_after journal.status machine.staging;
}

abbrev pub side_kind : ℕ → Kind SideMachine (List Event) History Event
side_kind pair = record {
  layout = side_layout pair;
  CanKeep = IsAllowed;
  journal_of = λ machine. machine.journal;
  with_journal = with_journal;
  acknowledging = λ events. events;
}

-- the record of the event fits into the journal
abbrev pub has_room_for : ℕ → SideMachine → Event → Bool
has_room_for pair machine event = has_room (side_layout pair) machine.journal event

-- why a side that is up refuses an event
abbrev pub causes_of : ℕ → SideMachine → Event → List Cause
causes_of pair machine event =
    event_causes machine.journal.value event ++ room_causes (has_room_for pair machine) event

-- an edit that is made
pub data EditsSide (pair : ℕ) (machine : SideMachine) (event : Event) : SideMachine →
    List Event → Type 0 where
  edits : (journal : Journaled History Event) (events : List Event) → IsLawfulEvent event →
      Writes (side_layout pair) machine.journal event journal events →
      EditsSide pair machine event (with_journal machine journal) events

-- an edit of a user, made or refused
abbrev pub UserEdits : ℕ → SideMachine → Event → Effect SideMachine (List Event)
UserEdits pair machine event =
    Calls (side_kind pair) machine (causes_of pair machine event) (EditsSide pair machine event)

-- a halted side still stages, and refuses all else
abbrev pub serve_halted : Side → ℕ → Request → Served
serve_halted side session (Stage item offset bytes) =
    stage side side.staging (token_of session item) offset bytes
serve_halted side session _ = answer side (Refused why.Halted)

-- it has no memory to stage what it should
abbrev pub CannotStage : Side → Request → Served → Type 0
CannotStage side (Stage item offset bytes) served = served ≡ answer side (Refused Memory)
CannotStage side _ served = ⊥

abbrev pub ServesHalted : Side → ℕ → Request → Served → Type 0
ServesHalted side session request served = (served ≡ serve_halted side session request)
    ⊎ CannotStage side request served

abbrev pub ServesAs : Status → ℕ → (Event → Bool) → Side → ℕ → Request → Served → Type 0
ServesAs Up pair has_room side session request served =
    Serves pair has_room side session request served
ServesAs Halted pair has_room side session request served = ServesHalted side session request served
ServesAs Down pair has_room side session request served = ⊥

-- what a side says once an event is written: what it answers, or that its device failed, or nothing
-- where it stopped
abbrev pub said : Status → Reply → Option Reply
said Up reply = Some reply
said Halted reply = Some (Refused Device)
said Down reply = None

-- A side takes a request: the machine after it, what it says, and the events that it adds.
-- It adds none and makes no device call; or it adds one, and writes that
pub data SideTakes (pair : ℕ) (machine : SideMachine) (session : ℕ) (request : Request) :
    SideMachine → Option Reply → List Event → Type 0 where
  answers : (served : Served) →
      ServesAs machine.journal.status pair (has_room_for pair machine)
      (side_now machine) session request served →
      served.side.history ≡ machine.journal.value →
      SideTakes pair machine session request (record machine { staging = served.side.staging })
      (Some served.reply) []
  adds : (served : Served) (event : Event) (journal : Journaled History Event)
      (events : List Event) →
      machine.journal.status ≡ Up → Serves pair (has_room_for pair machine)
      (side_now machine) session request served →
      served.side.history ≡ machine.journal.value ++ event ∷ [] →
      Writes (side_layout pair) machine.journal event journal events →
      SideTakes pair machine session request (with_journal machine journal)
      (said journal.status served.reply) events
