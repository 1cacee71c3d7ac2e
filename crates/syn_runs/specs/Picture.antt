-- What a run may do: a picture of the world without rooms, generations, arms and transcripts. Each
-- step of the world is one of it, with what its user is refused.
use Rattle.std.specs.Option.{option_map_or}
use Rattle.std.specs.List.{count_by}
use Rattle.std.specs.Prelude.{◌<◌, ℕ, zero, suc, true, not, nat_le, ◌≤◌, ◌+◌, filter_map, ◌≡◌, ◌≢◌}
use Rattle.std.specs.Prelude.{◌⊎◌, ◌&&◌, Bool, List, [], ◌∷◌, ◌++◌, slice_get, map, Option, Some}
use Rattle.std.specs.Prelude.{None, is_some, Contains, IfSome, IsSome, IsSomeAnd, All, Any, length}
use Rattle.syn_model.specs.Path.{Path}
use Rattle.syn_model.specs.Limits.{greatest}
use Rattle.syn_model.specs.Refusal.{Refusal, Device, Memory, NoAnswer, Cause, first_cause}
use Rattle.syn_model.specs.Refusal as why
use Rattle.syn_model.specs.Event.{Edit, Event, Edited}
use Rattle.syn_model.specs.History.{IsAllowed, event_causes}
use Rattle.syn_model.specs.Archive.{Archive, Kept, Session, Recorded, RecordedDir, CanKeep}
use Rattle.syn_model.specs.Archive.{after_kept, archive_of}
use Rattle.syn_machine.specs.Side.{Request, Begin, ListAt, Fetch, Stage, Replace, Reply, Piece}
use Rattle.syn_machine.specs.Side.{Done, Refused, IsLawfulRequest, Side, Served, Serves}
use Rattle.syn_machine.specs.Side.{add_event, room_causes}
use Rattle.syn_machine.specs.SideMachine.{ServesAs, staging_after}
use Rattle.syn_machine.specs.Network.{Which, Left, Right, other, WasAnswered, Message, Asks}
use Rattle.syn_machine.specs.Network.{Answers, Sent, NumbersTell, AsksNothingTwice}
use Rattle.syn_machine.specs.Machine.{Status, Up, Halted, Down}
use Rattle.syn_machine.specs.MachineSteps.{causes_at, refused_by}
use Rattle.syn_runs.specs.World.{Machine, At, Coordinator, Step, Edits, Start, Deliver, Tick}
use Rattle.syn_runs.specs.World.{Checkpoint, Fail, Stop, Open, Reopen}
use Rattle.syn_runs.specs.Acknowledged.{Ack, Happened, Kept_by, Stores, kept_in_session}
use Rattle.syn_machine.specs.Planning.{Planned, seen_on, HasBegun, SessionPlan, Log, IsPlanOf}
use Rattle.syn_machine.specs.Planning.{WritesTo}
use Rattle.syn_model.specs.Decision.{Item, Conflict, MarkSame, MarkDir, path_of}
use Rattle.syn_machine.specs.Report.{Report, Complete, Incomplete, is_kept, is_carrying}
use Rattle.syn_machine.specs.Report.{is_marking, conflict_at}
use Rattle.syn_machine.specs.Coordinator.{Outstanding, asked_in, messages_to, MayWait}
use Rattle.syn_machine.specs.Coordinator.{numbered, begins}

-- a side: what it stands for, and which event was being written when it stopped or a device failed
pub record SidePicture : Type 0 where
  pub status : Status
  pub side : Side
  pub writing : Option Event

-- a session that runs: its number, the side that it prefers, what waits on each side, and its plan
-- once it is made
pub record SessionPicture : Type 0 where
  pub session : ℕ
  pub preference : Option Which
  pub left : List Outstanding
  pub right : List Outstanding
  pub plan : List Planned

pub record CoordinatorPicture : Type 0 where
  pub status : Status
  pub archive : Archive
  pub writing : Option Kept
  pub running : Option SessionPicture

pub record Picture : Type 0 where
  pub pair : ℕ
  pub left : SidePicture
  pub right : SidePicture
  pub coordinator : CoordinatorPicture
  pub sent : Sent
  pub acknowledged : List Ack
  pub reports : List (Report × ℕ)
  pub log : Log

-- what its disks stand for
abbrev pub stores_of : Picture → Stores
stores_of world = record {
  left = world.left.side.history;
  right = world.right.side.history;
  archive = world.coordinator.archive;
}

abbrev pub side_of : Picture → Which → SidePicture
side_of world Left = world.left
side_of world Right = world.right

abbrev pub set_side : Picture → Which → SidePicture → Picture
set_side world Left machine = record world { left = machine }
set_side world Right machine = record world { right = machine }

abbrev pub status_of : Picture → Machine → Status
status_of world (At side) = (side_of world side).status
status_of world Coordinator = world.coordinator.status

abbrev pub outstanding : SessionPicture → Which → List Outstanding
outstanding running Left = running.left
outstanding running Right = running.right

abbrev pub asked_of : SessionPicture → Which → ℕ → Option Request
asked_of running side number = asked_in (outstanding running side) number

-- a machine that stops forgets all but its disk
abbrev pub stopped : SidePicture → Option Event → SidePicture
stopped machine writing =
    record {
      status = Down;
      side = record { history = machine.side.history; staging = None };
      writing = writing;
    }

-- an event is written and acknowledged, or the device fails, or it is cut off
pub data Writes (machine : SidePicture) (event : Event) : SidePicture → List Event → Type 0 where
  written : Writes machine event (record machine { side = add_event machine.side event })
      (event ∷ [])
  failed : Writes machine event (record machine { status = Halted; writing = Some event }) []
  cut : Writes machine event (stopped machine (Some event)) []

-- an opening gives the history; or the event too that was being written
pub data Opens (machine : SidePicture) : SidePicture → List Event → Type 0 where
  opened : Opens machine (record machine { status = Up; writing = None }) []
  recovered : (event : Event) → machine.writing ≡ Some event →
      IsAllowed machine.side.history event → Opens machine
      (record { status = Up; side = add_event machine.side event; writing = None }) (event ∷ [])

pub record AnswersRequest (old : Picture) (which : Which) (session number : ℕ) (request : Request)
    (new : Picture) : Type 0 where
  pub served : Served
  pub has_room : Event → Bool
  pub events : List Event
  pub serves : ServesAs (side_of old which).status old.pair has_room
      (side_of old which).side session request served
  pub added : served.side.history ≡ (side_of old which).side.history ++ events
  pub result :
      new ≡ record (set_side old which (record (side_of old which) { side = served.side })) {
        sent = old.sent ++ Answers which session number served.reply ∷ [];
        acknowledged = old.acknowledged ++ map (λ event. Happened which event) events;
      }

-- the event that a request adds to a side that is up, where no device fails and the side does not
-- stop
pub record WouldAdd (pair : ℕ) (machine : SidePicture) (session : ℕ) (request : Request)
    (event : Event) : Type 0 where
  pub served : Served
  pub has_room : Event → Bool
  pub up : machine.status ≡ Up
  pub serves : Serves pair has_room machine.side session request served
  pub adds : served.side.history ≡ machine.side.history ++ event ∷ []

pub data TakesRequest (old : Picture) (which : Which) (session number : ℕ) (request : Request)
    (new : Picture) : Type 0 where
  answered : AnswersRequest old which session number request new →
      TakesRequest old which session number request new
  request_failed : (event : Event) → WouldAdd old.pair (side_of old which) session request event →
      new ≡ record (set_side old which
      (record (side_of old which) { status = Halted; writing = Some event }))
      { sent = old.sent ++ Answers which session number (Refused Device) ∷ [] } →
      TakesRequest old which session number request new
  request_cut : (event : Event) → WouldAdd old.pair (side_of old which) session request event →
      new ≡ set_side old which (stopped (side_of old which) (Some event)) →
      TakesRequest old which session number request new

-- The coordinator

-- a piece of the item's source was answered so, for what is to be written to a side
abbrev pub IsPiece : Sent → Which → ℕ → Planned → ℕ → ℕ → List ℕ → Type 0
IsPiece sent to session planned offset total bytes =
    WasAnswered sent (other to) session
    (Fetch (path_of planned.item) (seen_on planned (other to)).since offset) (Piece total bytes)

-- what is staged for an item was a piece of the source, at the same place
abbrev pub IsFetched : Sent → Which → ℕ → Planned → ℕ → List ℕ → Type 0
IsFetched sent to session planned offset bytes =
    (total : ℕ) × IsPiece sent to session planned offset total bytes

-- the source's pieces said that this is the length of the whole
abbrev pub IsTotal : Sent → Which → ℕ → Planned → ℕ → Type 0
IsTotal sent to session planned total =
    (offset : ℕ) × (bytes : List ℕ) × IsPiece sent to session planned offset total bytes

-- a piece is fetched from the beginning, or from below the length that a piece of the path gave
abbrev pub IsWanted : Sent → ℕ → Path → ℕ → Type 0
IsWanted sent session path offset = (offset ≡ 0)
    ⊎ ((from : Which) × (since : ℕ) × (before : ℕ) × (total : ℕ) × (bytes : List ℕ)
    × (offset < total)
    × WasAnswered sent from session (Fetch path since before) (Piece total bytes))

-- a session may be begun with any number of a pair, a side is listed once it has begun it, and what
-- else is asked of it is by an item of the plan: a piece of what it is to give, a piece that was
-- fetched, or its replacement, once the length of the whole is known
abbrev pub IsOfPlan : ℕ → Sent → ℕ → List Planned → Which → Request → Type 0
IsOfPlan pair sent session plan to (Begin asked) = Unit {0}
IsOfPlan pair sent session plan to (ListAt path) = HasBegun sent to session
IsOfPlan pair sent session plan to (Fetch path since offset) =
    (item : ℕ) × (planned : Planned) × (slice_get plan item ≡ Some planned)
    × WritesTo planned.item (other to) path × (since ≡ (seen_on planned to).since)
    × IsWanted sent session path offset
IsOfPlan pair sent session plan to (Stage item offset bytes) =
    (planned : Planned) × (slice_get plan item ≡ Some planned)
    × IsFetched sent to session planned offset bytes
IsOfPlan pair sent session plan to (Replace item path since size) =
    (planned : Planned) × (slice_get plan item ≡ Some planned) × WritesTo planned.item to path
    × (since ≡ (seen_on planned to).since) × IsTotal sent to session planned size

-- a request of the running session
abbrev pub IsOfSession : ℕ → Sent → SessionPicture → Message → Type 0
IsOfSession pair sent running (Asks to session number request) =
    (session ≡ running.session) × IsLawfulRequest session request
    × IsOfPlan pair sent running.session running.plan to request
IsOfSession pair sent running (Answers from session number reply) = ⊥

-- what may be recorded when an answer is taken: the item whose replacement is done, with the mark
-- of its source, or where both scans agree
pub data IsDue (running : SessionPicture) (plan : List Planned) (from : Which) (number : ℕ)
    (reply : Reply) : Kept → Type 0 where
  done : (item : ℕ) (path : Path) (since size : ℕ) (planned : Planned) → reply ≡ Done →
      asked_of running from number ≡ Some (Replace item path since size) →
      slice_get plan item ≡ Some planned → WritesTo planned.item from path →
      IsDue running plan from number reply (Recorded path (seen_on planned (other from)).marks)
  same : (item : ℕ) (path : Path) (planned : Planned) → slice_get plan item ≡ Some planned →
      planned.item ≡ MarkSame path → planned.left.marks ≡ planned.right.marks →
      IsDue running plan from number reply (Recorded path planned.left.marks)
  directory : (item : ℕ) (path : Path) (planned : Planned) → slice_get plan item ≡ Some planned →
      planned.item ≡ MarkDir path → IsDue running plan from number reply (RecordedDir path)

abbrev pub AllOfSession : ℕ → Sent → Option SessionPicture → List Message → Type 0
AllOfSession pair sent None messages = messages ≡ []
AllOfSession pair sent (Some running) messages = All (IsOfSession pair sent running) messages

-- a plan is made once in a session, of the scans and the archive as they are, with the side that
-- the session prefers
pub record MakesPlan (sent : Sent) (archive : Archive) (log : Log) (session : ℕ)
    (preference : Option Which) (made : SessionPlan) : Type 0 where
  pub of_session : made.session ≡ session
  pub prefers : made.preference ≡ preference
  pub once : All (λ earlier. earlier.session ≢ session) log
  pub archive_is : made.archive ≡ archive.marks
  pub is : IsPlanOf sent made

-- the plan stays, or it is made, and logged
abbrev pub HasPlan : Sent → Archive → Log → Option SessionPicture → List Planned → Log → Type 0
HasPlan sent archive log running plan logged =
    IfSome running (λ running. ((plan ≡ running.plan) × (logged ≡ []))
    ⊎ ((made : SessionPlan)
    × MakesPlan sent archive log running.session running.preference made × (plan ≡ made.plan)
    × (logged ≡ made ∷ [])))

-- a session ends, or goes on with its plan and the side that it prefers
pub data GoesOnAs (old : SessionPicture) (plan : List Planned) : Option SessionPicture → Type 0
  where
    ended : GoesOnAs old plan None
    goes_on : (new : SessionPicture) → new.session ≡ old.session →
        new.preference ≡ old.preference → new.plan ≡ plan → GoesOnAs old plan (Some new)

abbrev pub GoesOnFrom : Option SessionPicture → List Planned → Option SessionPicture → Type 0
GoesOnFrom None plan new = new ≡ None
GoesOnFrom (Some old) plan new = GoesOnAs old plan new

abbrev pub plan_of : Option SessionPicture → List Planned
plan_of running = option_map_or (λ running. running.plan) running []

-- a session starts with the next number, and prefers this side
abbrev pub StartsFrom : Option Which → Archive → Option SessionPicture → Type 0
StartsFrom preference archive running =
    IfSome running (λ new. (new.session ≡ archive.last_session + 1) × (new.plan ≡ [])
    × (new.preference ≡ preference))

-- a request that waits was sent
abbrev pub WasSent : Sent → SessionPicture → Type 0
WasSent sent running =
    (side : Which) →
    All (λ waiting. Contains sent (Asks side running.session waiting.number waiting.request))
    (outstanding running side)

-- it waits for both sides to begin it, and for nothing else
abbrev pub BeginsBoth : ℕ → SessionPicture → Type 0
BeginsBoth pair running =
    (running.left ≡ numbered 0 (begins pair)) × (running.right ≡ numbered 0 (begins pair))

-- it waits for an answer, and on each side for no more than it may at a time
abbrev pub Waits : SessionPicture → Type 0
Waits running =
    (1 ≤ length running.left + length running.right)
    × MayWait running.left × MayWait running.right

-- a running session has the number that the archive kept last, waits for an answer, and what waits
-- was sent
abbrev pub RunsOver : Sent → Archive → Option SessionPicture → Type 0
RunsOver sent archive running =
    IfSome running
    (λ running. (running.session ≡ archive.last_session) × WasSent sent running × Waits running)

-- each in turn may be kept
abbrev pub AllCanKeep : Archive → List Kept → Type 0
AllCanKeep archive [] = Unit {0}
AllCanKeep archive (kept ∷ more) = CanKeep archive kept × AllCanKeep (after_kept archive kept) more

-- what a call of the coordinator keeps, and how it ends: with one more record that the device
-- failed on, or that a stop cut off
pub record Keeps (old : CoordinatorPicture) (IsDue_now : Kept → Type 0) (new : CoordinatorPicture)
    (kept : List Kept) : Type 0 where
  pub due : All IsDue_now kept
  pub can : AllCanKeep old.archive kept
  pub archive : new.archive ≡ archive_of old.archive kept
  pub writing : IfSome new.writing (λ more. IsDue_now more × CanKeep new.archive more)

-- a call of the coordinator: what it sends is of its session, what it keeps is due, and this is
-- logged. It brings no machine up
pub record CoordinatorGoes (old : Picture) (logged : Log) (IsDue_now : Kept → Type 0)
    (RunsOn : Option SessionPicture → Type 0) (new : Picture) : Type 0 where
  pub machine : CoordinatorPicture
  pub kept : List Kept
  pub messages : List Message
  pub reports : List (Report × ℕ)
  pub keeps : Keeps old.coordinator IsDue_now machine kept
  pub unless_up : machine.status ≡ Up → machine.writing ≡ None
  pub rises_not : old.coordinator.status ≢ Up → machine.status ≡ old.coordinator.status
  pub runs_on : RunsOn machine.running
  pub runs_over : RunsOver (old.sent ++ messages) machine.archive machine.running
  pub numbers : NumbersTell (old.sent ++ messages)
  pub repeats : AsksNothingTwice (old.sent ++ messages)
  pub of_session : AllOfSession old.pair old.sent machine.running messages
  pub silent_when_writing : IsSome machine.writing → (messages ≡ []) × (machine.running ≡ None)
  pub result : new ≡ record old {
    coordinator = machine;
    sent = old.sent ++ messages;
    acknowledged = old.acknowledged
        ++ map Kept_by kept;
    reports = old.reports ++ reports;
    log = old.log ++ logged;
  }

-- the answer has the session and number of a request that is outstanding
abbrev pub IsExpected : Option SessionPicture → Which → ℕ → ℕ → Type 0
IsExpected running from session number =
    IsSomeAnd running
    (λ running. (session ≡ running.session) × IsSome (asked_of running from number))

abbrev pub IsDueAfter : Option SessionPicture → List Planned → Which → ℕ → Reply → Kept → Type 0
IsDueAfter running plan from number reply kept =
    IsSomeAnd running (λ running. IsDue running plan from number reply kept)

-- a start takes the next number
abbrev pub IsNext : Archive → Kept → Type 0
IsNext archive kept = kept ≡ Session (archive.last_session + 1)

abbrev pub IsNothing : Kept → Type 0
IsNothing kept = ⊥

-- the item is recorded, a conflict or refused
abbrev pub IsSettled : List Kept → Report → Item → Type 0
IsSettled kept report (Conflict path) = Contains report.conflicts path
IsSettled kept report item =
    (is_kept kept item ≡ true) ⊎ Any (λ refused. refused.1 ≡ path_of item) report.refused

-- of the items that carry, and of those that only mark, how many are recorded
pub record Counts (plan : List Planned) (kept : List Kept) (report : Report) : Type 0 where
  pub done : report.done
      ≡ count_by (λ planned. is_carrying planned.item && is_kept kept planned.item) plan
  pub marked : report.marked
      ≡ count_by (λ planned. is_marking planned.item && is_kept kept planned.item) plan

-- a session that ended completely had made its plan and settled each item of it
pub record EndsAs (session : ℕ) (log : Log) (plan : List Planned) (kept : List Kept)
    (report : Report) : Type 0 where
  pub session_is : report.session ≡ session
  pub complete : report.end ≡ Complete → (report.ended ≡ None) × (report.refused ≡ [])
  pub made : report.ended ≡ None → Any (λ made. made.session ≡ session) log
  pub settled : report.ended ≡ None → All (λ planned. IsSettled kept report planned.item) plan
  pub conflicts : report.ended ≡ None →
      report.conflicts ≡ filter_map (λ planned. conflict_at planned.item) plan

abbrev pub Ends : Picture → List Planned → SessionPicture → Report → Type 0
Ends new plan running report =
    EndsAs running.session new.log plan (kept_in_session new.acknowledged) report

-- the session ended early: an answer did not come, or memory was refused
abbrev pub EndsUnanswered : SessionPicture → Report → Type 0
EndsUnanswered running report = (report.session ≡ running.session) × (report.end ≡ Incomplete)
    × ((report.ended ≡ Some NoAnswer) ⊎ (report.ended ≡ Some Memory))

-- the session goes on without a report, or is forgotten as the machine stops; or it is over, and
-- reports how it ended
abbrev pub Reports : Picture → Picture → List Planned → (SessionPicture → Report → Type 0) → Type 0
Reports old new plan Ends_so =
    ((new.reports ≡ old.reports)
    × (IsSome new.coordinator.running ⊎ (new.coordinator.status ≡ Down)))
    ⊎ ((running : SessionPicture) × (report : Report) × (old.coordinator.running ≡ Some running)
    × (new.reports ≡ old.reports ++ (report, length new.acknowledged) ∷ []) × Ends_so running report
    × Counts plan (kept_in_session new.acknowledged) report × (new.coordinator.running ≡ None))

-- The steps

-- The machine of which a user asks something by this step, and why it may refuse that. Whether a
-- record has room, and whether a checkpoint can be made, is not in the picture
pub data MayRefuse (old : Picture) : Step → Machine → List Cause → Type 0 where
  an_edit : (which : Which) (user : ℕ) (edit : Edit) (has_room : Event → Bool) →
      MayRefuse old (Edits which user edit) (At which)
      (event_causes (side_of old which).side.history (Edited user edit)
      ++ room_causes has_room (Edited user edit))
  a_start : (preference : Option Which) (has_room : Bool) →
      MayRefuse old (Start preference) Coordinator ((is_some old.coordinator.running, why.Busy)
      ∷ (nat_le greatest old.coordinator.archive.last_session, why.Full)
      ∷ (not has_room, why.JournalFull) ∷ [])
  a_checkpoint : (machine : Machine) (is_last : Bool) →
      MayRefuse old (Checkpoint machine) machine ((is_last, why.Full) ∷ [])

-- the machine is not down, and refuses the step with the first of its causes, or for lack of memory
-- where none stands
pub record IsRefused (old : Picture) (step : Step) (reason : Refusal) : Type 0 where
  pub machine : Machine
  pub causes : List Cause
  pub may : MayRefuse old step machine causes
  pub not_down : status_of old machine ≢ Down
  pub first :
      first_cause (causes_at (status_of old machine) causes ++ (true, Memory) ∷ []) ≡ Some reason

-- the machine on which the step is lost while that is down
abbrev pub lost_on : Step → Option Machine
lost_on (Edits side user edit) = Some (At side)
lost_on (Start preference) = Some Coordinator
lost_on (Deliver message) = None
lost_on Tick = None
lost_on (Checkpoint machine) = Some machine
lost_on (Fail machine call) = Some machine
lost_on (Stop machine calls) = Some machine
lost_on (Open machine) = None
lost_on (Reopen machine) = Some machine

-- Why a step changes nothing, and what its user is refused: it is lost or refused; what it opens is
-- open, or memory is refused for that; the message that it names was never sent, or its side is
-- down, or nobody waits for it; or it is a tick, and no session runs
pub data IsIdle (old : Picture) : Step → List Refusal → Type 0 where
  lost : (step : Step) (machine : Machine) → lost_on step ≡ Some machine →
      status_of old machine ≡ Down → IsIdle old step []
  refused : (step : Step) (reason : Refusal) → IsRefused old step reason →
      IsIdle old step (reason ∷ [])
  is_open : (machine : Machine) → status_of old machine ≢ Down → IsIdle old (Open machine) []
  no_memory_to_open : (machine : Machine) → status_of old machine ≡ Down →
      IsIdle old (Open machine) (Memory ∷ [])
  no_message : (message : ℕ) → slice_get old.sent message ≡ None → IsIdle old (Deliver message) []
  to_no_side : (message : ℕ) (which : Which) (session number : ℕ) (request : Request) →
      slice_get old.sent message ≡ Some (Asks which session number request) →
      (side_of old which).status ≡ Down → IsIdle old (Deliver message) []
  not_expected : (message : ℕ) (from : Which) (session number : ℕ) (reply : Reply) →
      slice_get old.sent message ≡ Some (Answers from session number reply) →
      (IsExpected old.coordinator.running from session number → ⊥) →
      IsIdle old (Deliver message) []
  no_session : old.coordinator.running ≡ None → IsIdle old Tick []

-- what a step by which a machine adds nothing leaves of its status, and what its user is refused:
-- it arms a failure or a stop, is a checkpoint that is made, fails or is cut off, stops the machine
-- at once, or opens its disk in vain
pub data Settles (machine : Machine) (was : Status) : Step → Status → List Refusal → Type 0 where
  compacts : (status : Status) → was ≡ Up →
      Settles machine was (Checkpoint machine) status (refused_by status)
  arms_failure : (call : ℕ) → Settles machine was (Fail machine call) was []
  arms_stop : (calls : ℕ) → Settles machine was (Stop machine (suc calls)) was []
  stops : was ≢ Down → Settles machine was (Stop machine zero) Down []
  not_opened : was ≡ Down → Settles machine was (Open machine) Down (Device ∷ [])
  not_reopened : was ≢ Down → Settles machine was (Reopen machine) Halted (Device ∷ [])
  reopening_cut : was ≢ Down → Settles machine was (Reopen machine) Down []
  no_memory_to_reopen : was ≢ Down → Settles machine was (Reopen machine) was (Memory ∷ [])

-- a stop loses the session that runs
abbrev pub session_after : Status → Option SessionPicture → Option SessionPicture
session_after Down running = None
session_after Up running = running
session_after Halted running = running

-- a step opens the machine's disk
pub data IsOpening (machine : Machine) (was : Status) : Step → Type 0 where
  opening : was ≡ Down → IsOpening machine was (Open machine)
  reopening : was ≢ Down → IsOpening machine was (Reopen machine)

-- all that waits, as it is sent again
abbrev pub all_waiting : SessionPicture → List Message
all_waiting running =
    messages_to running.session Left running.left ++ messages_to running.session Right running.right

-- One step: what the machines do in it, and what its user is refused
pub data Follows (old new : Picture) : Step → List Refusal → Type 0 where
  same : (step : Step) (told : List Refusal) → IsIdle old step told → new ≡ old →
      Follows old new step told
  edits : (which : Which) (user : ℕ) (edit : Edit) (machine : SidePicture) (events : List Event) →
      IsAllowed (side_of old which).side.history (Edited user edit) →
      (side_of old which).status ≡ Up →
      Writes (side_of old which) (Edited user edit) machine events →
      new ≡ record (set_side old which machine) {
        sent = old.sent ++ [];
        acknowledged =
            old.acknowledged ++ map (λ event. Happened which event) events;
      } → Follows old new (Edits which user edit) (refused_by machine.status)
  opens : (which : Which) (step : Step) (machine : SidePicture) (events : List Event) →
      IsOpening (At which) (side_of old which).status step →
      Opens (side_of old which) machine events →
      new ≡ record (set_side old which machine) {
        sent = old.sent ++ [];
        acknowledged =
            old.acknowledged ++ map (λ event. Happened which event) events;
      } → Follows old new step []
  changes : (which : Which) (step : Step) (status : Status) (told : List Refusal) →
      Settles (At which) (side_of old which).status step status told →
      new ≡ set_side old which (record (side_of old which) {
        status = status;
        side = record {
          history = (side_of old which).side.history;
          staging = staging_after status (side_of old which).side.staging;
        };
      }) → Follows old new step told
  serves : (message : ℕ) (which : Which) (session number : ℕ) (request : Request) →
      slice_get old.sent message ≡ Some (Asks which session number request) →
      TakesRequest old which session number request new → Follows old new (Deliver message) []
  starts_session : (preference : Option Which) → old.coordinator.status ≡ Up →
      old.coordinator.running ≡ None → CoordinatorGoes old [] (IsNext old.coordinator.archive)
      (StartsFrom preference old.coordinator.archive) new →
      (new.coordinator.status ≡ Up → IsSomeAnd new.coordinator.running (BeginsBoth old.pair)) →
      new.reports ≡ old.reports →
      Follows old new (Start preference) (refused_by new.coordinator.status)
  ticks_once : (running : SessionPicture) → old.coordinator.running ≡ Some running →
      CoordinatorGoes old
      [] IsNothing (GoesOnFrom old.coordinator.running (plan_of old.coordinator.running)) new →
      Reports old new (plan_of old.coordinator.running) EndsUnanswered →
      new.coordinator.status ≡ old.coordinator.status →
      IfSome new.coordinator.running (λ later. new.sent ≡ old.sent ++ all_waiting running) →
      Follows old new Tick []
  takes_answer : (message : ℕ) (from : Which) (session number : ℕ) (reply : Reply)
      (plan : List Planned) (logged : Log) →
      slice_get old.sent message ≡ Some (Answers from session number reply) →
      IsExpected old.coordinator.running from session number →
      HasPlan old.sent old.coordinator.archive old.log old.coordinator.running plan logged →
      CoordinatorGoes old logged (IsDueAfter old.coordinator.running plan from number reply)
      (GoesOnFrom old.coordinator.running plan) new → Reports old new plan (Ends new plan) →
      IfSome new.coordinator.running (λ running. asked_of running from number ≡ None) →
      Follows old new (Deliver message) []
  archive_changes : (step : Step) (status : Status) (told : List Refusal) →
      Settles Coordinator old.coordinator.status step status told →
      new ≡ record old {
        coordinator = record old.coordinator {
          status = status;
          running = session_after status old.coordinator.running;
        };
      } → Follows old new step told
  archive_opens : (step : Step) → IsOpening Coordinator old.coordinator.status step →
      new ≡ record old { coordinator = record old.coordinator { status = Up; writing = None } } →
      Follows old new step []
  archive_recovers : (step : Step) (kept : Kept) →
      IsOpening Coordinator old.coordinator.status step → old.coordinator.writing ≡ Some kept →
      CanKeep old.coordinator.archive kept → new ≡ record old {
        coordinator = record old.coordinator
            { status = Up; archive = after_kept old.coordinator.archive kept; writing = None };
        acknowledged = old.acknowledged ++ map Kept_by (kept ∷ []);
      } → Follows old new step []

-- steps, one after another, and what their users are refused, in order of time
pub data FollowsAll : Picture → List Step → List Refusal → Picture → Type 0 where
  nothing_more : (world : Picture) → FollowsAll world [] [] world
  one_more : (old between new : Picture) (step : Step) (steps : List Step)
      (told later : List Refusal) → Follows old between step told →
      FollowsAll between steps later new → FollowsAll old (step ∷ steps) (told ++ later) new
