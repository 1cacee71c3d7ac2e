-- What two served sides and one coordinator did, each by itself, merged into one list; and the run
-- of the world that it is.
--
-- The requests of a session come to a side over one connection, and over that comes nothing but
-- what the coordinator sent. The network may lose a message, or bring it late, again or in another
-- order. A connection of anybody else lists and fetches, and does nothing else.
use Rattle.std.specs.Prelude.{ℕ, ◌<◌, ◌≡◌, ◌⊎◌, not, Bool, true, false, List, [], ◌∷◌, ◌++◌, map}
use Rattle.std.specs.Prelude.{filter, filter_map, flat_map, fold, length, Option, Some, None}
use Rattle.std.specs.Prelude.{Contains}
use Rattle.syn_model.specs.Refusal.{Refusal}
use Rattle.syn_model.specs.History.{last_session}
use Rattle.syn_machine.specs.MachineSteps.{MachineCall}
use Rattle.syn_machine.specs.MachineSteps as one
use Rattle.syn_machine.specs.Side.{Request, ListAt, Fetch, Reply}
use Rattle.syn_machine.specs.SideMachine.{SideMachine}
use Rattle.syn_machine.specs.Server.{Server, Live, Held, Hold, ByUser, ByRequest, ByClose}
use Rattle.syn_machine.specs.Server.{ByMachine, HoldsAll}
use Rattle.syn_machine.specs.Network.{Which, Left, Right, Message, Asks, Answers}
use Rattle.syn_machine.specs.Planning.{Log}
use Rattle.syn_machine.specs.Report.{Report}
use Rattle.syn_machine.specs.Coordinator.{CoordinatorMachine}
use Rattle.syn_machine.specs.Acts.{Act, Starting, Taking, Ticking, Calling, Done, ActsAll}
use Rattle.syn_runs.specs.Acknowledged.{Ack, Happened, Kept_by, Stores}
use Rattle.syn_runs.specs.World.{World, Machine, At, Coordinator, Step, Edits, Start, Deliver, Tick}
use Rattle.syn_runs.specs.World.{Checkpoint, Fail, Stop, Open, Reopen, Runs, says, side_of}
use Rattle.syn_runs.specs.Picture.{Picture}
use Rattle.syn_runs.specs.Runs.{IsStart, picture_of, stores_of}

-- The merged list

-- a hold of a side, or an act of the coordinator
pub data Moment : Type 0 where
  OnSide : (side : Which) (held : Held) → Moment
  OnCoordinator : (done : Done) → Moment

abbrev pub held_on : Which → Moment → Option Held
held_on Left (OnSide Left held) = Some held
held_on Right (OnSide Right held) = Some held
held_on _ _ = None

abbrev pub act_in : Moment → Option Done
act_in (OnSide side held) = None
act_in (OnCoordinator done) = Some done

-- what each machine did in it
abbrev pub holds_of : Which → List Moment → List Held
holds_of side merged = filter_map (held_on side) merged

abbrev pub acts_of : List Moment → List Done
acts_of merged = filter_map act_in merged

-- The order

-- the requests that the coordinator sent, and the replies that the sides wrote
abbrev pub said_by : Which → Hold → Option Reply → List Message
said_by side (ByRequest connection session number request) reply = says side session number reply
said_by side (ByUser user edit) reply = []
said_by side (ByClose connection) reply = []
said_by side (ByMachine call) reply = []

abbrev pub messages_in : Moment → List Message
messages_in (OnSide side held) = said_by side held.hold held.reply
messages_in (OnCoordinator done) = done.call.messages

abbrev pub messages_of : List Moment → List Message
messages_of merged = flat_map messages_in merged

-- it asks for more than a reply
abbrev pub MayChange : Request → Type 0
MayChange (ListAt path) = ⊥
MayChange (Fetch path since offset) = ⊥
MayChange _ = Unit {0}

-- over which connection to a side the coordinator sends the requests of a session
abbrev pub Connections : Type 0
Connections = Which → ℕ → ℕ

-- what begins, stages or replaces came over the connection of its session; and what came over that
-- had been sent
abbrev pub WasSent : Connections → List Moment → Which → Hold → Type 0
WasSent connections earlier side (ByRequest connection session number request) =
    (MayChange request → connection ≡ connections side session)
    × (connection ≡ connections side session →
    Contains (messages_of earlier) (Asks side session number request))
WasSent connections earlier side (ByUser user edit) = Unit {0}
WasSent connections earlier side (ByClose connection) = Unit {0}
WasSent connections earlier side (ByMachine call) = Unit {0}

-- a reply that was taken had been written, over the connection of its session
pub record WasWritten (connections : Connections) (earlier : List Moment) (from : Which)
    (session number : ℕ) (reply : Reply) : Type 0 where
  pub before : List Moment
  pub later : List Moment
  pub held : Held
  pub request : Request
  pub over : held.hold ≡ ByRequest (connections from session) session number request
  pub says_so : held.reply ≡ Some reply
  pub written : earlier ≡ before ++ OnSide from held ∷ later

abbrev pub WasHeard : Connections → List Moment → Act → Type 0
WasHeard connections earlier (Taking from session number reply) =
    WasWritten connections earlier from session number reply
WasHeard connections earlier (Starting preference) = Unit {0}
WasHeard connections earlier Ticking = Unit {0}
WasHeard connections earlier (Calling call) = Unit {0}

abbrev pub MayCome : Connections → List Moment → Moment → Type 0
MayCome connections earlier (OnSide side held) = WasSent connections earlier side held.hold
MayCome connections earlier (OnCoordinator done) = WasHeard connections earlier done.act

-- each may come after those before it
abbrev pub AreInOrder : Connections → List Moment → List Moment → Type 0
AreInOrder connections earlier [] = Unit {0}
AreInOrder connections earlier (moment ∷ later) =
    MayCome connections earlier moment × AreInOrder connections (earlier ++ moment ∷ []) later

-- a side that was just opened serves no connection yet
abbrev pub server_of : SideMachine → Server
server_of machine = record { journal = machine.journal; connections = λ connection. Live None }

-- The traces of three machines, each from where it was first opened, whenever that was, and their
-- merge
pub record IsMerged (connections : Connections) (old : World) (merged : List Moment)
    (left right : Server) (coordinator : CoordinatorMachine) : Type 0 where
  pub opened : IsStart old
  pub on_left : HoldsAll old.pair (server_of old.left) (holds_of Left merged) left
  pub on_right : HoldsAll old.pair (server_of old.right) (holds_of Right merged) right
  pub acts : ActsAll old.pair old.coordinator (acts_of merged) coordinator
  pub ordered : AreInOrder connections [] merged

-- The run

-- what was acknowledged, what users were refused, what was reported and which plans were made
pub record Told : Type 0 where
  pub acknowledged : List Ack
  pub refusals : List Refusal
  pub reports : List (Report × ℕ)
  pub log : Log

abbrev pub nothing_told : Told
nothing_told = record { acknowledged = []; refusals = []; reports = []; log = [] }

abbrev pub told_after : Told → Moment → Told
told_after told (OnSide side held) = record told {
  acknowledged = told.acknowledged ++ map (λ event. Happened side event) held.events;
  refusals = told.refusals ++ held.refusals;
}
told_after told (OnCoordinator done) =
    let acknowledged = told.acknowledged ++ map Kept_by done.call.kept in
    record {
      acknowledged = acknowledged;
      refusals = told.refusals ++ done.refusals;
      reports = told.reports ++ map (λ report. (report, length acknowledged)) done.call.reports;
      log = told.log ++ done.call.logged;
    }

abbrev pub told_by : List Moment → Told
told_by merged = fold told_after nothing_told merged

abbrev pub told_in : World → Told
told_in world = record {
  acknowledged = world.acknowledged;
  refusals = world.refusals;
  reports = world.reports;
  log = world.log;
}

-- the step that a machine does by itself
abbrev pub step_by : Machine → MachineCall → Step
step_by machine one.Checkpoint = Checkpoint machine
step_by machine (one.Fail call) = Fail machine call
step_by machine (one.Stop calls) = Stop machine calls
step_by machine one.Open = Open machine
step_by machine one.Reopen = Reopen machine

-- the steps that are no deliveries
abbrev pub hold_steps : Which → Hold → List Step
hold_steps side (ByUser user edit) = Edits side user edit ∷ []
hold_steps side (ByRequest connection session number request) = []
hold_steps side (ByClose connection) = []
hold_steps side (ByMachine call) = step_by (At side) call ∷ []

abbrev pub act_steps : Act → List Step
act_steps (Starting preference) = Start preference ∷ []
act_steps (Taking from session number reply) = []
act_steps Ticking = Tick ∷ []
act_steps (Calling call) = step_by Coordinator call ∷ []

abbrev pub steps_in : Moment → List Step
steps_in (OnSide side held) = hold_steps side held.hold
steps_in (OnCoordinator done) = act_steps done.act

abbrev pub is_delivery : Step → Bool
is_delivery (Deliver message) = true
is_delivery _ = false

-- A run to the same three machines, by the same steps and deliveries among them, that tells the
-- same. Each of its messages is of the list. It has all that the coordinator sent, and what was
-- written over the connection of a session, as long as no later one was begun on that side
pub record IsRunOf (connections : Connections) (old : World) (merged : List Moment)
    (left right : Server) (coordinator : CoordinatorMachine) : Type 0 where
  pub steps : List Step
  pub new : World
  pub runs : Runs old steps new
  pub same_steps : filter (λ step. not (is_delivery step)) steps ≡ flat_map steps_in merged
  pub left_is : new.left.journal ≡ left.journal
  pub right_is : new.right.journal ≡ right.journal
  pub coordinator_is : new.coordinator ≡ coordinator
  pub tells : told_in new ≡ told_by merged
  pub sent : (message : Message) → Contains new.sent message →
      Contains (messages_of merged) message
  pub asked : (side : Which) (session number : ℕ) (request : Request) →
      Contains (messages_of merged) (Asks side session number request) →
      Contains new.sent (Asks side session number request)
  pub answered : (from : Which) (session number : ℕ) (reply : Reply) →
      WasWritten connections merged from session number reply →
      Contains new.sent (Answers from session number reply)
      ⊎ (session < last_session (side_of new from).journal.value)

-- Whatever the three machines did, what is merged so is a run
abbrev pub MergesAreRuns : Type 0
MergesAreRuns = (connections : Connections) (old : World) (merged : List Moment)
    (left right : Server) (coordinator : CoordinatorMachine) →
    IsMerged connections old merged left right coordinator →
    IsRunOf connections old merged left right coordinator

-- What holds of every such merge, of the picture of its run
abbrev pub OfEachMerge : (Stores → Picture → Type 0) → Type 0
OfEachMerge Holds = (connections : Connections) (old : World) (merged : List Moment)
    (left right : Server) (coordinator : CoordinatorMachine) →
    IsMerged connections old merged left right coordinator →
    (run : IsRunOf connections old merged left right coordinator)
    × Holds (stores_of old) (picture_of run.new)
