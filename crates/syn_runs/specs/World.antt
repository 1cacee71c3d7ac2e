-- Three machines and the network between them, and what a step may do.
use Rattle.std.specs.Prelude.{ℕ, ◌≡◌, List, [], ◌∷◌, ◌++◌, slice_get, map, length, Option, Some}
use Rattle.std.specs.Prelude.{None}
use Rattle.syn_model.specs.Refusal.{Refusal}
use Rattle.syn_model.specs.Event.{Edit, Event, Edited}
use Rattle.syn_machine.specs.Machine.{Status, Down}
use Rattle.syn_machine.specs.MachineSteps.{Effect, MachineCall, Does}
use Rattle.syn_machine.specs.MachineSteps as one
use Rattle.syn_machine.specs.Side.{Request, Reply}
use Rattle.syn_machine.specs.SideMachine.{SideMachine, side_kind, UserEdits, SideTakes}
use Rattle.syn_machine.specs.Network.{Which, Left, Right, Message, Asks, Answers, Sent}
use Rattle.syn_runs.specs.Acknowledged.{Ack, Happened, Kept_by}
use Rattle.syn_machine.specs.Planning.{Log}
use Rattle.syn_machine.specs.Report.{Report}
use Rattle.syn_machine.specs.Coordinator.{CoordinatorMachine, coordinator_kind, Call, Starts}
use Rattle.syn_machine.specs.Coordinator.{CoordinatorTakes, CoordinatorTicks}

pub data Machine : Type 0 where
  At : (side : Which) → Machine
  Coordinator : Machine

pub data Step : Type 0 where
  Edits : (side : Which) (user : ℕ) (edit : Edit) → Step
  Start : (preference : Option Which) → Step
  Deliver : (message : ℕ) → Step
  Tick : Step
  Checkpoint : (machine : Machine) → Step
  Fail : (machine : Machine) (call : ℕ) → Step
  Stop : (machine : Machine) (calls : ℕ) → Step
  Open : (machine : Machine) → Step
  Reopen : (machine : Machine) → Step

-- `refusals` has what a user's edit, a start, a checkpoint or an opening was refused with, in order
-- of time; each report stands with the number of acknowledgements up to it; and `log` has each
-- session's plan
pub record World : Type 0 where
  pub pair : ℕ
  pub left : SideMachine
  pub right : SideMachine
  pub coordinator : CoordinatorMachine
  pub sent : Sent
  pub acknowledged : List Ack
  pub refusals : List Refusal
  pub reports : List (Report × ℕ)
  pub log : Log

abbrev pub side_of : World → Which → SideMachine
side_of world Left = world.left
side_of world Right = world.right

abbrev pub set_side : World → Which → SideMachine → World
set_side world Left machine = record world { left = machine }
set_side world Right machine = record world { right = machine }

abbrev pub status_of : World → Machine → Status
status_of world (At side) = (side_of world side).journal.status
status_of world Coordinator = world.coordinator.journal.status

-- how many device calls of a machine failed
abbrev pub failures_of : World → Machine → ℕ
failures_of world (At side) = (side_of world side).journal.failures
failures_of world Coordinator = world.coordinator.journal.failures

-- What a machine does, in the world

-- a side says something, if it does
abbrev pub says : Which → ℕ → ℕ → Option Reply → List Message
says side session number None = []
says side session number (Some reply) = Answers side session number reply ∷ []

abbrev pub side_goes : World → Which → SideMachine → List Message → List Event → World
side_goes old side machine messages events = record (set_side old side machine) {
  sent = old.sent ++ messages;
  acknowledged = old.acknowledged ++ map (λ event. Happened side event) events;
}

abbrev pub coordinator_goes : World → CoordinatorMachine → Call → World
coordinator_goes old machine call =
    let acknowledged = old.acknowledged ++ map Kept_by call.kept in
    record old {
      coordinator = machine;
      sent = old.sent ++ call.messages;
      acknowledged = acknowledged;
      reports = old.reports ++ map (λ report. (report, length acknowledged)) call.reports;
      log = old.log ++ call.logged;
    }

abbrev pub refuses_with : World → List Refusal → World
refuses_with world reasons = record world { refusals = world.refusals ++ reasons }

-- a side does so by itself: it says nothing, and its user is told what it was refused with
pub data SideDoes (old : World) (side : Which) (So : Effect SideMachine (List Event)) : World →
    Type 0 where
  side_does : (next : SideMachine) (events : List Event) (refusals : List Refusal) →
      So next events refusals →
      SideDoes old side So (refuses_with (side_goes old side next [] events) refusals)

pub data CoordinatorDoes (old : World) (So : Effect CoordinatorMachine Call) : World →
    Type 0 where
  coordinator_does : (next : CoordinatorMachine) (call : Call) (refusals : List Refusal) →
      So next call refusals →
      CoordinatorDoes old So (refuses_with (coordinator_goes old next call) refusals)

abbrev pub MachineDoes : World → Machine → MachineCall → World → Type 0
MachineDoes old (At side) call new =
    SideDoes old side (Does (side_kind old.pair) (side_of old side) call) new
MachineDoes old Coordinator call new =
    CoordinatorDoes old (Does (coordinator_kind old.pair) old.coordinator call) new

-- The steps

-- a message is delivered; a machine that is down takes none
pub data Delivers (old : World) : Option Message → World → Type 0 where
  no_message : Delivers old None old
  to_no_side : (side : Which) (session number : ℕ) (request : Request) →
      (side_of old side).journal.status ≡ Down →
      Delivers old (Some (Asks side session number request)) old
  to_side : (side : Which) (session number : ℕ) (request : Request)
      (machine : SideMachine) (reply : Option Reply) (events : List Event) →
      SideTakes old.pair (side_of old side) session request machine reply events →
      Delivers old (Some (Asks side session number request))
      (side_goes old side machine (says side session number reply) events)
  to_coordinator : (side : Which) (session number : ℕ) (reply : Reply)
      (machine : CoordinatorMachine) (call : Call) →
      CoordinatorTakes old.pair old.coordinator side session number reply machine call →
      Delivers old (Some (Answers side session number reply)) (coordinator_goes old machine call)

pub data Ticks (old : World) : World → Type 0 where
  ticks : (machine : CoordinatorMachine) (call : Call) →
      CoordinatorTicks old.coordinator machine call →
      Ticks old (coordinator_goes old machine call)

-- One step
abbrev pub Steps : World → Step → World → Type 0
Steps old (Edits side user edit) new =
    SideDoes old side (UserEdits old.pair (side_of old side) (Edited user edit)) new
Steps old (Start preference) new =
    CoordinatorDoes old (Starts old.pair preference old.coordinator) new
Steps old (Deliver message) new = Delivers old (slice_get old.sent message) new
Steps old Tick new = Ticks old new
Steps old (Checkpoint machine) new = MachineDoes old machine one.Checkpoint new
Steps old (Fail machine number) new = MachineDoes old machine (one.Fail number) new
Steps old (Stop machine calls) new = MachineDoes old machine (one.Stop calls) new
Steps old (Open machine) new = MachineDoes old machine one.Open new
Steps old (Reopen machine) new = MachineDoes old machine one.Reopen new

-- a list of steps, one after another
abbrev pub Runs : World → List Step → World → Type 0
Runs old [] new = new ≡ old
Runs old (step ∷ steps) new = (between : World) × Steps old step between × Runs between steps new
