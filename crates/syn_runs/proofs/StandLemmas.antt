-- The machines stand for what was acknowledged, after each step of the world, from whatever stands
-- so.
use Rattle.std.proofs.Common.{◌≡◌, ℕ, List, [], ◌∷◌, ◌++◌, refl, sym, ap, ◌∙◌, subst, Option}
use Rattle.std.proofs.Common.{append-nil, slice_get}
use Rattle.syn_model.specs.Refusal.{Refusal, Full}
use Rattle.syn_model.specs.Event.{Event, Edited}
use Rattle.syn_model.specs.History.{History, IsAllowed}
use Rattle.syn_model.specs.Archive.{Archive, Kept, Session, CanKeep, archive_of}
use Rattle.syn_machine.specs.Machine.{Journaled, Layout, Writes, idle, written, unwritten}
use Rattle.syn_machine.specs.Machine.{Compacts, compacted, not_compacted, Opens, opened, recovered}
use Rattle.syn_machine.specs.MachineSteps.{MachineCall, Does}
use Rattle.syn_machine.specs.MachineSteps as one
use Rattle.syn_machine.specs.Side.{Request, Reply}
use Rattle.syn_machine.specs.SideMachine.{SideMachine, side_layout, SideTakes, answers, adds}
use Rattle.syn_machine.specs.SideMachine.{causes_of, side_kind, EditsSide, edits}
use Rattle.syn_machine.specs.Network.{Which, Left, Right, Message}
use Rattle.syn_runs.specs.Acknowledged.{Stores, history_of, stores_after}
use Rattle.syn_machine.specs.Coordinator.{CoordinatorMachine, Call, Walk, Exchange, Running}
use Rattle.syn_machine.specs.Coordinator.{archive_layout, past, refusing, making_room, Keeps}
use Rattle.syn_machine.specs.Coordinator.{writes, cut_after, Takes, CoordinatorTakes}
use Rattle.syn_machine.specs.Coordinator.{CoordinatorStarts, CoordinatorTicks, Advances, start_of}
use Rattle.syn_machine.specs.Coordinator.{start_causes, coordinator_kind}
use Rattle.syn_machine.specs.Coordinator as fine
use Rattle.syn_machine.specs.Planning.{Planned}
use Rattle.syn_runs.specs.World.{World, Machine, At, Coordinator, Step, Edits, Start, Deliver}
use Rattle.syn_runs.specs.World.{Tick, Checkpoint, Fail, Stop, Open, Reopen, side_of, side_goes}
use Rattle.syn_runs.specs.World.{coordinator_goes, refuses_with, side_does, coordinator_does}
use Rattle.syn_runs.specs.World.{MachineDoes, Delivers, no_message, to_no_side, to_side}
use Rattle.syn_runs.specs.World.{to_coordinator, Ticks, ticks, Steps}
use Rattle.syn_runs.specs.Runs.{RunsStand, stores_of, picture_of}
use Rattle.syn_runs.specs.Headline as promised
use Rattle.syn_runs.proofs.MachineLemmas.{calls_leave, does_leave}
use Rattle.syn_runs.proofs.View.{view_goes}
use Rattle.syn_runs.proofs.WorldLemmas.{side_goes as view_side_goes}
use Rattle.syn_runs.proofs.WorldLemmas.{coordinator_goes as view_coordinator_goes}

-- What a call leaves of the value

pub writes_value : (pair : ℕ) (old new : Journaled History Event) (event : Event)
    (events : List Event) → Writes (side_layout pair) old event new events →
    new.value ≡ old.value ++ events
writes_value pair old _ event _ (idle is) = refl
writes_value pair old _ event _ (written arms is meets) = refl
writes_value pair old _ event _ (unwritten status arms failed is down meets) =
    sym (append-nil old.value)

keeps_value : (pair : ℕ) (old new : Journaled Archive Kept) (what : Kept) (kept : List Kept) →
    Keeps pair old what new kept → new.value ≡ archive_of old.value kept
keeps_value pair old _ what _ (writes _ _ (idle is)) = refl
keeps_value pair old _ what _ (writes _ _ (written arms is meets)) = refl
keeps_value pair old _ what _ (writes _ _ (unwritten status arms failed is down meets)) = refl
keeps_value pair old _ what _ (cut_after is fail stop) = refl

compacts_value : {V W : Type 0} (layout : Layout V W) (old new : Journaled V W) →
    Compacts layout old new → new.value ≡ old.value
compacts_value layout old _ (compacted arms meets) = refl
compacts_value layout old _ (not_compacted status arms failed down meets) = refl

module _ (pair : ℕ) (plan : List Planned) (taken : Exchange) where
  advances_value : (walk later : Walk) (kept : List Kept) →
      Advances pair plan taken walk kept later →
      later.journal.value ≡ archive_of walk.journal.value kept
  advances_value walk _ _ (fine.stands _) = refl
  advances_value walk later kept (fine.conflicts _ _ _ planned path first at is more) =
      advances_value (past walk walk.journal) later kept more
  advances_value walk later kept (fine.side_refuses _ _ _ planned why first at is for more) =
      advances_value (refusing walk why planned) later kept more
  advances_value walk later kept
      (fine.archive_refuses _ _ _ planned what why first at is may refused more) =
      advances_value (refusing walk why planned) later kept more
  advances_value walk later kept (fine.no_checkpoint _ _ _ what first full greatest more) =
      advances_value (refusing walk Full full.to_keep.planned) later kept more
  advances_value walk later kept
      (fine.checkpoints _ _ _ what journal first full smaller compacts up more) =
      advances_value (making_room walk journal) later kept more ∙ ap (λ a. archive_of a kept)
      (compacts_value (archive_layout pair) walk.journal journal compacts)
  advances_value walk _ _ (fine.checkpoint_breaks _ what journal first full smaller compacts down) =
      compacts_value (archive_layout pair) walk.journal journal compacts
  advances_value walk later _ (fine.keeps _ _ what kept journal to_keep room kept_so up more) =
      advances_value (past walk journal) later kept more ∙ ap (λ a. archive_of a kept)
      (keeps_value pair walk.journal journal what (what ∷ []) kept_so)
  advances_value walk _ kept (fine.record_breaks _ what _ journal to_keep room kept_so down) =
      keeps_value pair walk.journal journal what kept kept_so

takes_value : (pair : ℕ) (old : CoordinatorMachine) (r : Running) (taken : Exchange)
    (new : CoordinatorMachine) (call : Call) → Takes pair old r taken new call →
    new.journal.value ≡ archive_of old.journal.value call.kept
takes_value pair old r taken _ _ (fine.ends_at_once why fault) = refl
takes_value pair old r taken _ _ (fine.stops plan logged walk kept fault has advances down) =
    advances_value pair _ taken (start_of old r) walk kept advances
takes_value pair old r taken _ _ (fine.ends plan logged walk kept why fault has advances ends) =
    advances_value pair _ taken (start_of old r) walk kept advances
takes_value pair old r taken _ _
    (fine.goes_on plan logged walk kept left right fault has advances rests stays moves asks) =
    advances_value pair _ taken (start_of old r) walk kept advances

answer_value : (pair : ℕ) (old : CoordinatorMachine) (from : Which) (session number : ℕ)
    (reply : Reply) (new : CoordinatorMachine) (call : Call) →
    CoordinatorTakes pair old from session number reply new call →
    new.journal.value ≡ archive_of old.journal.value call.kept
answer_value pair old from session number reply _ _ (fine.takes r request new call expected t) =
    takes_value pair old r _ new call t
answer_value pair old from session number reply _ _ (fine.ignores none) = refl

starts_value : (pair : ℕ) (preference : Option Which) (old new : CoordinatorMachine)
    (call : Call) → CoordinatorStarts pair preference old new call →
    new.journal.value ≡ archive_of old.journal.value call.kept
starts_value pair preference old _ _ (fine.starts session journal next lawful keeps up) =
    keeps_value pair old.journal journal (Session session) (Session session ∷ []) keeps
starts_value pair preference old _ _ (fine.start_breaks session journal kept next keeps down) =
    keeps_value pair old.journal journal (Session session) kept keeps

ticks_value : (old new : CoordinatorMachine) (call : Call) → CoordinatorTicks old new call →
    new.journal.value ≡ archive_of old.journal.value call.kept
ticks_value old _ _ (fine.no_session none) = refl
ticks_value old _ _ (fine.resends r e few) = refl
ticks_value old _ _ (fine.gives_up r why e because) = refl

takes_history : (pair : ℕ) (old : SideMachine) (session : ℕ) (request : Request) (new : SideMachine)
    (reply : Option Reply) (events : List Event) →
    SideTakes pair old session request new reply events →
    new.journal.value ≡ old.journal.value ++ events
takes_history pair old session request _ _ _ (answers served serves same) =
    sym (append-nil old.journal.value)
takes_history pair old session request _ _ _ (adds served event journal events up serves more w) =
    writes_value pair old.journal journal event events w

opens_history : (pair : ℕ) (old : Journaled History Event) (calls : ℕ)
    (new : Journaled History Event) (events : List Event) →
    Opens (side_layout pair) IsAllowed old calls new events → new.value ≡ old.value ++ events
opens_history pair old calls _ _ (opened room generation arms meets left) =
    sym (append-nil old.value)
opens_history pair old calls _ _ (recovered arms event meets is allowed) = refl

opens_value : (pair : ℕ) (old : Journaled Archive Kept) (calls : ℕ) (new : Journaled Archive Kept)
    (kept : List Kept) → Opens (archive_layout pair) CanKeep old calls new kept →
    new.value ≡ archive_of old.value kept
opens_value pair old calls _ _ (opened room generation arms meets left) = refl
opens_value pair old calls _ _ (recovered arms kept meets is can) = refl

-- The world

abbrev StandsFor : Stores → World → Type 0
StandsFor before world = promised.StandsFor before (picture_of world)

-- a side goes on by what it acknowledges
side_stands : (before : Stores) (old : World) (side : Which) (machine : SideMachine)
    (messages : List Message) (events : List Event) → StandsFor before old →
    machine.journal.value ≡ (side_of old side).journal.value ++ events →
    StandsFor before (side_goes old side machine messages events)
side_stands before old Left machine messages events s e =
    view_side_goes before (picture_of old) Left _ events messages
    (picture_of (side_goes old Left machine messages events)) s e
    (view_goes old Left machine messages events)
side_stands before old Right machine messages events s e =
    view_side_goes before (picture_of old) Right _ events messages
    (picture_of (side_goes old Right machine messages events)) s e
    (view_goes old Right machine messages events)

-- and so does the coordinator
coordinator_stands : (before : Stores) (old : World) (machine : CoordinatorMachine)
    (call : Call) → StandsFor before old →
    machine.journal.value ≡ archive_of old.coordinator.journal.value call.kept →
    StandsFor before (coordinator_goes old machine call)
coordinator_stands before old machine call s e =
    view_coordinator_goes before (picture_of old) _ call.kept (old.sent ++ call.messages)
    (coordinator_goes old machine call).reports (old.log ++ call.logged)
    (picture_of (coordinator_goes old machine call)) s e refl

module _ (before : Stores) (old : World) (s : StandsFor before old) where
  refused_stands : (made : World) (reasons : List Refusal) → StandsFor before made →
      StandsFor before (refuses_with made reasons)
  refused_stands made reasons s = record { left = s.left; right = s.right; archive = s.archive }

  -- A side goes on by itself as it acknowledges
  abbrev SideGrows : Which → SideMachine → List Event → Type 0
  SideGrows side next events =
      next.journal.value ≡ (side_of old side).journal.value ++ events

  side_same : (side : Which) (value : History) → value ≡ (side_of old side).journal.value →
      value ≡ (side_of old side).journal.value ++ []
  side_same side value e = e ∙ sym (append-nil (side_of old side).journal.value)

  edits_stand : (side : Which) (event : Event) (next : SideMachine) (events : List Event) →
      EditsSide old.pair (side_of old side) event next events → SideGrows side next events
  edits_stand side event _ _ (edits journal events lawful w) =
      writes_value old.pair (side_of old side).journal journal event events w

  side_does_stand : (side : Which) (call : MachineCall) (next : SideMachine) (events : List Event)
      (refusals : List Refusal) →
      Does (side_kind old.pair) (side_of old side) call next events refusals →
      SideGrows side next events
  side_does_stand side call next events refusals so =
      does_leave (side_kind old.pair) (side_of old side) (SideGrows side)
      (side_same side (side_of old side).journal.value refl)
      (λ journal c. side_same side journal.value
      (compacts_value (side_layout old.pair) (side_of old side).journal journal c))
      (λ calls journal events o.
      opens_history old.pair (side_of old side).journal calls journal events o) call
      (λ status arms failed told left. side_same side (side_of old side).journal.value refl)
      next events refusals so

  -- and so does the coordinator
  abbrev ArchiveGrows : CoordinatorMachine → Call → Type 0
  ArchiveGrows next call =
      next.journal.value ≡ archive_of old.coordinator.journal.value call.kept

  coordinator_does_stand : (call : MachineCall) (next : CoordinatorMachine) (given : Call)
      (refusals : List Refusal) →
      Does (coordinator_kind old.pair) old.coordinator call next given refusals →
      ArchiveGrows next given
  coordinator_does_stand call next given refusals so =
      does_leave (coordinator_kind old.pair) old.coordinator ArchiveGrows refl
      (λ journal c.
      compacts_value (archive_layout old.pair) old.coordinator.journal journal c)
      (λ calls journal kept o.
      opens_value old.pair old.coordinator.journal calls journal kept o)
      call (λ status arms failed told left. refl) next given refusals so

  machine_stands : (machine : Machine) (call : MachineCall) (new : World) →
      MachineDoes old machine call new → StandsFor before new
  machine_stands (At side) call _ (side_does next events refusals so) =
      refused_stands (side_goes old side next [] events) refusals
      (side_stands before old side next [] events s
      (side_does_stand side call next events refusals so))
  machine_stands Coordinator call _ (coordinator_does next given refusals so) =
      refused_stands (coordinator_goes old next given) refusals
      (coordinator_stands before old next given s
      (coordinator_does_stand call next given refusals so))

  delivers_stand : (o : Option Message) (new : World) → Delivers old o new → StandsFor before new
  delivers_stand _ _ no_message = s
  delivers_stand _ _ (to_no_side side session number request down) = s
  delivers_stand _ _ (to_side side session number request machine reply events t) =
      side_stands before old side machine _ events s
      (takes_history old.pair (side_of old side) session request machine reply events t)
  delivers_stand _ _ (to_coordinator side session number reply machine call t) =
      coordinator_stands before old machine call s
      (answer_value old.pair old.coordinator side session number reply machine call t)

  ticks_stand : (new : World) → Ticks old new → StandsFor before new
  ticks_stand _ (ticks machine call g) =
      coordinator_stands before old machine call s (ticks_value old.coordinator machine call g)

  step_stands : (step : Step) (new : World) → Steps old step new → StandsFor before new
  step_stands (Edits side user edit) _ (side_does next events refusals so) =
      refused_stands (side_goes old side next [] events) refusals
      (side_stands before old side next [] events s
      (calls_leave (side_kind old.pair) (side_of old side) (SideGrows side)
      (side_same side (side_of old side).journal.value refl)
      (causes_of old.pair (side_of old side) (Edited user edit))
      (EditsSide old.pair (side_of old side) (Edited user edit))
      (λ next events none up made. edits_stand side (Edited user edit) next events made)
      next events refusals so))
  step_stands (Start preference) _ (coordinator_does next call refusals so) =
      refused_stands (coordinator_goes old next call) refusals
      (coordinator_stands before old next call s
      (calls_leave (coordinator_kind old.pair) old.coordinator ArchiveGrows refl
      (start_causes old.pair old.coordinator)
      (CoordinatorStarts old.pair preference old.coordinator)
      (λ next call none up g. starts_value old.pair preference old.coordinator next call g)
      next call refusals so))
  step_stands (Deliver message) new g = delivers_stand (slice_get old.sent message) new g
  step_stands Tick new g = ticks_stand new g
  step_stands (Checkpoint machine) new g = machine_stands machine one.Checkpoint new g
  step_stands (Fail machine call) new g = machine_stands machine (one.Fail call) new g
  step_stands (Stop machine calls) new g = machine_stands machine (one.Stop calls) new g
  step_stands (Open machine) new g = machine_stands machine one.Open new g
  step_stands (Reopen machine) new g = machine_stands machine one.Reopen new g

-- a whole run
pub runs_stand : RunsStand
runs_stand before old new [] e s = subst (StandsFor before) (sym e) s
runs_stand before old new (step ∷ steps) g s =
    runs_stand before g.0 new steps g.2 (step_stands before old s step g.0 g.1)

-- nothing is acknowledged yet, so that each machine stands for what was there
pub at_start : (world : World) → world.acknowledged ≡ [] →
    promised.StandsFor (stores_of world) (picture_of world)
at_start world none =
    let before = stores_of world in
    record {
      left =
          sym (append-nil before.left)
          ∙ ap (λ acks. history_of (stores_after before acks) Left) (sym none);
      right =
          sym (append-nil before.right)
          ∙ ap (λ acks. history_of (stores_after before acks) Right) (sym none);
      archive = ap (λ acks. (stores_after before acks).archive) (sym none);
    }
