-- What each device call keeps of a machine's device, each step of a world keeps.
use Rattle.std.proofs.Common.{◌+◌, ◌≡◌, ℕ, List, [], ◌∷◌, refl, sym, subst, Option, arith}
use Rattle.std.proofs.Common.{slice_get, suc}
use Rattle.syn_model.specs.Refusal.{Refusal, Full, Cause}
use Rattle.syn_model.specs.Event.{Event, Edited}
use Rattle.syn_model.specs.Archive.{Archive, Kept, Session}
use Rattle.syn_machine.specs.Machine.{Status, Up, Halted, Down, Arms, Journaled, Layout, Meets}
use Rattle.syn_machine.specs.Machine.{all_made, one_fails, one_stops, Writes, idle, written}
use Rattle.syn_machine.specs.Machine.{unarmed, unwritten, Compacts, compacted, not_compacted}
use Rattle.syn_machine.specs.Machine.{Opens, opened, recovered, after_device}
use Rattle.syn_machine.specs.MachineSteps.{Kind, MachineCall, Does, Calls}
use Rattle.syn_machine.specs.Side.{Request, Reply}
use Rattle.syn_machine.specs.SideMachine.{SideMachine, side_layout, SideTakes, answers, adds}
use Rattle.syn_machine.specs.SideMachine.{causes_of, side_kind, EditsSide, edits}
use Rattle.syn_machine.specs.Network.{Which, Left, Right, Message}
use Rattle.syn_machine.specs.Planning.{Planned}
use Rattle.syn_machine.specs.Coordinator.{CoordinatorMachine, Call, Walk, Exchange, Running}
use Rattle.syn_machine.specs.Coordinator.{archive_layout, past, refusing, making_room, start_of}
use Rattle.syn_machine.specs.Coordinator.{Keeps, writes, cut_after, Takes, CoordinatorTakes}
use Rattle.syn_machine.specs.Coordinator.{CoordinatorStarts, CoordinatorTicks, Advances}
use Rattle.syn_machine.specs.Coordinator.{start_causes, coordinator_kind}
use Rattle.syn_runs.specs.World.{World, Machine, At, Coordinator, says, Step, Edits, Start}
use Rattle.syn_runs.specs.World.{Deliver, Tick, Checkpoint, Fail, Stop, Open, Reopen, side_of}
use Rattle.syn_runs.specs.World.{side_goes, coordinator_goes, status_of, failures_of}
use Rattle.syn_runs.specs.World.{refuses_with, side_does, coordinator_does, MachineDoes}
use Rattle.syn_runs.specs.World.{Delivers, no_message, to_no_side, to_side, to_coordinator}
use Rattle.syn_runs.specs.World.{Ticks, ticks, Steps}
use Rattle.syn_runs.proofs.View.{halted_not_up, down_not_up}
use Rattle.syn_runs.proofs.MachineLemmas.{LeavesDevice, armed_to_fail, armed_to_stop, stopped}
use Rattle.syn_runs.proofs.MachineLemmas.{unopened, halted, cut, stays, calls_leave, does_leave}
use Rattle.syn_machine.specs.MachineSteps as one
use Rattle.syn_machine.specs.Coordinator as coordinator

-- it speaks of the status, of what is armed, and of how many calls failed
abbrev pub Property : Type 1
Property = Status → Arms → ℕ → Type 0

abbrev pub Of : {V W : Type 0} → Property → Journaled V W → Type 0
Of P journal = P journal.status journal.arms journal.failures

-- Device calls keep it: where they leave the status that they met, where they leave the machine up
-- or halted or down, where a machine that is down cannot be opened, where a stop comes after the
-- last call of a record, and where a call is armed to fail
pub record IsKept (P : Property) : Type 0 where
  pub stays : (was : Status) (arms after : Arms) (calls failures : ℕ) → P was arms failures →
      Meets arms calls Up after 0 → P was after failures
  pub meets : (was status : Status) (arms after : Arms) (calls failures failed : ℕ) →
      P was arms failures → Meets arms calls status after failed →
      P status after (failures + failed)
  pub unopened : (arms after : Arms) (calls failures failed : ℕ) → P Down arms failures →
      Meets arms calls Halted after failed → P Down after (failures + failed)
  pub cut_last : (was : Status) (arms : Arms) (failures : ℕ) → P was arms failures →
      arms.stop ≡ 4 → P Down unarmed failures
  pub armed : (was : Status) (arms : Arms) (failures call : ℕ) → P was arms failures →
      P was (record arms { fail = call }) failures

no_more : (n : ℕ) → n + 0 ≡ n
no_more n = omega arith

-- calls that leave a machine up fail none
none_failed : (arms : Arms) (calls : ℕ) (status : Status) (after : Arms) (failed : ℕ) →
    Meets arms calls status after failed → status ≡ Up → failed ≡ 0
none_failed arms calls _ _ _ (all_made fail stop) up = refl
none_failed arms calls _ _ _ (one_fails made few fail stop) up = absurd (halted_not_up up)
none_failed arms calls _ _ _ (one_stops made few fail stop) up = absurd (down_not_up up)

module _ (P : Property) (kept : IsKept P) where
  none_more : (status : Status) (arms : Arms) (failures : ℕ) → P status arms (failures + 0) →
      P status arms failures
  none_more status arms failures h = subst (P status arms) (no_more failures) h

  -- What a journal's calls leave

  pub writes_kept : {V W : Type 0} (layout : Layout V W) (old new : Journaled V W)
      (what : W) (acks : List W) → Of P old → Writes layout old what new acks → Of P new
  writes_kept layout old _ what _ h (idle is) = h
  writes_kept layout old _ what _ h (written arms is meets) = kept.stays _ _ _ 4 _ h meets
  writes_kept layout old _ what _ h (unwritten status arms failed is broken meets) =
      kept.meets _ _ _ _ 4 _ _ h meets

  pub compacts_kept : {V W : Type 0} (layout : Layout V W) (old new : Journaled V W) → Of P old →
      Compacts layout old new → Of P new
  compacts_kept layout old _ h (compacted arms meets) = kept.stays _ _ _ 6 _ h meets
  compacts_kept layout old _ h (not_compacted status arms failed broken meets) =
      kept.meets _ _ _ _ 6 _ _ h meets

  opens_kept : {V W : Type 0} (layout : Layout V W) (CanKeep : V → W → Type 0)
      (old : Journaled V W) (calls : ℕ) (new : Journaled V W) (acks : List W) → Of P old →
      Opens layout CanKeep old calls new acks → Of P new
  opens_kept layout CanKeep old calls _ _ h (opened room generation arms meets left) =
      none_more Up arms old.failures (kept.meets _ _ _ _ calls _ _ h meets)
  opens_kept layout CanKeep old calls _ _ h (recovered arms what meets is can) =
      none_more Up arms old.failures (kept.meets _ _ _ _ calls _ _ h meets)

  keeps_kept : (pair : ℕ) (old new : Journaled Archive Kept) (what : Kept) (acks : List Kept) →
      Of P old → Keeps pair old what new acks → Of P new
  keeps_kept pair old _ what _ h (writes new acks w) =
      writes_kept (archive_layout pair) old new what acks h w
  keeps_kept pair old _ what _ h (cut_after is fail stop) = kept.cut_last _ _ _ h stop

  -- and those of a coordinator and of a side

  pub advances_kept : (pair : ℕ) (plan : List Planned) (taken : Exchange) (walk later : Walk)
      (acks : List Kept) → Of P walk.journal → Advances pair plan taken walk acks later →
      Of P later.journal
  advances_kept pair plan taken walk _ _ h (coordinator.stands _) = h
  advances_kept pair plan taken walk later acks h
      (coordinator.conflicts _ _ _ planned path first at is more) =
      advances_kept pair plan taken (past walk walk.journal) later acks h more
  advances_kept pair plan taken walk later acks h
      (coordinator.side_refuses _ _ _ planned why first at is for more) =
      advances_kept pair plan taken (refusing walk why planned) later acks h more
  advances_kept pair plan taken walk later acks h
      (coordinator.archive_refuses _ _ _ planned what why first at is may refused more) =
      advances_kept pair plan taken (refusing walk why planned) later acks h more
  advances_kept pair plan taken walk later acks h
      (coordinator.no_checkpoint _ _ _ what first full greatest more) =
      advances_kept pair plan taken (refusing walk Full full.to_keep.planned) later acks h more
  advances_kept pair plan taken walk later acks h
      (coordinator.checkpoints _ _ _ what journal first full smaller compacts up more) =
      advances_kept pair plan taken (making_room walk journal) later acks
      (compacts_kept (archive_layout pair) walk.journal journal h compacts) more
  advances_kept pair plan taken walk _ _ h
      (coordinator.checkpoint_breaks _ what journal first full smaller compacts broken) =
      compacts_kept (archive_layout pair) walk.journal journal h compacts
  advances_kept pair plan taken walk later _ h
      (coordinator.keeps _ _ what acks journal to_keep room kept_so up more) =
      advances_kept pair plan taken (past walk journal) later acks
      (keeps_kept pair walk.journal journal what (what ∷ []) h kept_so) more
  advances_kept pair plan taken walk _ acks h
      (coordinator.record_breaks _ what _ journal to_keep room kept_so broken) =
      keeps_kept pair walk.journal journal what acks h kept_so

  takes_kept : (pair : ℕ) (old : CoordinatorMachine) (r : Running) (taken : Exchange)
      (new : CoordinatorMachine) (call : Call) → Of P old.journal →
      Takes pair old r taken new call → Of P new.journal
  takes_kept pair old r taken _ _ h (coordinator.ends_at_once why fault) = h
  takes_kept pair old r taken _ _ h
      (coordinator.stops plan logged walk acks fault has advances down) =
      advances_kept pair _ taken (start_of old r) walk acks h advances
  takes_kept pair old r taken _ _ h
      (coordinator.ends plan logged walk acks why fault has advances ends) =
      advances_kept pair _ taken (start_of old r) walk acks h advances
  takes_kept pair old r taken _ _ h (coordinator.goes_on plan logged walk acks left right fault has
      advances rests unmoved moves asks) =
      advances_kept pair _ taken (start_of old r) walk acks h advances

  answer_kept : (pair : ℕ) (old : CoordinatorMachine) (from : Which) (session number : ℕ)
      (reply : Reply) (new : CoordinatorMachine) (call : Call) → Of P old.journal →
      CoordinatorTakes pair old from session number reply new call → Of P new.journal
  answer_kept pair old from session number reply _ _ h
      (coordinator.takes r request new call expected t) =
      takes_kept pair old r _ new call h t
  answer_kept pair old from session number reply _ _ h (coordinator.ignores none) = h

  pub starts_kept : {preference : Option Which} (pair : ℕ) (old new : CoordinatorMachine)
      (call : Call) → Of P old.journal → CoordinatorStarts pair preference old new call →
      Of P new.journal
  starts_kept pair old _ _ h (coordinator.starts session journal next lawful kept_so up) =
      keeps_kept pair old.journal journal (Session session) (Session session ∷ []) h kept_so
  starts_kept pair old _ _ h (coordinator.start_breaks session journal acks next kept_so broken) =
      keeps_kept pair old.journal journal (Session session) acks h kept_so

  ticks_kept : (old new : CoordinatorMachine) (call : Call) → Of P old.journal →
      CoordinatorTicks old new call → Of P new.journal
  ticks_kept old _ _ h (coordinator.no_session none) = h
  ticks_kept old _ _ h (coordinator.resends r is few) = h
  ticks_kept old _ _ h (coordinator.gives_up r why is because) = h

  request_kept : (pair : ℕ) (old : SideMachine) (session : ℕ) (request : Request)
      (new : SideMachine) (reply : Option Reply) (events : List Event) → Of P old.journal →
      SideTakes pair old session request new reply events → Of P new.journal
  request_kept pair old session request _ _ _ h (answers served serves same) = h
  request_kept pair old session request _ _ _ h
      (adds served event journal events up serves more w) =
      writes_kept (side_layout pair) old.journal journal event events h w

  edits_kept : (pair : ℕ) (machine : SideMachine) → Of P machine.journal →
      (event : Event) (next : SideMachine) (events : List Event) →
      EditsSide pair machine event next events → Of P next.journal
  edits_kept pair machine h event _ _ (edits journal events lawful w) =
      writes_kept (side_layout pair) machine.journal journal event events h w

-- A machine by itself, whichever kind it is of

-- its journal is what it was left as
abbrev pub GivesBack : {M A V W : Type 0} → Kind M A V W → Type 0
GivesBack {M} {A} {V} {W} kind = (machine : M) (journal : Journaled V W) →
    kind.journal_of (kind.with_journal machine journal) ≡ journal

-- what a stop that a step asks for leaves
abbrev pub KeptByStop : Property → MachineCall → Type 0
KeptByStop P call = (calls : ℕ) → call ≡ one.Stop calls → (was : Status) (arms : Arms)
    (failures : ℕ) → P was arms failures →
    P was (record arms { stop = calls }) failures × P Down unarmed failures

module _ {M A V W : Type 0} (kind : Kind M A V W) (back : GivesBack kind) (P : Property)
    (kept : IsKept P) (machine : M) (h : Of P (kind.journal_of machine)) where
  abbrev was : Journaled V W
  was = kind.journal_of machine

  abbrev IsNext : M → Type 0
  IsNext next = Of P (kind.journal_of next)

  left_so : (new : Journaled V W) → Of P new → IsNext (kind.with_journal machine new)
  left_so new c = subst (Of P) (sym (back machine new)) c

  still : (status : Status) (arms : Arms) → P status arms was.failures →
      P status arms (was.failures + 0)
  still status arms c = subst (P status arms) (sym (no_more was.failures)) c

  device_kept : (call : MachineCall) → KeptByStop P call → (status : Status) (arms : Arms)
      (failed : ℕ) (told : List Refusal) → LeavesDevice was call status arms failed told →
      Of P (after_device was status arms failed)
  device_kept _ stop _ _ _ _ (armed_to_fail call) =
      still was.status _ (kept.armed was.status was.arms was.failures call h)
  device_kept _ stop _ _ _ _ (armed_to_stop calls) =
      still was.status _ (stop (suc calls) refl was.status was.arms was.failures h).0
  device_kept _ stop _ _ _ _ (stopped up) =
      still Down unarmed (stop 0 refl was.status was.arms was.failures h).1
  device_kept _ stop _ _ _ _ (unopened calls arms failed down meets) =
      kept.unopened was.arms arms calls was.failures failed
      (subst (λ status. P status was.arms was.failures) down h) meets
  device_kept _ stop _ _ _ _ (halted calls arms failed up meets) =
      kept.meets was.status Halted was.arms arms calls was.failures failed h meets
  device_kept _ stop _ _ _ _ (cut calls arms failed up meets) =
      kept.meets was.status Down was.arms arms calls was.failures failed h meets
  device_kept _ stop _ _ _ _ (stays calls arms failed up meets) =
      let none = none_failed was.arms calls Up arms failed meets refl in
      subst (λ failed. P was.status arms (was.failures + failed)) (sym none)
      (still was.status arms (kept.stays was.status was.arms arms calls was.failures h
      (subst (Meets was.arms calls Up arms) none meets)))

  calls_kept : (causes : List Cause) (Made : M → A → Type 0) →
      ((next : M) (given : A) → Made next given → IsNext next) → (next : M) (given : A)
      (refusals : List Refusal) → Calls kind machine causes Made next given refusals → IsNext next
  calls_kept causes Made made next given refusals so =
      calls_leave kind machine (λ next _. IsNext next) h causes Made
      (λ next given none up so. made next given so) next given refusals so

  does_kept : (call : MachineCall) → KeptByStop P call → (next : M) (given : A)
      (refusals : List Refusal) → Does kind machine call next given refusals → IsNext next
  does_kept call stop next given refusals so =
      does_leave kind machine (λ next _. IsNext next) h
      (λ new c. left_so new (compacts_kept P kept kind.layout was new h c))
      (λ calls new acks o. left_so new
      (opens_kept P kept kind.layout kind.CanKeep was calls new acks h o)) call
      (λ status arms failed told left. left_so (after_device was status arms failed)
      (device_kept call stop status arms failed told left)) next given refusals so

-- The world

abbrev pub arms_of : World → Machine → Arms
arms_of world (At side) = (side_of world side).journal.arms
arms_of world Coordinator = world.coordinator.journal.arms

abbrev pub AllOf : (Machine → Property) → World → Type 0
AllOf P world = (machine : Machine) →
    P machine (status_of world machine) (arms_of world machine) (failures_of world machine)

module _ (P : Machine → Property) (kept : (machine : Machine) → IsKept (P machine)) where
  refused_kept : (made : World) (reasons : List Refusal) → AllOf P made →
      AllOf P (refuses_with made reasons)
  refused_kept made reasons h (At Left) = h (At Left)
  refused_kept made reasons h (At Right) = h (At Right)
  refused_kept made reasons h Coordinator = h Coordinator

  module _ (old : World) (h : AllOf P old) where
    side_journal : (side : Which) → Of (P (At side)) (side_of old side).journal
    side_journal Left = h (At Left)
    side_journal Right = h (At Right)

    side_kept : (side : Which) (machine : SideMachine) (messages : List Message)
        (events : List Event) → Of (P (At side)) machine.journal →
        AllOf P (side_goes old side machine messages events)
    side_kept Left machine messages events s (At Left) = s
    side_kept Left machine messages events s (At Right) = h (At Right)
    side_kept Left machine messages events s Coordinator = h Coordinator
    side_kept Right machine messages events s (At Left) = h (At Left)
    side_kept Right machine messages events s (At Right) = s
    side_kept Right machine messages events s Coordinator = h Coordinator

    coordinator_kept : (machine : CoordinatorMachine) (call : Call) →
        Of (P Coordinator) machine.journal → AllOf P (coordinator_goes old machine call)
    coordinator_kept machine call s (At Left) = h (At Left)
    coordinator_kept machine call s (At Right) = h (At Right)
    coordinator_kept machine call s Coordinator = s

    machine_kept : (machine : Machine) (call : MachineCall) → KeptByStop (P machine) call →
        (new : World) → MachineDoes old machine call new → AllOf P new
    machine_kept (At side) call stop _ (side_does next events refusals so) =
        refused_kept (side_goes old side next [] events) refusals
        (side_kept side next [] events (does_kept (side_kind old.pair) (λ machine journal. refl)
        (P (At side)) (kept (At side)) (side_of old side) (side_journal side) call stop next events
        refusals so))
    machine_kept Coordinator call stop _ (coordinator_does next given refusals so) =
        refused_kept (coordinator_goes old next given) refusals
        (coordinator_kept next given (does_kept (coordinator_kind old.pair)
        (λ machine journal. refl) (P Coordinator) (kept Coordinator) old.coordinator (h Coordinator)
        call stop next given refusals so))

    delivers_kept : (message : Option Message) (new : World) → Delivers old message new →
        AllOf P new
    delivers_kept _ _ no_message = h
    delivers_kept _ _ (to_no_side side session number request down) = h
    delivers_kept _ _ (to_side side session number request machine reply events t) =
        side_kept side machine (says side session number reply) events
        (request_kept (P (At side)) (kept (At side)) old.pair (side_of old side) session request
        machine reply events (side_journal side) t)
    delivers_kept _ _ (to_coordinator side session number reply machine call t) =
        coordinator_kept machine call (answer_kept (P Coordinator) (kept Coordinator) old.pair
        old.coordinator side session number reply machine call (h Coordinator) t)

    tick_kept : (new : World) → Ticks old new → AllOf P new
    tick_kept _ (ticks machine call g) =
        coordinator_kept machine call (ticks_kept (P Coordinator) (kept Coordinator)
        old.coordinator machine call (h Coordinator) g)

    pub step_kept : (step : Step) → ((machine : Machine) (calls : ℕ) → step ≡ Stop machine calls →
        KeptByStop (P machine) (one.Stop calls)) → (new : World) → Steps old step new → AllOf P new
    step_kept (Edits side user edit) stop _ (side_does next events refusals so) =
        refused_kept (side_goes old side next [] events) refusals
        (side_kept side next [] events (calls_kept (side_kind old.pair) (λ machine journal. refl)
        (P (At side)) (kept (At side)) (side_of old side) (side_journal side)
        (causes_of old.pair (side_of old side) (Edited user edit))
        (EditsSide old.pair (side_of old side) (Edited user edit))
        (edits_kept (P (At side)) (kept (At side)) old.pair (side_of old side) (side_journal side)
        (Edited user edit)) next events refusals so))
    step_kept (Start preference) stop _ (coordinator_does next call refusals so) =
        refused_kept (coordinator_goes old next call) refusals
        (coordinator_kept next call (calls_kept (coordinator_kind old.pair)
        (λ machine journal. refl) (P Coordinator) (kept Coordinator) old.coordinator (h Coordinator)
        (start_causes old.pair old.coordinator)
        (CoordinatorStarts old.pair preference old.coordinator)
        (λ next call g. starts_kept (P Coordinator) (kept Coordinator) old.pair old.coordinator next
        call (h Coordinator) g) next call refusals so))
    step_kept (Deliver message) stop new g = delivers_kept (slice_get old.sent message) new g
    step_kept Tick stop new g = tick_kept new g
    step_kept (Checkpoint machine) stop new g =
        machine_kept machine one.Checkpoint (λ calls e. cc) new g
    step_kept (Fail machine call) stop new g =
        machine_kept machine (one.Fail call) (λ calls e. cc) new g
    step_kept (Stop machine calls) stop new g =
        machine_kept machine (one.Stop calls) (stop machine calls refl) new g
    step_kept (Open machine) stop new g = machine_kept machine one.Open (λ calls e. cc) new g
    step_kept (Reopen machine) stop new g = machine_kept machine one.Reopen (λ calls e. cc) new g
