-- A step is refused 9 only after a device call of it failed.
use Rattle.std.specs.List.{AllByRecursion}
use Rattle.std.proofs.Common.{◌≡◌, ◌≢◌, ◌<◌, ℕ, Bool, true, false, true≢false, if◌then◌else◌, List}
use Rattle.std.proofs.Common.{[], ◌∷◌, ◌++◌, append-nil, refl, sym, ap, ◌∙◌, subst, Option, Some}
use Rattle.std.proofs.Common.{arith, slice_get, None}
use Rattle.std.proofs.lemmas.List.{append_cancel_left}
use Rattle.std.proofs.lemmas.Option.{none-some, same_Some}
use Rattle.syn_model.specs.Refusal.{Refusal, Device, Memory, JournalFull, Halted as Halted_before}
use Rattle.syn_model.specs.Refusal.{Cause, first_cause}
use Rattle.syn_model.specs.Event.{Edit, Put, MakeDir, Remove, Chmod, Event, Edited}
use Rattle.syn_model.proofs.HistoryLemmas.{first_cause-none}
use Rattle.syn_machine.specs.Machine.{Status, Up, Halted, Down, Arms, Meets, all_made, one_fails}
use Rattle.syn_machine.specs.Machine.{one_stops, Journaled, after_device, Compacts}
use Rattle.syn_machine.specs.MachineSteps.{Kind, Effect, MachineCall, Does, is_halted, refused_by}
use Rattle.syn_machine.specs.MachineSteps.{causes_at, full_generation, with_device, Calls}
use Rattle.syn_machine.specs.SideMachine.{SideMachine, side_layout, causes_of, side_kind}
use Rattle.syn_machine.specs.SideMachine.{EditsSide, edits, UserEdits}
use Rattle.syn_machine.specs.Network.{Which, Left, Right, Message}
use Rattle.syn_machine.specs.Coordinator.{CoordinatorMachine, Call, Walk, Exchange, Running}
use Rattle.syn_machine.specs.Coordinator.{start_of, start_causes, EndsFor, Starts}
use Rattle.syn_machine.specs.Coordinator.{CoordinatorStarts, coordinator_kind}
use Rattle.syn_runs.specs.World.{World, Machine, At, Coordinator, Edits, Start, Deliver, Tick}
use Rattle.syn_runs.specs.World.{Checkpoint, Fail, Stop, Open, Reopen, side_of, side_goes}
use Rattle.syn_runs.specs.World.{failures_of, refuses_with, SideDoes, side_does}
use Rattle.syn_runs.specs.World.{CoordinatorDoes, coordinator_does, MachineDoes, Delivers}
use Rattle.syn_runs.specs.World.{no_message, to_no_side, to_side, to_coordinator, Ticks, ticks}
use Rattle.syn_runs.proofs.MachineLemmas.{IsStill, LeavesDevice, armed_to_fail, armed_to_stop}
use Rattle.syn_runs.proofs.MachineLemmas.{calls_tell, does_tell, down_still, halted, cut}
use Rattle.syn_runs.proofs.MachineLemmas.{open_still, refused, stays, stopped, unopened, lost}
use Rattle.syn_runs.proofs.View.{neither, up_not_halted}
use Rattle.syn_witness.specs.Forbidden.{RefusedAfterFailure, EndsAfterFailure}
use Rattle.syn_witness.proofs.FailureLemmas.{IsCounted, IsCountedJournal, Counted, is_counted}
use Rattle.syn_witness.proofs.KeptLemmas.{GivesBack, writes_kept, compacts_kept, starts_kept}
use Rattle.syn_witness.proofs.KeptLemmas.{advances_kept}
use Rattle.syn_witness.proofs.ForbiddenLemmas.{faultless_report}
use Rattle.syn_machine.specs.MachineSteps as one
use Rattle.syn_machine.specs.Coordinator as coordinator
use Rattle.syn_runs.specs.World as world

-- Which refusals are no 9

is_device : Refusal → Bool
is_device Device = true
is_device _ = false

abbrev AreOthers : List Cause → Type 0
AreOthers causes = AllByRecursion (λ cause. is_device cause.1 ≡ false) causes

not_device : (why : Refusal) → is_device why ≡ false → why ≢ Device
unfolding is_device
not_device why other e = true≢false (sym (ap is_device e) ∙ other)

others_first : (causes : List Cause) → AreOthers causes → first_cause causes ≢ Some Device
others_first [] all e = none-some _ e
others_first (cause ∷ causes) all e = by (others_first causes all.1) cause.0 e
  where
    by : first_cause causes ≢ Some Device → (b : Bool) →
        (if b then Some cause.1 else first_cause causes) ≢ Some Device
    by more true e = not_device cause.1 all.0 (same_Some _ _ e)
    by more false e = more e

-- A machine by itself, whichever kind it is of

up_counted : (base : ℕ) (status : Status) → status ≡ Up → IsCounted base status base
up_counted base status up = (omega arith, λ e. absurd (up_not_halted (sym up ∙ e)))

-- it was refused 9 alone
abbrev IsNine : List Refusal → Type 0
IsNine refusals = refusals ≡ Device ∷ []

not_nine : IsNine [] → ⊥
not_nine e = none-some Device (ap (λ refusals. slice_get refusals 0) e)

which_nine : (reason : Refusal) → IsNine (reason ∷ []) → reason ≡ Device
which_nine reason e = same_Some _ _ (ap (λ refusals. slice_get refusals 0) e)

memory_not_nine : IsNine (Memory ∷ []) → ⊥
unfolding is_device
memory_not_nine e = not_device Memory refl (which_nine Memory e)

halted_by : (status : Status) → IsNine (refused_by status) → status ≡ Halted
halted_by Up e = absurd (not_nine e)
halted_by Halted e = refl
halted_by Down e = absurd (not_nine e)

one_failed : (arms : Arms) (calls : ℕ) (status : Status) (after : Arms) (failed : ℕ) →
    Meets arms calls status after failed → status ≡ Halted → failed ≡ 1
one_failed arms calls _ _ _ (all_made fail stop) e = absurd (up_not_halted e)
one_failed arms calls _ _ _ (one_fails made few fail stop) e = refl
one_failed arms calls _ _ _ (one_stops made few fail stop) e =
    let x : Down ≡ Halted = e in
    cc

checkpoint_others : (generation : ℕ) → AreOthers (full_generation generation ++ (true, Memory) ∷ [])
unfolding is_device
checkpoint_others generation = (refl, (refl, tt))

module _ {M A V W : Type 0} (kind : Kind M A V W) (back : GivesBack kind) (machine : M) where
  abbrev was : Journaled V W
  was = kind.journal_of machine

  -- a device call of it failed
  abbrev HasFailed : M → Type 0
  HasFailed next = was.failures < (kind.journal_of next).failures

  abbrev Tells : M → List Refusal → Type 0
  Tells next refusals = IsNine refusals → HasFailed next

  -- one that may be refused
  calls_failed : (causes : List Cause) (Made : M → A → Type 0) →
      AreOthers (causes ++ (true, Memory) ∷ []) →
      (was.status ≡ Up → (next : M) (given : A) → Made next given →
      IsCountedJournal was.failures (kind.journal_of next)) →
      (next : M) (given : A) (refusals : List Refusal) →
      Calls kind machine causes Made next given refusals → Tells next refusals
  unfolding is_device
  calls_failed causes Made others is =
      calls_tell kind machine (λ next _ refusals. Tells next refusals) causes Made
      (λ down said. absurd (not_nine said))
      (λ reason up some said.
      absurd (others_first (causes_at was.status causes ++ (true, Memory) ∷ []) (refl, others)
      (some ∙ ap Some (which_nine reason said))))
      (λ next given none up made said.
      (is (neither was.status
      (first_cause-none (is_halted was.status, Halted_before) causes none).0 up) next given made).1
      (halted_by (kind.journal_of next).status said))

  fails : (calls : ℕ) (left : Status) (arms : Arms) (failed : ℕ) →
      Meets was.arms calls Halted arms failed →
      HasFailed (with_device kind machine left arms failed)
  fails calls left arms failed meets =
      let more = one_failed was.arms calls Halted arms failed meets refl in
      let now = ap (λ journal. journal.failures) (back machine
      (after_device was left arms failed)) in
      omega (arith, more, now)

  -- any other
  still_failed : (call : MachineCall) (told : List Refusal) → IsStill was call told →
      Tells machine told
  unfolding is_device
  still_failed _ _ (lost call other down) said = absurd (not_nine said)
  still_failed _ _ (refused reason up some) said =
      absurd (others_first
      (causes_at was.status (full_generation was.generation) ++ (true, Memory) ∷ [])
      (refl, checkpoint_others was.generation) (some ∙ ap Some (which_nine reason said)))
  still_failed _ _ (open_still up) said = absurd (not_nine said)
  still_failed _ _ (down_still down) said = absurd (memory_not_nine said)

  device_failed : (call : MachineCall) (status : Status) (arms : Arms) (failed : ℕ)
      (told : List Refusal) → LeavesDevice was call status arms failed told →
      Tells (with_device kind machine status arms failed) told
  device_failed _ _ _ _ _ (armed_to_fail call) said = absurd (not_nine said)
  device_failed _ _ _ _ _ (armed_to_stop calls) said = absurd (not_nine said)
  device_failed _ _ _ _ _ (stopped up) said = absurd (not_nine said)
  device_failed _ _ _ _ _ (unopened calls arms failed down meets) said =
      fails calls Down arms failed meets
  device_failed _ _ _ _ _ (halted calls arms failed up meets) said =
      fails calls Halted arms failed meets
  device_failed _ _ _ _ _ (cut calls arms failed up meets) said = absurd (not_nine said)
  device_failed _ _ _ _ _ (stays calls arms failed up meets) said = absurd (memory_not_nine said)

  checkpoint_failed : (new : Journaled V W) →
      first_cause (causes_at was.status (full_generation was.generation)) ≡ None →
      was.status ≢ Down → Compacts kind.layout was new →
      Tells (kind.with_journal machine new)
      (refused_by (kind.journal_of (kind.with_journal machine new)).status)
  checkpoint_failed new none up so said =
      let was_up = neither was.status (first_cause-none (is_halted was.status, Halted_before)
      (full_generation was.generation) none).0 up in
      (subst (IsCountedJournal was.failures) (sym (back machine new))
      (compacts_kept (Counted was.failures) (is_counted was.failures) kind.layout was new
      (up_counted was.failures was.status was_up) so)).1
      (halted_by (kind.journal_of (kind.with_journal machine new)).status said)

  does_failed : (call : MachineCall) (next : M) (given : A) (refusals : List Refusal) →
      Does kind machine call next given refusals → Tells next refusals
  does_failed call =
      does_tell kind machine (λ next _ refusals. Tells next refusals) call (still_failed call)
      (λ new is none up so. checkpoint_failed new none up so)
      (λ calls new kept by so said. absurd (not_nine said)) (device_failed call)

-- The world

edits_made : (pair : ℕ) (machine : SideMachine) (event : Event) → machine.journal.status ≡ Up →
    (next : SideMachine) (events : List Event) → EditsSide pair machine event next events →
    IsCountedJournal machine.journal.failures next.journal
edits_made pair machine event up _ _ (edits journal events lawful w) =
    let base = machine.journal.failures in
    writes_kept (Counted base) (is_counted base) (side_layout pair) machine.journal journal event
    events
    (up_counted machine.journal.failures machine.journal.status up) w

edit_others : (pair : ℕ) (machine : SideMachine) (user : ℕ) (edit : Edit) →
    AreOthers (causes_of pair machine (Edited user edit) ++ (true, Memory) ∷ [])
unfolding is_device
edit_others pair machine user (Put path bytes) =
    (refl, (refl, (refl, (refl, (refl, (refl, (refl, tt)))))))
edit_others pair machine user (MakeDir path) =
    (refl, (refl, (refl, (refl, (refl, (refl, (refl, tt)))))))
edit_others pair machine user (Remove path) =
    (refl, (refl, (refl, (refl, (refl, (refl, (refl, tt)))))))
edit_others pair machine user (Chmod path mode) =
    (refl, (refl, (refl, (refl, (refl, (refl, (refl, (refl, tt))))))))

start_others : (pair : ℕ) (machine : CoordinatorMachine) →
    AreOthers (start_causes pair machine ++ (true, Memory) ∷ [])
unfolding is_device
start_others pair machine = (refl, (refl, (refl, (refl, tt))))

side_refusals : (old : World) (side : Which) (machine : SideMachine)
    (messages : List Message) (events : List Event) →
    (side_goes old side machine messages events).refusals ≡ old.refusals
side_refusals old Left machine messages events = refl
side_refusals old Right machine messages events = refl

side_failures : (old : World) (side : Which) (next : SideMachine) (events : List Event)
    (refusals : List Refusal) →
    failures_of (refuses_with (side_goes old side next [] events) refusals) (At side)
    ≡ next.journal.failures
side_failures old Left next events refusals = refl
side_failures old Right next events refusals = refl

-- a step that is refused nothing
refused_none : (was now : List Refusal) → now ≡ was → now ≡ was ++ Device ∷ [] → ⊥
refused_none was now same said =
    not_nine (append_cancel_left was [] (Device ∷ []) (append-nil was ∙ (sym same ∙ said)))

side_failed : (old : World) (side : Which) (So : Effect SideMachine (List Event)) →
    ((next : SideMachine) (events : List Event) (refusals : List Refusal) →
    So next events refusals → IsNine refusals →
    (side_of old side).journal.failures < next.journal.failures) → (new : World) →
    SideDoes old side So new → new.refusals ≡ old.refusals ++ Device ∷ [] →
    failures_of old (At side) < failures_of new (At side)
side_failed old side So failed _ (side_does next events refusals so) said =
    let nine = append_cancel_left old.refusals refusals (Device ∷ [])
    (ap (λ was. was ++ refusals) (sym (side_refusals old side next [] events)) ∙ said) in
    let more = failed next events refusals so nine in
    let now = side_failures old side next events refusals in
    omega (arith, more, now)

coordinator_failed : (old : World) (So : Effect CoordinatorMachine Call) →
    ((next : CoordinatorMachine) (call : Call) (refusals : List Refusal) →
    So next call refusals → IsNine refusals →
    old.coordinator.journal.failures < next.journal.failures) → (new : World) →
    CoordinatorDoes old So new → new.refusals ≡ old.refusals ++ Device ∷ [] →
    failures_of old Coordinator < failures_of new Coordinator
coordinator_failed old So failed _ (coordinator_does next call refusals so) said =
    failed next call refusals so (append_cancel_left old.refusals refusals (Device ∷ []) said)

machine_failed : (old : World) (machine : Machine) (call : MachineCall) (new : World) →
    MachineDoes old machine call new → new.refusals ≡ old.refusals ++ Device ∷ [] →
    failures_of old machine < failures_of new machine
machine_failed old (At side) call new g said =
    side_failed old side (Does (side_kind old.pair) (side_of old side) call)
    (does_failed (side_kind old.pair) (λ machine journal. refl) (side_of old side) call) new g said
machine_failed old Coordinator call new g said =
    coordinator_failed old (Does (coordinator_kind old.pair) old.coordinator call)
    (does_failed (coordinator_kind old.pair) (λ machine journal. refl) old.coordinator call) new g
    said

delivers_refusals : (old : World) (o : Option Message) (new : World) → Delivers old o new →
    new.refusals ≡ old.refusals
delivers_refusals old _ _ no_message = refl
delivers_refusals old _ _ (to_no_side side session number request down) = refl
delivers_refusals old _ _ (to_side side session number request machine reply events t) =
    side_refusals old side machine (world.says side session number reply) events
delivers_refusals old _ _ (to_coordinator side session number reply machine call t) = refl

ticks_refusals : (old new : World) → Ticks old new → new.refusals ≡ old.refusals
ticks_refusals old _ (ticks machine call g) = refl

pub refused_after_failure : RefusedAfterFailure
refused_after_failure old new (Edits side user edit) g said = (
  At side,
  side_failed old side (UserEdits old.pair (side_of old side) (Edited user edit))
      (calls_failed (side_kind old.pair) (λ machine journal. refl) (side_of old side)
      (causes_of old.pair (side_of old side) (Edited user edit))
      (EditsSide old.pair (side_of old side) (Edited user edit))
      (edit_others old.pair (side_of old side) user edit)
      (edits_made old.pair (side_of old side) (Edited user edit))) new g said,
)
refused_after_failure old new (Start preference) g said = (
  Coordinator,
  coordinator_failed old (Starts old.pair preference old.coordinator)
      (calls_failed (coordinator_kind old.pair) (λ machine journal. refl) old.coordinator
      (start_causes old.pair old.coordinator)
      (CoordinatorStarts old.pair preference old.coordinator)
      (start_others old.pair old.coordinator)
      (λ up next call g. let base = old.coordinator.journal.failures in
      starts_kept (Counted base) (is_counted base) old.pair old.coordinator next call
      (up_counted base old.coordinator.journal.status up) g)) new g said,
)
refused_after_failure old new (Deliver message) g said =
    absurd (refused_none old.refusals new.refusals
    (delivers_refusals old (slice_get old.sent message) new g) said)
refused_after_failure old new Tick g said =
    absurd (refused_none old.refusals new.refusals (ticks_refusals old new g) said)
refused_after_failure old new (Checkpoint machine) g said =
    (machine, machine_failed old machine one.Checkpoint new g said)
refused_after_failure old new (Fail machine call) g said =
    (machine, machine_failed old machine (one.Fail call) new g said)
refused_after_failure old new (Stop machine calls) g said =
    (machine, machine_failed old machine (one.Stop calls) new g said)
refused_after_failure old new (Open machine) g said =
    (machine, machine_failed old machine one.Open new g said)
refused_after_failure old new (Reopen machine) g said =
    (machine, machine_failed old machine one.Reopen new g said)

-- The end of a session

ends_failed : (pair : ℕ) (running : Running) (taken : Exchange) (was : Status) (walk : Walk)
    (why : Option Refusal) → EndsFor pair running taken was walk why → why ≡ Some Device →
    (was ≡ Up) × (walk.journal.status ≡ Halted)
ends_failed pair running taken was walk _ (coordinator.settled some over up) e =
    absurd (none-some _ e)
ends_failed pair running taken was walk _ (coordinator.fails up now) e = (up, now)
ends_failed pair running taken was walk _ (coordinator.failed_before planned kept at due up now) e =
    let x : Halted_before ≡ Device = same_Some _ _ e in
    cc
ends_failed pair running taken was walk _ (coordinator.no_room_left kept full made) e =
    let x : JournalFull ≡ Device = same_Some _ _ e in
    cc
ends_failed pair running taken was walk _ (coordinator.no_memory same) e =
    let x : Memory ≡ Device = same_Some _ _ e in
    cc

pub ends_after_failure : EndsAfterFailure
ends_after_failure pair old running taken new call takes none =
    faultless_report pair old running taken (λ new report. report.ended ≡ Some Device →
    old.journal.failures < new.journal.failures) none
    (λ e. let x : Memory ≡ Device = same_Some _ _ e in absurd (let y : ⊥ = cc in y))
    (λ plan walk kept why advances ends e. let base = old.journal.failures in
    let now = ends_failed pair _ taken old.journal.status walk why ends e in
    (advances_kept (Counted base) (is_counted base) pair _ taken (start_of old running) walk kept
    (up_counted base old.journal.status now.0) advances).1 now.1) new call takes
