-- What comes of the steps of a run.
use Rattle.std.proofs.Common.{◌≡◌, ◌≢◌, ◌⊎◌, ◌∙◌, Bool, true, false, ℕ, zero, suc, List, [], ◌∷◌}
use Rattle.std.proofs.Common.{◌++◌, map, Option, Some, None, refl, sym, ap, subst, inl, inr, arith}
use Rattle.std.proofs.Common.{true≢false, append-nil, append_assoc, ◌+◌, option_map, slice_get}
use Rattle.std.proofs.Common.{filter_map}
use Rattle.std.specs.Prelude.{All, Contains, IfSome, IsSomeAnd}
use Rattle.std.proofs.lemmas.Option.{none-some, same_Some}
use Rattle.std.proofs.lemmas.List.{append_cancel_left}
use Rattle.std.proofs.lemmas.List.Elements.{All-head, All-nil}
use Rattle.std.proofs.lemmas.List.Elements.{Contains-append_left, Contains-append_right}
use Rattle.syn_model.specs.Refusal.{Refusal, Device, Full, Halted as IsHalted, JournalFull, Memory}
use Rattle.syn_model.specs.Refusal.{Busy, Cause, first_cause}
use Rattle.syn_model.specs.Event.{Edit, Event, Edited}
use Rattle.syn_model.specs.History.{event_causes, event_refusal}
use Rattle.syn_model.specs.Archive.{Kept, Session, CanKeep}
use Rattle.syn_model.proofs.HistoryLemmas.{first_cause-none, none-append}
use Rattle.syn_machine.specs.Machine.{Status, Up, Halted, Down, idle, written}
use Rattle.syn_machine.specs.Machine.{unwritten}
use Rattle.syn_machine.specs.MachineSteps.{causes_at, is_halted, refused_by}
use Rattle.syn_machine.specs.Side.{Side, Served, Serves, Request, IsLawfulRequest, room_causes}
use Rattle.syn_machine.specs.Side.{Reply}
use Rattle.syn_runs.specs.Laws.{AddsAllowed}
use Rattle.syn_machine.specs.SideMachine.{SideMachine, side_kind, causes_of, EditsSide, edits}
use Rattle.syn_machine.specs.SideMachine.{UserEdits, has_room_for, ServesAs}
use Rattle.syn_machine.specs.Network.{Which, Left, Right, Message, Asks}
use Rattle.syn_machine.specs.Coordinator.{CoordinatorMachine, Call, coordinator_kind, start_causes}
use Rattle.syn_machine.specs.Coordinator.{CoordinatorStarts, starts, start_breaks, writes}
use Rattle.syn_machine.specs.Coordinator.{cut_after, Starts}
use Rattle.syn_runs.specs.World.{World, Machine, At, Coordinator, Step, Edits, Start, Deliver}
use Rattle.syn_runs.specs.World.{Tick, Checkpoint, Fail, Stop, Open, Reopen, Steps, Runs}
use Rattle.syn_runs.specs.World.{status_of, side_of, side_does, coordinator_does}
use Rattle.syn_runs.specs.World as world
use Rattle.syn_runs.specs.Runs.{IsStart, picture_of, stores_of}
use Rattle.syn_runs.specs.Acknowledged.{Ack, Happened, Kept_by, Stores, history_of}
use Rattle.syn_runs.specs.Acknowledged.{stores_after}
use Rattle.syn_machine.specs.Planning.{Planned}
use Rattle.syn_runs.specs.Picture.{Picture, Follows, SidePicture, set_side}
use Rattle.syn_runs.specs.Picture as picture
use Rattle.syn_runs.specs.Headline.{StandsFor}
use Rattle.syn_runs.proofs.MachineLemmas.{calls_tell}
use Rattle.syn_runs.proofs.OutcomeLemmas.{any_outcome, unless_up_same}
use Rattle.syn_runs.proofs.SideLemmas.{serves_allowed}
use Rattle.syn_runs.proofs.Invariant.{Plans, IsKept, IsHarmless, IsSoundEvent, histories_of}
use Rattle.syn_machine.proofs.Heard.{sent_at}
use Rattle.syn_runs.proofs.Sessions.{IsHeard}
use Rattle.syn_runs.proofs.Simulation.{step_follows}
use Rattle.syn_runs.proofs.AdvanceLemmas.{step_advances}
use Rattle.syn_runs.proofs.WorldLemmas.{step_stands}
use Rattle.syn_runs.proofs.WholeRuns.{no_plans, start_kept}
use Rattle.syn_runs.proofs.FineRuns.{start_view}
use Rattle.syn_promise.specs.Power.{On, Off, Turns}
use Rattle.syn_promise.specs.Steps.{Comes, made, refused, edit_lost, start_lost, opened, was_open}
use Rattle.syn_promise.specs.Steps.{reopening_lost, nothing, Come, no_step, one_more, MayRefuse}
use Rattle.syn_promise.specs.Steps.{Condition, working, IsAble, Started, started_by, IsOfSession}
use Rattle.syn_promise.specs.Steps.{Leaves}
use Rattle.syn_promise.proofs.AllowedLemmas.{CouldKeep, course_could}
use Rattle.syn_promise.proofs.PowerLemmas.{power_of, AllTidy, step_turns, start_on, start_tidy}
use Rattle.syn_promise.proofs.PowerLemmas.{down_off, up_not_off, StepTurns}
use Rattle.syn_promise.proofs.NumberLemmas.{AllStarted, step_numbers, start_numbers}
use Rattle.syn_promise.proofs.LeaveLemmas.{making_of, served_so, all_due_so, leaves, RecordsIfUp}
use Rattle.syn_promise.proofs.LeaveLemmas.{StepRecordsIfUp}
use Rattle.syn_promise.proofs.UpLemmas.{delivered_if_up}
use Rattle.syn_promise.proofs.SessionLemmas.{stands_as}
use Rattle.syn_promise.proofs.CarriedLemmas.{IsCarried, step_carried}
use Rattle.syn_promise.proofs.ReportedLemmas.{AllReported, course_reported, start_reported}
use Rattle.syn_promise.proofs.SaidLemmas.{AllSaid, step_said, start_said}
use Rattle.syn_promise.proofs.PlannedLemmas.{AllPlanned, WasPlanned, course_planned, unrecorded_in}
use Rattle.syn_runs.proofs.CourseLemmas.{course}

-- Why a step is refused

-- the first cause is one of them
named : (causes : List Cause) (reason : Refusal) → first_cause causes ≡ Some reason →
    Contains (map (λ cause. cause.1) causes) reason
named [] reason e = cc
named ((true, why) ∷ causes) reason e = let same : why ≡ reason = cc in (0, omega arith, same)
named ((false, why) ∷ causes) reason e =
    Contains-append_right (why ∷ []) (map (λ cause. cause.1) causes) reason (named causes reason e)

split : (causes more : List Cause) (reason : Refusal) → first_cause (causes ++ more) ≡ Some reason →
    (first_cause causes ≡ Some reason) ⊎ (first_cause more ≡ Some reason)
split [] more reason e = inr e
split ((true, why) ∷ causes) more reason e = inl e
split ((false, why) ∷ causes) more reason e = split causes more reason e

-- it stands among others
among : (front some back : List Refusal) (reason : Refusal) → Contains some reason →
    Contains (front ++ (some ++ back)) reason
among front some back reason c =
    Contains-append_right front (some ++ back) reason (Contains-append_left some back reason c)

abbrev edit_causes : Stores → Which → ℕ → Edit → List Cause
edit_causes stands side user edit = event_causes (history_of stands side) (Edited user edit)

edit_refused : (stands : Stores) (side : Which) (user : ℕ) (edit : Edit) (status : Status)
    (has_room : Event → Bool) (reason : Refusal) →
    first_cause (causes_at status (edit_causes stands side user edit
    ++ room_causes has_room (Edited user edit)) ++ (true, Memory) ∷ []) ≡ Some reason →
    MayRefuse stands (Edits side user edit) reason
edit_refused stands side user edit status has_room reason e =
    by_first (split ((is_halted status, IsHalted) ∷ [])
    ((edit_causes stands side user edit ++ room_causes has_room (Edited user edit))
    ++ (true, Memory) ∷ []) reason e)
  where
    by_third : (first_cause (edit_causes stands side user edit) ≡ Some reason)
        ⊎ (first_cause (room_causes has_room (Edited user edit)) ≡ Some reason) →
        MayRefuse stands (Edits side user edit) reason
    by_third (inl e) = inl e
    by_third (inr e) = inr (among (IsHalted ∷ []) (JournalFull ∷ []) (Memory ∷ Device ∷ []) reason
        (named (room_causes has_room (Edited user edit)) reason e))

    by_second : (first_cause (edit_causes stands side user edit
        ++ room_causes has_room (Edited user edit)) ≡ Some reason)
        ⊎ (first_cause ((true, Memory) ∷ []) ≡ Some reason) →
        MayRefuse stands (Edits side user edit) reason
    by_second (inl e) = by_third (split (edit_causes stands side user edit)
        (room_causes has_room (Edited user edit)) reason e)
    by_second (inr e) = inr (among (IsHalted ∷ JournalFull ∷ []) (Memory ∷ []) (Device ∷ []) reason
        (named ((true, Memory) ∷ []) reason e))

    by_first : (first_cause ((is_halted status, IsHalted) ∷ []) ≡ Some reason)
        ⊎ (first_cause ((edit_causes stands side user edit
        ++ room_causes has_room (Edited user edit)) ++ (true, Memory) ∷ []) ≡ Some reason) →
        MayRefuse stands (Edits side user edit) reason
    by_first (inl e) = inr (among [] (IsHalted ∷ []) (JournalFull ∷ Memory ∷ Device ∷ []) reason
        (named ((is_halted status, IsHalted) ∷ []) reason e))
    by_first (inr e) = by_second (split (edit_causes stands side user edit
        ++ room_causes has_room (Edited user edit)) ((true, Memory) ∷ []) reason e)

-- a machine that refuses nothing and is not down is up
up_so : (status : Status) (causes : List Cause) → status ≢ Down →
    first_cause (causes_at status causes) ≡ None → status ≡ Up
up_so Up causes up none = refl
up_so Halted causes up none = cc
up_so Down causes up none = absurd (up refl)

up_not_down : (status : Status) → status ≡ Up → status ≢ Down
up_not_down status up down = let apart : Up ≡ Down = sym up ∙ down in cc

-- A user's edit

history_is : (old : World) (side : Which) →
    (side_of old side).journal.value ≡ history_of (stores_of old) side
history_is old Left = refl
history_is old Right = refl

module _ (old : World) (side : Which) (user : ℕ) (edit : Edit) (started : List Started)
    (was now : Machine → Condition)
    (able : status_of old (At side) ≡ Up → IsAble (was (At side))) where
  abbrev EditComesTo : List Ack → List Refusal → Type 0
  EditComesTo acks told = Comes (stores_of old) started was now (Edits side user edit) acks told

  abbrev EditComes : SideMachine → List Event → List Refusal → Type 0
  EditComes next events told = (next.journal.status ≡ Down → (now (At side)).power ≡ Off) →
      EditComesTo (map (λ event. Happened side event) events) told

  abbrev IsLawfulEdit : Type 0
  IsLawfulEdit = event_refusal (history_of (stores_of old) side) (Edited user edit) ≡ None

  edit_written : IsAble (was (At side)) → IsLawfulEdit → (status : Status) → status ≡ Up →
      EditComesTo (Happened side (Edited user edit) ∷ []) (refused_by status)
  edit_written is_able lawful status up =
      subst (λ s. EditComesTo (Happened side (Edited user edit) ∷ []) (refused_by s)) (sym up)
      (made (Edits side user edit) (At side) (Happened side (Edited user edit) ∷ []) is_able
      (Edited user edit, refl) (refl, lawful))

  edit_broken : (status : Status) → (status ≡ Halted) ⊎ (status ≡ Down) →
      (status ≡ Down → (now (At side)).power ≡ Off) → EditComesTo [] (refused_by status)
  edit_broken Up broken stopped = absurd (elim broken as (λ _. ⊥) [ inl e ↦ cc | inr e ↦ cc ])
  edit_broken Halted broken stopped =
      refused (Edits side user edit) Device (inr (3, omega arith, refl))
  edit_broken Down broken stopped = edit_lost side user edit (stopped refl)

  edit_made : (next : SideMachine) (events : List Event) →
      (side_of old side).journal.status ≡ Up → IsLawfulEdit →
      EditsSide old.pair (side_of old side) (Edited user edit) next events →
      EditComes next events (refused_by next.journal.status)
  edit_made _ _ up lawful (edits _ _ spelled (idle is)) stopped = absurd (true≢false (sym is))
  edit_made _ _ up lawful (edits _ _ spelled (written arms is meets)) stopped =
      edit_written (able up) lawful (side_of old side).journal.status up
  edit_made _ _ up lawful (edits _ _ spelled (unwritten status arms failed is broken meets))
      stopped = edit_broken status broken stopped

  no_cause : first_cause (causes_at (side_of old side).journal.status
      (causes_of old.pair (side_of old side) (Edited user edit))) ≡ None → IsLawfulEdit
  no_cause none =
      let causes = event_causes (side_of old side).journal.value (Edited user edit) in
      let room = room_causes (has_room_for old.pair (side_of old side)) (Edited user edit) in
      subst (λ h. event_refusal h (Edited user edit) ≡ None) (history_is old side)
      (none-append causes room (first_cause-none
      (is_halted (side_of old side).journal.status, IsHalted) (causes ++ room) none).1).0

  pub edit_comes : (next : SideMachine) (events : List Event) (told : List Refusal) →
      UserEdits old.pair (side_of old side) (Edited user edit) next events told →
      EditComes next events told
  edit_comes = calls_tell (side_kind old.pair) (side_of old side) EditComes
      (causes_of old.pair (side_of old side) (Edited user edit))
      (EditsSide old.pair (side_of old side) (Edited user edit))
      (λ is_down stopped. edit_lost side user edit (stopped is_down))
      (λ reason up some stopped. refused (Edits side user edit) reason
      (edit_refused (stores_of old) side user edit (side_of old side).journal.status
      (has_room_for old.pair (side_of old side)) reason (subst (λ history.
      first_cause (causes_at (side_of old side).journal.status
      (event_causes history (Edited user edit)
      ++ room_causes (has_room_for old.pair (side_of old side)) (Edited user edit))
      ++ (true, Memory) ∷ []) ≡ Some reason) (history_is old side) some)))
      (λ next events none up so. edit_made next events
      (up_so (side_of old side).journal.status
      (causes_of old.pair (side_of old side) (Edited user edit)) up none) (no_cause none) so)

-- A start

module _ (old : World) (preference : Option Which) (started : List Started)
    (was now : Machine → Condition)
    (able : status_of old Coordinator ≡ Up → IsAble (was Coordinator)) where
  abbrev StartComesTo : List Ack → List Refusal → Type 0
  StartComesTo acks told = Comes (stores_of old) started was now (Start preference) acks told

  abbrev StartComes : CoordinatorMachine → Call → List Refusal → Type 0
  StartComes next call told = (next.journal.status ≡ Down → (now Coordinator).power ≡ Off) →
      StartComesTo (map Kept_by call.kept) told

  start_broken : (status : Status) → (status ≡ Halted) ⊎ (status ≡ Down) →
      (status ≡ Down → (now Coordinator).power ≡ Off) → StartComesTo [] (refused_by status)
  start_broken Up broken stopped = absurd (elim broken as (λ _. ⊥) [ inl e ↦ cc | inr e ↦ cc ])
  start_broken Halted broken stopped = refused (Start preference) Device (5, omega arith, refl)
  start_broken Down broken stopped = start_lost preference (stopped refl)

  session_kept : IsAble (was Coordinator) → (session : ℕ) →
      session ≡ old.coordinator.journal.value.last_session + 1 →
      StartComesTo (Kept_by (Session session) ∷ []) []
  session_kept is_able session is =
      made (Start preference) Coordinator (Kept_by (Session session) ∷ []) is_able
      (Session session ∷ [], refl) (ap (λ s. Kept_by (Session s) ∷ []) is)

  start_made : (next : CoordinatorMachine) (call : Call) → old.coordinator.journal.status ≡ Up →
      CoordinatorStarts old.pair preference old.coordinator next call →
      StartComes next call (refused_by next.journal.status)
  start_made _ _ up (starts session journal is lawful keeps up_still) stopped =
      subst (λ s. StartComesTo (Kept_by (Session session) ∷ []) (refused_by s)) (sym up_still)
      (session_kept (able up) session is)
  start_made _ _ up (start_breaks session _ _ is (writes _ _ (idle same)) broken) stopped =
      absurd (broken up)
  start_made _ _ up (start_breaks session _ _ is (writes _ _ (written arms other meets)) broken)
      stopped = absurd (broken up)
  start_made _ _ up
      (start_breaks session _ _ is (writes _ _ (unwritten status arms failed other left meets))
      broken) stopped = start_broken status left stopped
  start_made _ _ up (start_breaks session _ _ is (cut_after other before stop) broken) stopped =
      session_kept (able up) session is

  pub start_comes : (next : CoordinatorMachine) (call : Call) (told : List Refusal) →
      Starts old.pair preference old.coordinator next call told → StartComes next call told
  start_comes = calls_tell (coordinator_kind old.pair) old.coordinator StartComes
      (start_causes old.pair old.coordinator)
      (CoordinatorStarts old.pair preference old.coordinator)
      (λ is_down stopped. start_lost preference (stopped is_down))
      (λ reason up some stopped. refused (Start preference) reason
      (Contains-append_left (IsHalted ∷ Busy ∷ Full ∷ JournalFull ∷ Memory ∷ []) (Device ∷ [])
      reason (named (causes_at old.coordinator.journal.status
      (start_causes old.pair old.coordinator)
      ++ (true, Memory) ∷ []) reason some)))
      (λ next call none up so. start_made next call
      (up_so old.coordinator.journal.status (start_causes old.pair old.coordinator) up none) so)

nothing_kept : (kept : List Kept) → All picture.IsNothing kept → kept ≡ []
nothing_kept [] all = refl
nothing_kept (one ∷ kept) all = absurd (All-head picture.IsNothing one kept all)

-- a side adds one event at most
one_alone : (pair : ℕ) (has_room : Event → Bool) (side : Side) (session : ℕ) (request : Request)
    (served : Served) (event : Event) (events : List Event) → IsLawfulRequest session request →
    Serves pair has_room side session request served →
    served.side.history ≡ side.history ++ event ∷ events → events ≡ []
one_alone pair has_room side session request served event events lawful serves added =
    by (serves_allowed pair has_room side session request served lawful serves)
  where
    by : AddsAllowed side.history served.side.history → events ≡ []
    by (inl same) = let none : [] ≡ event ∷ events = append_cancel_left side.history []
        (event ∷ events) (append-nil side.history ∙ (sym same ∙ added)) in cc
    by (inr (one, allowed, more)) = let same : one ∷ [] ≡ event ∷ events =
        append_cancel_left side.history (one ∷ []) (event ∷ events) (sym more ∙ added) in cc

acks_if_up : (old new : Picture) → RecordsIfUp old new →
    (old.coordinator.status ≡ Up) ⊎ (new.acknowledged ≡ old.acknowledged)
acks_if_up old new (inl up) = inl up
acks_if_up old new (inr (same, writing)) = inr same

-- Any other step, in the picture

module _ (plans : Plans) (old : Picture) (k : IsKept plans old) (started : List Started)
    (numbers : AllStarted started old) (was now : Machine → Condition)
    (was_is : (machine : Machine) → (was machine).making ≡ making_of old machine)
    (able : (machine : Machine) → picture.status_of old machine ≡ Up → IsAble (was machine))
    (on : (machine : Machine) → picture.status_of old machine ≢ Down →
    (was machine).power ≢ Off) (new : Picture)
    (able_now : (machine : Machine) → picture.status_of new machine ≡ Up → IsAble (now machine))
    (off_now : (machine : Machine) → picture.status_of new machine ≡ Down →
    (now machine).power ≡ Off) where
  abbrev stands : Stores
  stands = picture.stores_of old

  abbrev ComesTo : Step → List Ack → List Refusal → Type 0
  ComesTo step more told = Comes stands started was now step more told

  -- what comes of a step that is neither an edit nor a start
  abbrev Rest : Step → List Ack → List Refusal → Type 0
  Rest (Edits side user edit) more told = Unit {0}
  Rest (Start preference) more told = Unit {0}
  Rest (Deliver message) more told = ComesTo (Deliver message) more told
  Rest Tick more told = ComesTo Tick more told
  Rest (Checkpoint machine) more told = ComesTo (Checkpoint machine) more told
  Rest (Fail machine call) more told = ComesTo (Fail machine call) more told
  Rest (Stop machine calls) more told = ComesTo (Stop machine calls) more told
  Rest (Open machine) more told = ComesTo (Open machine) more told
  Rest (Reopen machine) more told = ComesTo (Reopen machine) more told

  pub record Rests (step : Step) (told : List Refusal) : Type 0 where
    pub more : List Ack
    pub acks : new.acknowledged ≡ old.acknowledged ++ more
    pub rest : Rest step more told

  -- what a step does not reach, as its machine is down
  lost_so : (step : Step) (machine : Machine) → picture.lost_on step ≡ Some machine →
      picture.status_of new machine ≡ Down → Rest step [] []
  lost_so (Edits side user edit) machine is down = tt
  lost_so (Start preference) machine is down = tt
  lost_so (Deliver message) machine is down = nothing (Deliver message) tt
  lost_so Tick machine is down = nothing Tick tt
  lost_so (Checkpoint at) machine is down = nothing (Checkpoint at) tt
  lost_so (Fail at call) machine is down = nothing (Fail at call) tt
  lost_so (Stop at calls) machine is down = nothing (Stop at calls) tt
  lost_so (Open at) machine is down = absurd (none-some _ is)
  lost_so (Reopen at) machine is down =
      let same : at ≡ machine = same_Some at machine is in
      reopening_lost at (off_now at (ap (picture.status_of new) same ∙ down))

  refused_so : (step : Step) (reason : Refusal) (machine : Machine) (status : Status)
      (causes : List Cause) → picture.MayRefuse old step machine causes →
      first_cause (causes_at status causes ++ (true, Memory) ∷ []) ≡ Some reason →
      Rest step [] (reason ∷ [])
  refused_so _ reason _ status _ (picture.an_edit which user edit has_room) e = tt
  refused_so _ reason _ status _ (picture.a_start preference has_room) e = tt
  refused_so _ reason _ status _ (picture.a_checkpoint machine is_last) e =
      refused (Checkpoint machine) reason
      (Contains-append_left (IsHalted ∷ Full ∷ Memory ∷ []) (Device ∷ []) reason
      (named (causes_at status ((is_last, Full) ∷ []) ++ (true, Memory) ∷ []) reason e))

  idle_so : (step : Step) (told : List Refusal) → new ≡ old → picture.IsIdle old step told →
      Rest step [] told
  idle_so step _ same (picture.lost _ machine is down) =
      lost_so step machine is (ap (λ w. picture.status_of w machine) same ∙ down)
  idle_so step _ same (picture.refused _ reason is) =
      refused_so step reason is.machine (picture.status_of old is.machine) is.causes is.may
      is.first
  idle_so _ _ same (picture.is_open machine up) = was_open machine (on machine up)
  idle_so _ _ same (picture.no_memory_to_open machine down) =
      refused (Open machine) Memory (1, omega arith, refl)
  idle_so _ _ same (picture.no_message message none) = nothing (Deliver message) tt
  idle_so _ _ same (picture.to_no_side message which session number request at down) =
      nothing (Deliver message) tt
  idle_so _ _ same (picture.not_expected message from session number reply at not) =
      nothing (Deliver message) tt
  idle_so _ _ same (picture.no_session none) = nothing Tick tt

  compacted_so : (machine : Machine) (status : Status) →
      Rest (Checkpoint machine) [] (refused_by status)
  compacted_so machine Up = nothing (Checkpoint machine) tt
  compacted_so machine Halted = refused (Checkpoint machine) Device (3, omega arith, refl)
  compacted_so machine Down = nothing (Checkpoint machine) tt

  settles_so : (machine : Machine) (was : Status) (step : Step) (status : Status)
      (told : List Refusal) → picture.status_of new machine ≡ status →
      picture.Settles machine was step status told → Rest step [] told
  settles_so machine was _ _ _ is (picture.compacts status up) = compacted_so machine status
  settles_so machine was _ _ _ is (picture.arms_failure call) = nothing (Fail machine call) tt
  settles_so machine was _ _ _ is (picture.arms_stop calls) = nothing (Stop machine (suc calls)) tt
  settles_so machine was _ _ _ is (picture.stops up) = nothing (Stop machine zero) tt
  settles_so machine was _ _ _ is (picture.not_opened down) =
      refused (Open machine) Device (0, omega arith, refl)
  settles_so machine was _ _ _ is (picture.not_reopened up) =
      refused (Reopen machine) Device (0, omega arith, refl)
  settles_so machine was _ _ _ is (picture.reopening_cut up) =
      reopening_lost machine (off_now machine is)
  settles_so machine was _ _ _ is (picture.no_memory_to_reopen up) =
      refused (Reopen machine) Memory (1, omega arith, refl)

  -- an opening gives nothing back, or what the machine was making
  opened_so : (machine : Machine) (status : Status) (step : Step) (acks : List Ack) →
      picture.IsOpening machine status step → picture.status_of new machine ≡ Up →
      (acks ≡ []) ⊎ IsSomeAnd (was machine).making (λ ack. acks ≡ ack ∷ []) → Rest step acks []
  opened_so machine status _ acks (picture.opening down) up back =
      opened (Open machine) machine acks (0, omega arith, refl) (able_now machine up) back
  opened_so machine status _ acks (picture.reopening not_down) up back =
      opened (Reopen machine) machine acks (1, omega arith, refl) (able_now machine up) back

  given_back : (machine : Machine) (ack : Ack) → making_of old machine ≡ Some ack →
      (ack ∷ [] ≡ []) ⊎ IsSomeAnd (was machine).making (λ one. ack ∷ [] ≡ one ∷ [])
  given_back machine ack is = inr (subst (λ o. IsSomeAnd o (λ one. ack ∷ [] ≡ one ∷ []))
      (sym (was_is machine ∙ is)) refl)

  side_back : (which : Which) (machine : SidePicture) (events : List Event) (status : Status)
      (step : Step) → picture.IsOpening (At which) status step →
      picture.status_of new (At which) ≡ machine.status →
      picture.Opens (picture.side_of old which) machine events →
      Rest step (map (λ event. Happened which event) events) []
  side_back which _ _ status step by up picture.opened =
      opened_so (At which) status step [] by up (inl refl)
  side_back which _ _ status step by up (picture.recovered event writing allowed) =
      opened_so (At which) status step (Happened which event ∷ []) by up
      (given_back (At which) (Happened which event)
      (ap (option_map (λ event. Happened which event)) writing))

  -- a side's machine has no part in what was acknowledged
  set_acks : (which : Which) (machine : SidePicture) →
      (set_side old which machine).acknowledged ≡ old.acknowledged
  set_acks Left machine = refl
  set_acks Right machine = refl

  set_status : (which : Which) (machine : SidePicture) (world : Picture) →
      world ≡ set_side old which machine →
      picture.status_of world (At which) ≡ machine.status
  set_status Left machine world e = ap (λ w. w.left.status) e
  set_status Right machine world e = ap (λ w. w.right.status) e

  goes_status : (which : Which) (machine : SidePicture) (sent : List Message) (acks : List Ack) →
      new ≡ record (set_side old which machine) { sent = sent; acknowledged = acks } →
      picture.status_of new (At which) ≡ machine.status
  goes_status Left machine sent acks e = ap (λ w. w.left.status) e
  goes_status Right machine sent acks e = ap (λ w. w.right.status) e

  none_more : (step : Step) (told : List Refusal) →
      new.acknowledged ≡ old.acknowledged → Rest step [] told → Rests step told
  none_more step told same rest = record {
    more = [];
    acks = same ∙ sym (append-nil old.acknowledged);
    rest = rest;
  }

  -- a side adds one event, and only where it is up
  served_comes : (message : ℕ) (which : Which) (session number : ℕ) (request : Request)
      (events : List Event) → Contains old.sent (Asks which session number request) →
      (a : picture.AnswersRequest old which session number request new) → a.events ≡ events →
      ComesTo (Deliver message) (map (λ event. Happened which event) events) []
  served_comes message which session number request [] asked a is = nothing (Deliver message) tt
  served_comes message which session number request (event ∷ events) asked a is =
      by (picture.side_of old which).status refl
    where
      lawful : IsLawfulRequest session request
      lawful = (k.sound.asked which session number request asked).lawful

      all_of : All (IsOfSession started)
          (map (λ event. Happened which event) (event ∷ events))
      all_of = subst (λ es. All (IsOfSession started) (map (λ event. Happened which event) es)) is
          (served_so started which (picture.side_of old which).side session request a.served
          a.events (numbers.asked which session number request asked)
          (any_outcome (picture.side_of old which).status old.pair a.has_room
          (picture.side_of old which).side session request a.served lawful a.serves) a.added)

      none_if : (picture.side_of old which).status ≢ Up → event ∷ events ≡ []
      none_if not_up = sym is ∙ sym (append_cancel_left
          (picture.side_of old which).side.history [] a.events
          (append-nil (picture.side_of old which).side.history
          ∙ (sym (unless_up_same (picture.side_of old which).status not_up old.pair a.has_room
          (picture.side_of old which).side session request a.served a.serves) ∙ a.added)))

      by : (status : Status) → (picture.side_of old which).status ≡ status →
          ComesTo (Deliver message) (map (λ event. Happened which event) (event ∷ events)) []
      by Up up =
          let alone = one_alone old.pair a.has_room (picture.side_of old which).side session request
          a.served event events lawful (subst (λ status. ServesAs status old.pair a.has_room
          (picture.side_of old which).side session request a.served) up a.serves)
          (a.added ∙ ap (λ es. (picture.side_of old which).side.history ++ es) is) in
          made (Deliver message) (At which) _ (able (At which) up)
          (event, ap (λ es. Happened which event ∷ map (λ event. Happened which event) es) alone)
          all_of
      by Halted up = let none : event ∷ events ≡ [] =
          none_if (λ is_up. let apart : Halted ≡ Up = sym up ∙ is_up in cc) in cc
      by Down up = let none : event ∷ events ≡ [] =
          none_if (λ is_up. let apart : Down ≡ Up = sym up ∙ is_up in cc) in cc

  request_so : (message : ℕ) (which : Which) (session number : ℕ) (request : Request) →
      Contains old.sent (Asks which session number request) →
      picture.TakesRequest old which session number request new → Rests (Deliver message) []
  request_so message which session number request asked (picture.answered a) = record {
    more = map (λ event. Happened which event) a.events;
    acks = ap (λ w. w.acknowledged) a.result;
    rest = served_comes message which session number request a.events asked a refl;
  }
  request_so message which session number request asked
      (picture.request_failed event would e) =
      none_more (Deliver message) [] (ap (λ w. w.acknowledged) e ∙ set_acks which _)
      (nothing (Deliver message) tt)
  request_so message which session number request asked (picture.request_cut event would e) =
      none_more (Deliver message) [] (ap (λ w. w.acknowledged) e ∙ set_acks which _)
      (nothing (Deliver message) tt)

  answer_comes : (message : ℕ) (from : Which) (number : ℕ) (reply : Reply) (plan : List Planned)
      (kept : List Kept) → new.acknowledged ≡ old.acknowledged ++ map Kept_by kept →
      All (picture.IsDueAfter old.coordinator.running plan from number reply) kept →
      (old.coordinator.status ≡ Up) ⊎ (new.acknowledged ≡ old.acknowledged) →
      ComesTo (Deliver message) (map Kept_by kept) []
  answer_comes message from number reply plan kept added due (inl up) =
      made (Deliver message) Coordinator (map Kept_by kept) (able Coordinator up) (kept, refl)
      (all_due_so started old.coordinator.running plan from number reply kept due)
  answer_comes message from number reply plan kept added due (inr same) =
      subst (λ acks. ComesTo (Deliver message) acks []) (append_cancel_left old.acknowledged []
      (map Kept_by kept) (append-nil old.acknowledged ∙ (sym same ∙ added)))
      (nothing (Deliver message) tt)

  pub rests : (step : Step) (told : List Refusal) → StepRecordsIfUp old new step →
      Follows old new step told → Rests step told
  rests _ _ if_up (picture.same step told why e) =
      none_more step told (ap (λ w. w.acknowledged) e) (idle_so step told e why)
  rests _ _ if_up (picture.edits which user edit machine events allowed up w e) = record {
    more = map (λ event. Happened which event) events;
    acks = ap (λ w. w.acknowledged) e;
    rest = tt;
  }
  rests _ _ if_up (picture.opens which step machine events by o e) = record {
    more = map (λ event. Happened which event) events;
    acks = ap (λ w. w.acknowledged) e;
    rest = side_back which machine events _ step by (goes_status which machine _ _ e) o;
  }
  rests _ _ if_up (picture.changes which step status told settles e) =
      none_more step told (ap (λ w. w.acknowledged) e ∙ set_acks which _)
      (settles_so (At which) _ step status told (set_status which _ new e) settles)
  rests _ _ if_up (picture.serves message which session number request at takes) =
      request_so message which session number request (sent_at old.sent message _ at) takes
  rests _ _ if_up (picture.starts_session preference up none g some reports) = record {
    more = map Kept_by g.kept;
    acks = ap (λ w. w.acknowledged) g.result;
    rest = tt;
  }
  rests _ _ if_up (picture.ticks_once running is g reports status again) =
      none_more Tick [] (ap (λ w. w.acknowledged) g.result
      ∙ (ap (λ kept. old.acknowledged ++ map Kept_by kept) (nothing_kept g.kept g.keeps.due)
      ∙ append-nil old.acknowledged)) (nothing Tick tt)
  rests _ _ if_up
      (picture.takes_answer message from session number reply plan logged at expected makes_plan g
      reports heard) = record {
        more = map Kept_by g.kept;
        acks = ap (λ w. w.acknowledged) g.result;
        rest = answer_comes message from number reply plan g.kept
            (ap (λ w. w.acknowledged) g.result) g.keeps.due
            (acks_if_up old new (if_up message refl from session number reply at));
      }
  rests _ _ if_up (picture.archive_changes step status told settles e) =
      none_more step told (ap (λ w. w.acknowledged) e)
      (settles_so Coordinator _ step status told (ap (λ w. w.coordinator.status) e) settles)
  rests _ _ if_up (picture.archive_opens step by e) =
      none_more step [] (ap (λ w. w.acknowledged) e)
      (opened_so Coordinator _ step [] by (ap (λ w. w.coordinator.status) e) (inl refl))
  rests _ _ if_up (picture.archive_recovers step kept by writing can e) = record {
    more = Kept_by kept ∷ [];
    acks = ap (λ w. w.acknowledged) e;
    rest = opened_so Coordinator _ step (Kept_by kept ∷ []) by
        (ap (λ w. w.coordinator.status) e) (given_back Coordinator (Kept_by kept)
        (ap (option_map (λ kept. Kept_by kept)) writing));
  }

-- One step

-- how a machine of the world is
abbrev condition_of : World → Machine → Condition
condition_of world machine = record {
  power = power_of world machine;
  making = making_of (picture_of world) machine;
}

status_shown : (world : World) (machine : Machine) →
    picture.status_of (picture_of world) machine ≡ status_of world machine
status_shown world (At Left) = refl
status_shown world (At Right) = refl
status_shown world Coordinator = refl

-- a machine that is up was making nothing
up_makes_nothing : (plans : Plans) (world : Picture) → IsKept plans world → (machine : Machine) →
    picture.status_of world machine ≡ Up → making_of world machine ≡ None
up_makes_nothing plans world k (At side) up = by (picture.side_of world side).writing
    (k.sides side).writing
  where
    by : (writing : Option Event) → IfSome writing (λ event.
        ((picture.side_of world side).status ≢ Up) × IsSoundEvent plans (histories_of world)
        world.coordinator.archive side event) →
        option_map (λ event. Happened side event) writing ≡ None
    by None none = refl
    by (Some event) is = absurd (is.0 up)
up_makes_nothing plans world k Coordinator up = by world.coordinator.writing k.coordinator.writing
  where
    by : (writing : Option Kept) → IfSome writing (λ kept. (world.coordinator.status ≢ Up)
        × (world.coordinator.running ≡ None) × CanKeep world.coordinator.archive kept
        × IsHarmless plans (histories_of world) kept) →
        option_map (λ kept. Kept_by kept) writing ≡ None
    by None none = refl
    by (Some kept) is = absurd (is.0 up)

up_is_able : (plans : Plans) (world : World) → IsKept plans (picture_of world) →
    (machine : Machine) → status_of world machine ≡ Up → IsAble (condition_of world machine)
up_is_able plans world k machine up = (
  up_not_off world machine (up_not_down (status_of world machine) up),
  up_makes_nothing plans (picture_of world) k machine (status_shown world machine ∙ up),
)

-- what a step of the world acknowledges and refuses
pub record Gives (old new : World) (started : List Started) (was now : Machine → Condition)
    (step : Step) : Type 0 where
  pub more : List Ack
  pub told : List Refusal
  pub acks : new.acknowledged ≡ old.acknowledged ++ more
  pub refusals : new.refusals ≡ old.refusals ++ told
  pub comes : Comes (stores_of old) started was now step more told

side_refusals : (old : World) (side : Which) (machine : SideMachine) →
    (world.set_side old side machine).refusals ≡ old.refusals
side_refusals old Left machine = refl
side_refusals old Right machine = refl

next_down : (old : World) (side : Which) (next : SideMachine) (events : List Event) →
    next.journal.status ≡ Down →
    status_of (world.side_goes old side next [] events) (At side) ≡ Down
next_down old Left next events e = e
next_down old Right next events e = e

module _ (plans : Plans) (old : World) (k : IsKept plans (picture_of old))
    (h : IfSome old.coordinator.running (IsHeard old)) (started : List Started)
    (numbers : AllStarted started (picture_of old)) (was : Machine → Condition)
    (is : (machine : Machine) → condition_of old machine ≡ was machine) (step : Step) (new : World)
    (g : Steps old step new) where
  able : (machine : Machine) → status_of old machine ≡ Up → IsAble (was machine)
  able machine up = subst IsAble (is machine) (up_is_able plans old k machine up)

  on : (machine : Machine) → status_of old machine ≢ Down → (was machine).power ≢ Off
  on machine up = subst (λ c. c.power ≢ Off) (is machine) (up_not_off old machine up)

  was_is : (machine : Machine) → (was machine).making ≡ making_of (picture_of old) machine
  was_is machine = ap (λ c. c.making) (sym (is machine))

  able_in : (machine : Machine) → picture.status_of (picture_of old) machine ≡ Up →
      IsAble (was machine)
  able_in machine up = able machine (sym (status_shown old machine) ∙ up)

  if_up : StepRecordsIfUp (picture_of old) (picture_of new) step
  if_up message same from session number reply at =
      delivered_if_up old new (slice_get old.sent message)
      (subst (λ step. Steps old step new) same g) from session number reply at

  off : (machine : Machine) → status_of new machine ≡ Down →
      (condition_of new machine).power ≡ Off
  off machine down = down_off new machine down

  on_in : (machine : Machine) → picture.status_of (picture_of old) machine ≢ Down →
      (was machine).power ≢ Off
  on_in machine up = on machine (λ down. up (status_shown old machine ∙ down))

  off_now : (machine : Machine) → picture.status_of (picture_of new) machine ≡ Down →
      (condition_of new machine).power ≡ Off
  off_now machine down = off machine (sym (status_shown new machine) ∙ down)

  later : Plans
  later = (step_advances plans (picture_of old) k (picture_of new)
      (step_follows plans old k h step new g).followed.0).later

  kept_now : IsKept later (picture_of new)
  unfolding later
  kept_now = (step_advances plans (picture_of old) k (picture_of new)
      (step_follows plans old k h step new g).followed.0).kept

  able_now : (machine : Machine) → picture.status_of (picture_of new) machine ≡ Up →
      IsAble (condition_of new machine)
  able_now machine up =
      up_is_able later new kept_now machine (sym (status_shown new machine) ∙ up)

  abbrev now : Machine → Condition
  now = condition_of new

  other_gives : ((more : List Ack) (told : List Refusal) →
      Rest plans (picture_of old) k started numbers was now was_is able_in on_in (picture_of new)
      able_now off_now step more told → Comes (stores_of old) started was now step more told) →
      Gives old new started was now step
  other_gives comes =
      let s = step_follows plans old k h step new g in
      let r = rests plans (picture_of old) k started numbers was now was_is able_in on_in
      (picture_of new) able_now off_now step s.told if_up s.followed.0 in
      record {
        more = r.more;
        told = s.told;
        acks = r.acks;
        refusals = s.refusals;
        comes = comes r.more s.told r.rest;
      }

pub step_gives : (plans : Plans) (old : World) (k : IsKept plans (picture_of old))
    (h : IfSome old.coordinator.running (IsHeard old)) (started : List Started)
    (numbers : AllStarted started (picture_of old)) (was : Machine → Condition)
    (is : (machine : Machine) → condition_of old machine ≡ was machine) (step : Step) (new : World)
    (g : Steps old step new) → Gives old new started was (condition_of new) step
step_gives plans old k h started numbers was is (Edits side user edit) _
    (side_does next events told so) =
    let step = Edits side user edit in
    let new = world.refuses_with (world.side_goes old side next [] events) told in
    let g : Steps old step new = side_does next events told so in
    record {
      more = map (λ event. Happened side event) events;
      told = told;
      acks = refl;
      refusals = ap (λ had. had ++ told) (side_refusals old side next);
      comes = edit_comes old side user edit started was (condition_of new)
          (able plans old k h started numbers was is step new g (At side)) next events told so
          (λ is_down. down_off new (At side) (next_down old side next events is_down));
    }
step_gives plans old k h started numbers was is (Start preference) _
    (coordinator_does next call told so) =
    let step = Start preference in
    let new = world.refuses_with (world.coordinator_goes old next call) told in
    let g : Steps old step new = coordinator_does next call told so in
    record {
      more = map Kept_by call.kept;
      told = told;
      acks = refl;
      refusals = refl;
      comes = start_comes old preference started was (condition_of new)
          (able plans old k h started numbers was is step new g Coordinator) next call told so
          (λ is_down. down_off new Coordinator is_down);
    }
step_gives plans old k h started numbers was is (Deliver message) new g =
    other_gives plans old k h started numbers was is (Deliver message) new g
    (λ more told rest. rest)
step_gives plans old k h started numbers was is Tick new g =
    other_gives plans old k h started numbers was is Tick new g (λ more told rest. rest)
step_gives plans old k h started numbers was is (Checkpoint machine) new g =
    other_gives plans old k h started numbers was is (Checkpoint machine) new g
    (λ more told rest. rest)
step_gives plans old k h started numbers was is (Fail machine call) new g =
    other_gives plans old k h started numbers was is (Fail machine call) new g
    (λ more told rest. rest)
step_gives plans old k h started numbers was is (Stop machine calls) new g =
    other_gives plans old k h started numbers was is (Stop machine calls) new g
    (λ more told rest. rest)
step_gives plans old k h started numbers was is (Open machine) new g =
    other_gives plans old k h started numbers was is (Open machine) new g
    (λ more told rest. rest)
step_gives plans old k h started numbers was is (Reopen machine) new g =
    other_gives plans old k h started numbers was is (Reopen machine) new g
    (λ more told rest. rest)

-- A whole run

-- what came of the steps so far: how the machines are, and which sessions were started
pub record CameSo (before : Stores) (done : List Step) (world : World) : Type 0 where
  pub conditions : Machine → Condition
  pub started : List Started
  pub is : (machine : Machine) → condition_of world machine ≡ conditions machine
  pub tidy : AllTidy world
  pub numbers : AllStarted started (picture_of world)
  pub said : AllSaid (picture_of world)
  pub planned : AllPlanned before (picture_of world) world.log
  pub carried : All (IsCarried world.log) world.acknowledged
  pub reported : AllReported before (picture_of world)
  pub could : CouldKeep before world.acknowledged
  pub come : Come before conditions started done world.acknowledged world.refusals

module _ (before : Stores) (plans : Plans) (old : World) (k : IsKept plans (picture_of old))
    (h : IfSome old.coordinator.running (IsHeard old)) (stands : StandsFor before (picture_of old))
    (done : List Step) (step : Step) (new : World) (g : Steps old step new)
    (came : CameSo before done old) where
  gives : Gives old new came.started came.conditions (condition_of new) step
  gives = step_gives plans old k h came.started came.numbers came.conditions came.is step new g

  turned : StepTurns old new step
  turned = step_turns old came.tidy step new g

  told_turned : turned.told ≡ gives.told
  told_turned = append_cancel_left old.refusals turned.told gives.told
      (sym turned.refusals ∙ gives.refusals)

  same : stores_of old ≡ stores_after before old.acknowledged
  same = stands_as before (picture_of old) stands

  turns : (machine : Machine) → Turns machine step gives.told (came.conditions machine).power
      (power_of new machine)
  turns machine = subst (λ p. Turns machine step gives.told p (power_of new machine))
      (ap (λ c. c.power) (came.is machine))
      (subst (λ told. Turns machine step told (power_of old machine) (power_of new machine))
      told_turned (turned.turn.turns machine))

  follows : Follows (picture_of old) (picture_of new) step gives.told
  follows =
      let s = step_follows plans old k h step new g in
      subst (λ told. Follows (picture_of old) (picture_of new) step told)
      (append_cancel_left old.refusals s.told gives.told (sym s.refusals ∙ gives.refusals))
      s.followed.0

  left : (machine : Machine) → Leaves (stores_of old) came.started machine step gives.more
      gives.told (came.conditions machine) (condition_of new machine)
  left = leaves plans (picture_of old) k came.started came.numbers came.conditions
      (condition_of new)
      (was_is plans old k h came.started came.numbers came.conditions came.is step new g)
      (able_in plans old k h came.started came.numbers came.conditions came.is step new g)
      (picture_of new) gives.more gives.acks (λ machine. refl)
      (off_now plans old k h came.started came.numbers came.conditions came.is step new g)
      (if_up plans old k h came.started came.numbers came.conditions came.is step new g) follows

  next : Come before (condition_of new)
      (came.started ++ filter_map (started_by step) gives.more) (done ++ step ∷ [])
      (old.acknowledged ++ gives.more) (old.refusals ++ gives.told)
  next = one_more done step old.acknowledged gives.more old.refusals gives.told came.conditions
      (condition_of new) came.started came.come (λ machine. (
        turns machine,
        subst (λ w. Leaves w came.started machine step gives.more gives.told
            (came.conditions machine) (condition_of new machine)) same (left machine),
      ))
      (subst (λ w. Comes w came.started came.conditions (condition_of new) step gives.more
      gives.told) same gives.comes)

  planned_now : AllPlanned before (picture_of new) new.log
  planned_now = course_planned before plans (picture_of old) k came.said stands
      (unrecorded_in old old.coordinator.running refl h) (picture_of new)
      (course plans (picture_of old) k (picture_of new) follows) came.planned

  pub step_came : CameSo before (done ++ step ∷ []) new
  step_came =
      let started = came.started ++ filter_map (started_by step) gives.more in
      record {
        conditions = condition_of new;
        started = started;
        is = λ machine. refl;
        tidy = turned.turn.tidy;
        numbers = step_numbers (picture_of old) (picture_of new) came.started came.numbers
            gives.more gives.acks follows;
        carried = step_carried before plans (picture_of old) (picture_of new) k stands
            (step_stands before (picture_of old) (picture_of new) stands follows) gives.more
            gives.acks follows came.carried;
        reported = course_reported before plans (picture_of old) k came.reported (picture_of new)
            stands (step_stands before (picture_of old) (picture_of new) stands follows) planned_now
            (course plans (picture_of old) k (picture_of new) follows);
        could = course_could before (picture_of old) (picture_of new) stands came.could
            (course plans (picture_of old) k (picture_of new) follows);
        said = step_said plans (picture_of old) k came.said (picture_of new) follows;
        planned = planned_now;
        come = subst (λ acks. Come before (condition_of new) started (done ++ step ∷ []) acks
            new.refusals) (sym gives.acks)
            (subst (Come before (condition_of new) started (done ++ step ∷ [])
            (old.acknowledged ++ gives.more))
            (sym gives.refusals) next);
      }

run_came : (before : Stores) (steps done : List Step) (plans : Plans) (old new : World) →
    IsKept plans (picture_of old) → IfSome old.coordinator.running (IsHeard old) →
    StandsFor before (picture_of old) → CameSo before done old → Runs old steps new →
    CameSo before (done ++ steps) new
run_came before [] done plans old new k h as_told came e =
    subst (CameSo before (done ++ [])) (sym e)
    (subst (λ all. CameSo before all old) (sym (append-nil done)) came)
run_came before (step ∷ steps) done plans old new k h as_told came (between, g, more) =
    let f = (step_follows plans old k h step between g).followed in
    let a = step_advances plans (picture_of old) k (picture_of between) f.0 in
    subst (λ all. CameSo before all new) (append_assoc done (step ∷ []) steps)
    (run_came before steps (done ++ step ∷ []) a.later between new a.kept f.1
    (step_stands before (picture_of old) (picture_of between) as_told f.0)
    (step_came before plans old k h as_told done step between g came) more)

start_fresh : (start : World) (s : IsStart start) (machine : Machine) →
    condition_of start machine ≡ working
start_fresh start s machine =
    ap (λ power. record { power = power; making = making_of (picture_of start) machine })
    (start_on start s machine)
    ∙ ap (λ making. record { power = On; making = making })
    (up_makes_nothing no_plans (picture_of start)
    (start_kept (picture_of start) (start_view start s)) machine (up machine))
  where
    up : (machine : Machine) → picture.status_of (picture_of start) machine ≡ Up
    up (At Left) = s.left.0.0
    up (At Right) = s.right.0.0
    up Coordinator = s.coordinator.0.0

pub come_all : (start : World) → IsStart start → (steps : List Step) (new : World) →
    Runs start steps new → StandsFor (stores_of start) (picture_of start) →
    CameSo (stores_of start) steps new
come_all start s steps new runs stands =
    run_came (stores_of start) steps [] no_plans start new
    (start_kept (picture_of start) (start_view start s))
    (subst (λ o. IfSome o (IsHeard start)) (sym s.coordinator.1) tt) stands (record {
      conditions = λ machine. working;
      started = [];
      is = start_fresh start s;
      tidy = start_tidy start s;
      numbers = start_numbers (picture_of start) (start_view start s);
      carried = subst (All (IsCarried start.log)) (sym s.nothing_yet.1)
          (All-nil (IsCarried start.log));
      reported = start_reported (stores_of start) (picture_of start) (start_view start s);
      could = subst (CouldKeep (stores_of start)) (sym s.nothing_yet.1) tt;
      said = start_said (picture_of start) (start_view start s);
      planned = subst (AllPlanned (stores_of start) (picture_of start)) (sym s.nothing_yet.3)
          (All-nil (WasPlanned (stores_of start) start.acknowledged));
      come = subst (λ acks. Come (stores_of start) (λ machine. working) [] [] acks start.refusals)
          (sym s.nothing_yet.1)
          (subst (Come (stores_of start) (λ machine. working) [] [] []) (sym s.nothing_yet.4)
          no_step);
    }) runs
