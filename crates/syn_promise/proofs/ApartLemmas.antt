-- No path is both recorded and refused in a session.
use Rattle.std.proofs.Common.{◌≡◌, ◌≢◌, ◌≤◌, ◌⊎◌, ◌∙◌, ℕ, zero, suc, List, [], ◌∷◌, ◌++◌, map, take}
use Rattle.std.proofs.Common.{length, Option, Some, None, refl, sym, ap, subst, inl, inr, arith}
use Rattle.std.proofs.Common.{append-nil, append_assoc, slice_get, option_map, Bool, true, false}
use Rattle.std.proofs.Common.{◌||◌}
use Rattle.std.specs.Prelude.{All, AllPairs, Contains, IfSome, ◌<◌}
use Rattle.std.proofs.lemmas.Option.{none-some, get_or_from_slice_get, slice_get-map}
use Rattle.std.proofs.lemmas.Option.{slice_get_within}
use Rattle.std.proofs.lemmas.List.{length-append, take-append-le}
use Rattle.std.proofs.lemmas.List.Elements.{All-nil, All-push, All-append, All-map, All-weaker}
use Rattle.std.proofs.lemmas.List.Elements.{All-contains, Contains-append_cases}
use Rattle.std.proofs.lemmas.List.Elements.{Contains-append_right, All-contains_itself}
use Rattle.syn_model.proofs.PathLemmas.{same_path}
use Rattle.std.proofs.Math.Seq.{take-length}
use Rattle.syn_model.specs.Path.{Path}
use Rattle.syn_model.specs.Refusal.{Refusal, Full}
use Rattle.syn_model.specs.Archive.{Archive, Kept, Session, Recorded, RecordedDir}
use Rattle.syn_model.specs.Decision.{Item, ToLeft, ToRight, MarkSame, MarkDir, Conflict, path_of}
use Rattle.syn_model.specs.Plan.{plan as items_of}
use Rattle.syn_model.proofs.PlanOrder.{plan_is_orderly}
use Rattle.syn_machine.specs.Machine.{Status, Up, Halted, Down}
use Rattle.syn_machine.specs.MachineSteps.{MachineCall}
use Rattle.syn_machine.specs.MachineSteps as one
use Rattle.syn_machine.specs.Network.{Which, Left, Right, Message}
use Rattle.syn_machine.specs.Side.{Reply}
use Rattle.syn_machine.specs.SideMachine.{SideMachine}
use Rattle.syn_machine.specs.Planning.{Planned, SessionPlan, Log, WritesTo}
use Rattle.syn_runs.specs.Acknowledged.{Ack, Happened, Kept_by, kept_in_session}
use Rattle.syn_machine.specs.Report.{Report, is_kept, is_record_of}
use Rattle.syn_machine.specs.Session.{HasPlan, MakesPlan, makes}
use Rattle.syn_machine.specs.Session as session
use Rattle.syn_machine.specs.Coordinator.{Exchange, Running, Walk, Advances, past, refusing}
use Rattle.syn_machine.specs.Coordinator.{stands, conflicts, side_refuses, archive_refuses}
use Rattle.syn_machine.specs.Coordinator.{no_checkpoint, checkpoints, checkpoint_breaks, keeps}
use Rattle.syn_machine.specs.Coordinator.{record_breaks, making_room, IsDue, done, same, directory}
use Rattle.syn_machine.specs.Coordinator.{CoordinatorMachine, Call, no_call, plan_of, report_of}
use Rattle.syn_machine.specs.Coordinator.{Takes, ends_at_once, stops, ends, goes_on, start_of}
use Rattle.syn_machine.specs.Coordinator.{CoordinatorTakes, takes, ignores, CoordinatorTicks}
use Rattle.syn_machine.specs.Coordinator.{no_session, resends, gives_up, CoordinatorStarts, starts}
use Rattle.syn_machine.specs.Coordinator.{start_breaks, hearing, start_causes, coordinator_kind}
use Rattle.syn_machine.specs.Coordinator.{running_after, with_archive}
use Rattle.syn_runs.specs.World.{World, Machine, At, Coordinator, Step, Edits, Start, Deliver}
use Rattle.syn_runs.specs.World.{Tick, Checkpoint, Fail, Stop, Open, Reopen, Steps, Runs}
use Rattle.syn_runs.specs.World.{side_does, coordinator_does, side_goes, coordinator_goes}
use Rattle.syn_runs.specs.World.{refuses_with, Delivers, no_message, to_no_side, to_side}
use Rattle.syn_runs.specs.World.{to_coordinator, MachineDoes, ticks}
use Rattle.syn_runs.specs.Runs.{IsStart, picture_of}
use Rattle.syn_runs.proofs.Invariant.{Plans, IsKept}
use Rattle.syn_runs.proofs.Sessions.{IsHeard}
use Rattle.syn_runs.proofs.HeardLemmas.{list_of, session_keeps}
use Rattle.syn_runs.proofs.Walks.{advances_due, keeps_due}
use Rattle.syn_runs.proofs.MachineLemmas.{calls_leave, does_leave}
use Rattle.syn_runs.proofs.Simulation.{step_follows}
use Rattle.syn_runs.proofs.AdvanceLemmas.{step_advances}
use Rattle.syn_runs.proofs.WholeRuns.{no_plans, start_kept}
use Rattle.syn_runs.proofs.FineRuns.{start_view}
use Rattle.syn_model.proofs.BaseLemmas.{contains_none, contains_one}

-- What was recorded and refused

-- the record is of this path
abbrev pub IsAt : Path → Kept → Type 0
IsAt path (Recorded at marks) = at ≡ path
IsAt path (RecordedDir at) = at ≡ path
IsAt path (Session session) = ⊥

-- no path is both recorded and refused
abbrev pub AreApart : List Kept → List (Refusal × Path) → Type 0
AreApart kept refused = (path : Path) (one : Kept) (why : Refusal) → Contains kept one →
    IsAt path one → Contains refused (why, path) → ⊥

-- no path of an item from the cursor on was recorded or refused
abbrev AreAhead : List Planned → ℕ → List Kept → List (Refusal × Path) → Type 0
AreAhead plan cursor kept refused = (item : ℕ) (planned : Planned) → cursor ≤ item →
    slice_get plan item ≡ Some planned →
    ((one : Kept) → Contains kept one → IsAt (path_of planned.item) one → ⊥)
    × ((why : Refusal) → Contains refused (why, path_of planned.item) → ⊥)

-- no two items of the plan have one path
abbrev pub AreDistinct : List Planned → Type 0
AreDistinct plan = (first second : ℕ) (one other : Planned) → first < second →
    slice_get plan first ≡ Some one → slice_get plan second ≡ Some other →
    path_of one.item ≢ path_of other.item

same_at : (one : Kept) (path at : Path) → IsAt path one → IsAt at one → path ≡ at
same_at (Recorded there marks) path at is also = sym is ∙ also
same_at (RecordedDir there) path at is also = sym is ∙ also
same_at (Session session) path at is also = absurd is

pub writes_at : (item : Item) (side : Which) (path : Path) → WritesTo item side path →
    path ≡ path_of item
writes_at (ToLeft at) Left path writes = sym writes
writes_at (ToRight at) Right path writes = sym writes
writes_at (ToLeft at) Right path writes = absurd writes
writes_at (ToRight at) Left path writes = absurd writes
writes_at (MarkSame at) side path writes = absurd writes
writes_at (MarkDir at) side path writes = absurd writes
writes_at (Conflict at) side path writes = absurd writes

due_at : (item : ℕ) (planned : Planned) (taken : Exchange) (what : Kept) →
    IsDue item planned taken what → IsAt (path_of planned.item) what
due_at item planned taken _ (done path since size is asked writes) =
    writes_at planned.item taken.side path writes
due_at item planned taken _ (same path is alike) = sym (ap path_of is)
due_at item planned taken _ (directory path is) = sym (ap path_of is)

-- so no item is both
record_at : (item : Item) (one : Kept) → is_record_of item one ≡ true → IsAt (path_of item) one
record_at (ToLeft path) (Recorded at marks) is = same_path at path is
record_at (ToRight path) (Recorded at marks) is = same_path at path is
record_at (MarkSame path) (Recorded at marks) is = same_path at path is
record_at (MarkDir path) (RecordedDir at) is = same_path at path is
record_at (MarkDir path) (Recorded at marks) is = cc
record_at (ToLeft path) (RecordedDir at) is = cc
record_at (ToRight path) (RecordedDir at) is = cc
record_at (MarkSame path) (RecordedDir at) is = cc
record_at (ToLeft path) (Session number) is = cc
record_at (ToRight path) (Session number) is = cc
record_at (MarkSame path) (Session number) is = cc
record_at (MarkDir path) (Session number) is = cc
record_at (Conflict path) one is = cc

-- a record of the item is among these
abbrev HasOne : List Kept → Item → Type 0
HasOne kept item = (one : Kept) × Contains kept one × IsAt (path_of item) one

kept_one : (kept : List Kept) (item : Item) → is_kept kept item ≡ true → HasOne kept item
kept_one [] item is = cc
kept_one (first ∷ kept) item is =
    by (λ rest. kept_one kept item rest) (is_record_of item first) refl is
  where
    by : (is_kept kept item ≡ true → HasOne kept item) → (b : Bool) →
        is_record_of item first ≡ b → (b || is_kept kept item) ≡ true →
        HasOne (first ∷ kept) item
    by onward true at _ = (first, (zero, omega arith, refl), record_at item first at)
    by onward false at rest =
        let more = onward rest in
        (more.0, Contains-append_right (first ∷ []) kept more.0 more.1, more.2)

pub none_refused : (kept : List Kept) (refused : List (Refusal × Path)) (item : Item) →
    AreApart kept refused → is_kept kept item ≡ true →
    All (λ refusal. refusal.1 ≢ path_of item) refused
none_refused kept refused item apart is =
    let one = kept_one kept item is in
    All-weaker (Contains refused) (λ (refusal : Refusal × Path). refusal.1 ≢ path_of item)
    (λ refusal there at. apart (path_of item) one.0 refusal.0 one.1 one.2
    (subst (λ path. Contains {X = Refusal × Path} refused (refusal.0, path)) at there)) refused
    (All-contains_itself refused)

-- a plan of scans names each path once
pub made_distinct : (made : SessionPlan) → map (λ planned. planned.item) made.plan
    ≡ items_of made.preference (made.scan Left) (made.scan Right) made.archive →
    AreDistinct made.plan
made_distinct made is first second one other less at there alike =
    let items = map (λ (planned : Planned). planned.item) made.plan in
    let orderly = plan_is_orderly made.preference (made.scan Left) (made.scan Right) made.archive in
    let once = subst (AllPairs (λ earlier later. path_of earlier ≢ path_of later))
    (sym is) orderly.named_once in
    let here : slice_get items first ≡ Some one.item =
    slice_get-map (λ (planned : Planned). planned.item) made.plan first
    ∙ ap (option_map (λ (planned : Planned). planned.item)) at in
    let also : slice_get items second ≡ Some other.item =
    slice_get-map (λ (planned : Planned). planned.item) made.plan second
    ∙ ap (option_map (λ (planned : Planned). planned.item)) there in
    once first second one.item less (slice_get_within items second other.item also)
    (ap path_of (get_or_from_slice_get items first one.item one.item here) ∙ (alike
    ∙ sym (ap path_of (get_or_from_slice_get items second other.item one.item also))))

-- A call

module _ (pair : ℕ) (plan : List Planned) (taken : Exchange) (distinct : AreDistinct plan) where
  further : (cursor : ℕ) (kept : List Kept) (refused : List (Refusal × Path)) →
      AreAhead plan cursor kept refused → AreAhead plan (suc cursor) kept refused
  further cursor kept refused ahead item planned beyond at =
      ahead item planned (omega (arith, beyond)) at

  module _ (had : List Kept) (walk : Walk) (apart : AreApart had walk.refused)
      (ahead : AreAhead plan walk.cursor had walk.refused) (planned : Planned)
      (at : slice_get plan walk.cursor ≡ Some planned) where
    here : ((one : Kept) → Contains had one → IsAt (path_of planned.item) one → ⊥)
        × ((why : Refusal) → Contains walk.refused (why, path_of planned.item) → ⊥)
    here = ahead walk.cursor planned (omega arith) at

    keep_apart : (more : List Kept) → All (IsAt (path_of planned.item)) more →
        AreApart (had ++ more) walk.refused
    keep_apart more are path one why kept is refused =
        by (Contains-append_cases had more one kept)
      where
        by : Contains had one ⊎ Contains more one → ⊥
        by (inl before) = apart path one why before is refused
        by (inr now) = here.1 why (subst (λ p. Contains walk.refused (why, p))
            (same_at one path (path_of planned.item) is
            (All-contains (IsAt (path_of planned.item)) more one are now)) refused)

    keep_ahead : (what : Kept) → IsAt (path_of planned.item) what →
        AreAhead plan (suc walk.cursor) (had ++ what ∷ []) walk.refused
    keep_ahead what is item other beyond there =
        let was = ahead item other (omega (arith, beyond)) there in (
          λ one kept also. by was.0 one also (Contains-append_cases had (what ∷ []) one kept),
          was.1,
        )
      where
        by : ((one : Kept) → Contains had one → IsAt (path_of other.item) one → ⊥) →
            (one : Kept) → IsAt (path_of other.item) one →
            Contains had one ⊎ Contains (what ∷ []) one → ⊥
        by was one also (inl before) = was one before also
        by was one also (inr now) = distinct walk.cursor item planned other
            (omega (arith, beyond)) at there (same_at what (path_of planned.item)
            (path_of other.item) is
            (subst (IsAt (path_of other.item)) (sym (contains_one what one now)) also))

    refuse_apart : (why : Refusal) → AreApart had (refusing walk why planned).refused
    refuse_apart why path one other kept is refused =
        by (Contains-append_cases {X = Refusal × Path} walk.refused
        ((why, path_of planned.item) ∷ []) (other, path) refused)
      where
        by : Contains walk.refused (other, path)
            ⊎ Contains {X = Refusal × Path} ((why, path_of planned.item) ∷ []) (other, path) → ⊥
        by (inl before) = apart path one other kept is before
        by (inr now) = here.0 one kept (subst (λ p. IsAt p one)
            (sym (ap (λ (refusal : Refusal × Path). refusal.1) (contains_one _ _ now))) is)

    refuse_ahead : (why : Refusal) →
        AreAhead plan (suc walk.cursor) had (refusing walk why planned).refused
    refuse_ahead why item other beyond there =
        let was = ahead item other (omega (arith, beyond)) there in (
          was.0,
          λ because refused. by was.1 because (Contains-append_cases {X = Refusal × Path}
              walk.refused ((why, path_of planned.item) ∷ []) (because, path_of other.item)
              refused),
        )
      where
        by : ((because : Refusal) → Contains walk.refused (because, path_of other.item) → ⊥) →
            (because : Refusal) → Contains walk.refused (because, path_of other.item)
            ⊎ Contains {X = Refusal × Path} ((why, path_of planned.item) ∷ [])
            (because, path_of other.item) → ⊥
        by was because (inl before) = was because before
        by was because (inr now) = distinct walk.cursor item planned other
            (omega (arith, beyond)) at there
            (ap (λ (refusal : Refusal × Path). refusal.1) (contains_one _ _ now))

  -- what a call leaves, and what the session goes on from where its machine still is as it was
  abbrev LeavesApart : Walk → Walk → List Kept → Type 0
  LeavesApart walk later kept = AreApart kept later.refused
      × (later.journal.status ≡ walk.journal.status →
      AreAhead plan later.cursor kept later.refused)

  advances_apart : (walk later : Walk) (had kept : List Kept) → AreApart had walk.refused →
      AreAhead plan walk.cursor had walk.refused → Advances pair plan taken walk kept later →
      LeavesApart walk later (had ++ kept)
  advances_apart walk _ had _ apart ahead (stands _) = (
    subst (λ k. AreApart k walk.refused) (sym (append-nil had)) apart,
    λ _. subst (λ k. AreAhead plan walk.cursor k walk.refused) (sym (append-nil had)) ahead,
  )
  advances_apart walk later had kept apart ahead (conflicts _ _ _ planned path first at is more) =
      advances_apart (past walk walk.journal) later had kept apart
      (further walk.cursor had walk.refused ahead) more
  advances_apart walk later had kept apart ahead
      (side_refuses _ _ _ planned why first at is for more) =
      advances_apart (refusing walk why planned) later had kept
      (refuse_apart had walk apart ahead planned at why)
      (refuse_ahead had walk apart ahead planned at why) more
  advances_apart walk later had kept apart ahead
      (archive_refuses _ _ _ planned what why first at is may refused more) =
      advances_apart (refusing walk why planned) later had kept
      (refuse_apart had walk apart ahead planned at why)
      (refuse_ahead had walk apart ahead planned at why) more
  advances_apart walk later had kept apart ahead
      (no_checkpoint _ _ _ what first full greatest more) =
      advances_apart (refusing walk Full full.to_keep.planned) later had kept
      (refuse_apart had walk apart ahead full.to_keep.planned full.to_keep.at Full)
      (refuse_ahead had walk apart ahead full.to_keep.planned full.to_keep.at Full) more
  advances_apart walk later had kept apart ahead
      (checkpoints _ _ _ what journal first full smaller compacts up more) =
      let rest = advances_apart (making_room walk journal) later had kept apart ahead more in
      (rest.0, λ still. rest.1 (still ∙ (full.to_keep.up ∙ sym up)))
  advances_apart walk _ had _ apart ahead
      (checkpoint_breaks _ what journal first full smaller compacts down) = (
        subst (λ k. AreApart k walk.refused) (sym (append-nil had)) apart,
        λ _. subst (λ k. AreAhead plan walk.cursor k walk.refused) (sym (append-nil had)) ahead,
      )
  advances_apart walk later had _ apart ahead
      (keeps _ _ what kept journal to_keep room kept_so up more) =
      let is = due_at walk.cursor to_keep.planned taken what to_keep.due in
      let rest = advances_apart (past walk journal) later (had ++ what ∷ []) kept
      (keep_apart had walk apart ahead to_keep.planned to_keep.at (what ∷ [])
      (All-push (IsAt (path_of to_keep.planned.item)) [] what
      (All-nil (IsAt (path_of to_keep.planned.item))) is))
      (keep_ahead had walk apart ahead to_keep.planned to_keep.at what is) more in
      subst (LeavesApart walk later) (append_assoc had (what ∷ []) kept)
      (rest.0, λ still. rest.1 (still ∙ (to_keep.up ∙ sym up)))
  advances_apart walk _ had kept apart ahead
      (record_breaks _ what _ journal to_keep room kept_so down) = (
        keep_apart had walk apart ahead to_keep.planned to_keep.at kept
            (keeps_due pair walk.journal journal what kept (IsAt (path_of to_keep.planned.item))
            (due_at walk.cursor to_keep.planned taken what to_keep.due) kept_so),
        λ still. absurd (down (still ∙ to_keep.up)),
      )

-- A session

-- what it recorded and refused lies behind it, and is apart
pub record IsApart (running : Running) : Type 0 where
  pub distinct : AreDistinct (plan_of running)
  pub apart : AreApart running.kept running.refused
  pub ahead : AreAhead (plan_of running) running.cursor running.kept running.refused

-- without items it is so
no_item : (running : Running) → plan_of running ≡ [] → AreApart running.kept running.refused →
    IsApart running
no_item running none apart = record {
  distinct = λ first second one other less at there same.
      none_there first one (ap (λ plan. slice_get plan first) (sym none) ∙ at);
  apart = apart;
  ahead = λ item planned beyond at.
      absurd (none_there item planned (ap (λ plan. slice_get plan item) (sym none) ∙ at));
}
  where
    none_there : (item : ℕ) (planned : Planned) → slice_get [] item ≡ Some planned → ⊥
    none_there item planned at = none-some _ at

module _ (archive : Archive) (running : Running) (taken : Exchange) (is : IsApart running)
    (unplanned : running.plan ≡ None → (running.kept ≡ []) × (running.refused ≡ [])) where
  plan_distinct : (plan : Option (List Planned)) (logged : Log) →
      HasPlan archive (hearing running taken) plan logged → AreDistinct (list_of plan)
  plan_distinct _ _ session.stays = is.distinct
  plan_distinct _ _ (makes made none so) = made_distinct made so.items

  plan_ahead : (plan : Option (List Planned)) (logged : Log) →
      HasPlan archive (hearing running taken) plan logged →
      AreAhead (list_of plan) running.cursor running.kept running.refused
  plan_ahead _ _ session.stays = is.ahead
  plan_ahead _ _ (makes made none so) = λ item planned beyond at. (
    λ one kept at. contains_none one (subst (λ k. Contains k one) (unplanned none).0 kept),
    λ why refused. contains_none _ (subst (λ r. Contains r (why, path_of planned.item))
        (unplanned none).1 refused),
  )

-- What a call leaves

module _ (old : World) (h : IfSome old.coordinator.running IsApart)
    (heard : IfSome old.coordinator.running (IsHeard old)) where
  abbrev ReportsApart : List Kept → Report → Type 0
  ReportsApart kept report =
      AreApart (kept_in_session (old.acknowledged ++ map Kept_by kept)) report.refused

  abbrev Leaves : CoordinatorMachine → Call → Type 0
  Leaves next call = IfSome next.running IsApart × All (ReportsApart call.kept) call.reports

  one_report : (kept : List Kept) (report : Report) → ReportsApart kept report →
      All (ReportsApart kept) (report ∷ [])
  one_report kept report is =
      All-push (ReportsApart kept) [] report (All-nil (ReportsApart kept)) is

  silent : (next : CoordinatorMachine) (call : Call) → call.reports ≡ [] →
      IfSome next.running IsApart → Leaves next call
  silent next call none is =
      (is, subst (All (ReportsApart call.kept)) (sym none) (All-nil (ReportsApart call.kept)))

  -- a session that ends where it stood
  ended : (running : Running) (why : Option Refusal) → IsHeard old running → IsApart running →
      All (ReportsApart []) (report_of running why ∷ [])
  ended running why had is = one_report [] (report_of running why)
      (subst (λ k. AreApart k running.refused)
      (sym (ap kept_in_session (append-nil old.acknowledged) ∙ had.kept)) is.apart)

  -- without a plan it has done nothing
  nothing_yet : (running : Running) → IsHeard old running → running.plan ≡ None →
      (running.kept ≡ []) × (running.refused ≡ [])
  nothing_yet running had none = let was = had.unplanned none in (was.2, was.3)

  -- what a call that takes an answer leaves
  takes_so : (running : Running) (taken : Exchange) → IsHeard old running → IsApart running →
      (next : CoordinatorMachine) (call : Call) →
      Takes old.pair old.coordinator running taken next call → Leaves next call
  takes_so running taken had is _ _ (ends_at_once why fault) =
      (tt, ended running (Some why) had is)
  takes_so running taken had is next call (stops plan logged walk kept fault has goes down) =
      silent next call refl tt
  takes_so running taken had is _ _ (ends plan logged walk kept why fault has goes so) =
      let unplanned = nothing_yet running had in
      let archive = old.coordinator.journal.value in
      let left = advances_apart old.pair (list_of plan) taken
      (plan_distinct archive running taken is unplanned plan logged has)
      (start_of old.coordinator running) walk running.kept kept is.apart
      (plan_ahead archive running taken is unplanned plan logged has) goes in (
        tt,
        one_report kept _ (subst (λ k. AreApart k walk.refused)
            (sym (session_keeps old.acknowledged running.kept (list_of plan) taken kept had.kept
            (advances_due old.pair (list_of plan) taken (start_of old.coordinator running) walk kept
            goes))) left.0),
      )
  takes_so running taken had is next call
      (goes_on plan logged walk kept left right fault has goes rests stays beyond asks) =
      let unplanned = nothing_yet running had in
      let archive = old.coordinator.journal.value in
      let distinct = plan_distinct archive running taken is unplanned plan logged has in
      let left = advances_apart old.pair (list_of plan) taken distinct
      (start_of old.coordinator running) walk running.kept kept is.apart
      (plan_ahead archive running taken is unplanned plan logged has) goes in
      silent next call refl
      (record { distinct = distinct; apart = left.0; ahead = left.1 stays })

  of_running : (P : Running → Type 0) (running : Running) →
      old.coordinator.running ≡ Some running → IfSome old.coordinator.running P → P running
  of_running P running at = subst (λ o. IfSome o P) at

  answer_so : (from : Which) (number_of number : ℕ) (reply : Reply) (next : CoordinatorMachine)
      (call : Call) →
      CoordinatorTakes old.pair old.coordinator from number_of number reply next call →
      Leaves next call
  answer_so from number_of number reply next call (ignores none) = silent next call refl h
  answer_so from number_of number reply next call (takes running request _ _ expected so) =
      takes_so running _ (of_running (IsHeard old) running expected.runs heard)
      (of_running IsApart running expected.runs h) next call so

  -- whatever waits then
  again : (running : Running) → IsApart running → (left right : List _) →
      IsApart (record running { left = left; right = right })
  again running is left right =
      record { distinct = is.distinct; apart = is.apart; ahead = is.ahead }

  ticks_so : (next : CoordinatorMachine) (call : Call) →
      CoordinatorTicks old.coordinator next call → Leaves next call
  ticks_so next call (no_session none) = silent next call refl h
  ticks_so next call (resends running at few) =
      silent next call refl (again running (of_running IsApart running at h) _ _)
  ticks_so next call (gives_up running why at because) = (
    tt,
    ended running (Some why) (of_running (IsHeard old) running at heard)
        (of_running IsApart running at h),
  )

  starts_so : (preference : Option Which) (next : CoordinatorMachine) (call : Call) →
      CoordinatorStarts old.pair preference old.coordinator next call → Leaves next call
  starts_so preference next call (starts number journal is lawful so up) =
      silent next call refl (no_item _ refl (λ path one why kept at refused.
      contains_none one kept))
  starts_so preference next call (start_breaks number journal kept is so down) =
      silent next call refl tt

  after : (status : Status) (running : Option Running) → IfSome running IsApart →
      IfSome (running_after status running) IsApart
  after Up running is = is
  after Halted running is = is
  after Down running is = tt

  does_so : (call : MachineCall) (next : CoordinatorMachine) (given : Call)
      (refusals : List Refusal) →
      one.Does (coordinator_kind old.pair) old.coordinator call next given refusals →
      Leaves next given
  does_so call next given refusals so =
      does_leave (coordinator_kind old.pair) old.coordinator Leaves
      (silent old.coordinator no_call refl h)
      (λ new compacts. silent (with_archive old.coordinator new) no_call refl
      (after new.status old.coordinator.running h))
      (λ calls new kept opens. silent (with_archive old.coordinator new)
      (record no_call { kept = kept }) refl (after new.status old.coordinator.running h))
      call (λ status arms failed told left. silent
      (one.with_device (coordinator_kind old.pair) old.coordinator status arms failed) no_call refl
      (after status old.coordinator.running h)) next given refusals so

  begins_so : (preference : Option Which) (next : CoordinatorMachine) (call : Call)
      (refusals : List Refusal) →
      one.Calls (coordinator_kind old.pair) old.coordinator (start_causes old.pair old.coordinator)
      (CoordinatorStarts old.pair preference old.coordinator) next call refusals → Leaves next call
  begins_so preference next call refusals so =
      calls_leave (coordinator_kind old.pair) old.coordinator Leaves
      (silent old.coordinator no_call refl h) (start_causes old.pair old.coordinator)
      (CoordinatorStarts old.pair preference old.coordinator)
      (λ next call none up made. starts_so preference next call made) next call refusals so

-- A run

abbrev TellsApart : List Ack → Report × ℕ → Type 0
TellsApart acks told = (told.1 ≤ length acks)
    × AreApart (kept_in_session (take told.1 acks)) told.0.refused

pub record AllApart (world : World) : Type 0 where
  pub running : IfSome world.coordinator.running IsApart
  pub told : All (TellsApart world.acknowledged) world.reports

tells_still : (acks more : List Ack) (told : Report × ℕ) → TellsApart acks told →
    TellsApart (acks ++ more) told
tells_still acks more told is =
    let within = is.0 in
    let longer = length-append acks more in (
      omega (arith, within, longer),
      subst (λ front. AreApart (kept_in_session front) told.0.refused)
          (sym (take-append-le told.1 acks more within)) is.1,
    )

all_still : (acks more : List Ack) (reports : List (Report × ℕ)) → All (TellsApart acks) reports →
    All (TellsApart (acks ++ more)) reports
all_still acks more reports =
    All-weaker (TellsApart acks) (TellsApart (acks ++ more)) (tells_still acks more) reports

module _ (old : World) (is : AllApart old)
    (heard : IfSome old.coordinator.running (IsHeard old)) where
  beside : (side : Which) (next : SideMachine) (messages : List Message) (events : List _) →
      AllApart (side_goes old side next messages events)
  beside Left next messages events = record {
    running = is.running;
    told = all_still old.acknowledged (map (λ event. Happened Left event) events) old.reports
        is.told;
  }
  beside Right next messages events = record {
    running = is.running;
    told = all_still old.acknowledged (map (λ event. Happened Right event) events) old.reports
        is.told;
  }

  goes : (next : CoordinatorMachine) (call : Call) → Leaves old is.running heard next call →
      AllApart (coordinator_goes old next call)
  goes next call leaves =
      let acks = old.acknowledged ++ map Kept_by call.kept in
      record {
        running = leaves.0;
        told = All-append (TellsApart acks) old.reports
            (map (λ report. (report, length acks)) call.reports)
            (all_still old.acknowledged (map Kept_by call.kept) old.reports is.told)
            (All-map (TellsApart acks) (λ (report : Report). (report, length acks)) call.reports
            (All-weaker (ReportsApart old is.running heard call.kept)
            (λ report. TellsApart acks (report, length acks))
            (λ report apart. (
              omega arith,
              subst (λ front. AreApart (kept_in_session front) report.refused)
                  (sym (take-length acks)) apart,
            )) call.reports leaves.1));
      }

  telling : (made : World) (reasons : List Refusal) → AllApart made →
      AllApart (refuses_with made reasons)
  telling made reasons so = record { running = so.running; told = so.told }

  machine_so : (machine : Machine) (call : MachineCall) (new : World) →
      MachineDoes old machine call new → AllApart new
  machine_so (At side) call _ (side_does next events refusals so) =
      telling _ refusals (beside side next [] events)
  machine_so Coordinator call _ (coordinator_does next given refusals so) =
      telling _ refusals
      (goes next given (does_so old is.running heard call next given refusals so))

  delivers_so : (message : Option Message) (new : World) → Delivers old message new → AllApart new
  delivers_so _ _ no_message = is
  delivers_so _ _ (to_no_side side number_of number request down) = is
  delivers_so _ _ (to_side side number_of number request machine reply events so) =
      beside side machine _ events
  delivers_so _ _ (to_coordinator side number_of number reply machine call so) =
      goes machine call (answer_so old is.running heard side number_of number reply machine call so)

  step_apart : (step : Step) (new : World) → Steps old step new → AllApart new
  step_apart (Edits side user edit) _ (side_does next events refusals so) =
      telling _ refusals (beside side next [] events)
  step_apart (Start preference) _ (coordinator_does next call refusals so) =
      telling _ refusals
      (goes next call (begins_so old is.running heard preference next call refusals so))
  step_apart (Deliver message) new so = delivers_so (slice_get old.sent message) new so
  step_apart Tick _ (ticks machine call so) =
      goes machine call (ticks_so old is.running heard machine call so)
  step_apart (Checkpoint machine) new so = machine_so machine one.Checkpoint new so
  step_apart (Fail machine call) new so = machine_so machine (one.Fail call) new so
  step_apart (Stop machine calls) new so = machine_so machine (one.Stop calls) new so
  step_apart (Open machine) new so = machine_so machine one.Open new so
  step_apart (Reopen machine) new so = machine_so machine one.Reopen new so

run_apart : (steps : List Step) (plans : Plans) (old new : World) →
    IsKept plans (picture_of old) → IfSome old.coordinator.running (IsHeard old) →
    AllApart old → Runs old steps new → AllApart new
run_apart [] plans old new k h is e = subst AllApart (sym e) is
run_apart (step ∷ steps) plans old new k h is (between, g, more) =
    let f = (step_follows plans old k h step between g).followed in
    let a = step_advances plans (picture_of old) k (picture_of between) f.0 in
    run_apart steps a.later between new a.kept f.1 (step_apart old is h step between g) more

pub runs_apart : (start : World) → IsStart start → (steps : List Step) (new : World) →
    Runs start steps new → AllApart new
runs_apart start s steps new runs =
    run_apart steps no_plans start new (start_kept (picture_of start) (start_view start s))
    (subst (λ o. IfSome o (IsHeard start)) (sym s.coordinator.1) tt) (record {
      running = subst (λ o. IfSome o IsApart) (sym s.coordinator.1) tt;
      told = subst (All (TellsApart start.acknowledged)) (sym s.nothing_yet.2)
          (All-nil (TellsApart start.acknowledged));
    }) runs
