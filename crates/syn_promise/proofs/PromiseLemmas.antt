-- Every run keeps its promise.
use Rattle.std.proofs.Common.{◌≡◌, ◌≢◌, ◌⊎◌, ◌∙◌, ℕ, List, [], ◌∷◌, ◌++◌, Option, Some, None, refl}
use Rattle.std.proofs.Common.{sym}
use Rattle.std.proofs.Common.{zero, arith, ap, subst, inl, inr, append-nil, option_map}
use Rattle.std.proofs.lemmas.Option.{none-some, same_Some}
use Rattle.syn_machine.specs.Machine.{Up}
use Rattle.std.proofs.lemmas.List.Elements.{Contains-append_right}
use Rattle.std.specs.Prelude.{All, AllPairs, Contains, IfSome, IsSomeAnd, filter_map, take}
use Rattle.std.specs.Prelude.{slice_index_or}
use Rattle.syn_model.specs.Path.{Path, Name}
use Rattle.syn_model.specs.Tree.{Tree, Content}
use Rattle.syn_model.specs.Event.{Token, Event, Edited, Began, Replaced}
use Rattle.syn_model.specs.History.{History, IsHistory}
use Rattle.syn_model.specs.Plan.{IsSynchronized}
use Rattle.syn_model.specs.Archive.{Archive, Kept}
use Rattle.syn_machine.specs.Side.{ListAt, Listed, NotDir}
use Rattle.syn_machine.specs.Network.{Which, Left, Right, WasAnswered}
use Rattle.syn_runs.specs.World.{World, Machine, At, Coordinator, Step, Runs}
use Rattle.syn_runs.specs.Runs.{IsStart, picture_of, stores_of, OfEachRun, RunsStand}
use Rattle.syn_runs.specs.Runs.{RunsArePictured}
use Rattle.syn_runs.specs.Picture as picture
use Rattle.syn_runs.specs.Acknowledged.{Ack, Happened, Kept_by, Stores, history_of}
use Rattle.syn_runs.specs.Acknowledged.{stores_after, event_at, Grown, ArchiveGrown}
use Rattle.syn_runs.specs.Acknowledged.{kept_in_session}
use Rattle.syn_machine.specs.Report.{Report}
use Rattle.syn_runs.specs.Reported.{AnswersBelong, EachReportTells}
use Rattle.syn_runs.specs.Headline.{EachReplacementIsLegal, RecoveredIsLegal, LeavesPair}
use Rattle.syn_runs.specs.Headline.{LogsPlans, CompleteSessionsSynchronize, IsPair, PlansWith}
use Rattle.syn_runs.specs.Headline.{CompleteSessionsReconcile}
use Rattle.syn_runs.specs.Headline.{PreferenceLeavesOne, HeldIsMarked}
use Rattle.syn_runs.specs.Headline.{IsQuietSession, IsOtherToken, trees_of, StandsFor}
use Rattle.syn_runs.proofs.StandLemmas.{at_start}
use Rattle.syn_runs.proofs.FineRuns.{follows, start_view}
use Rattle.syn_runs.proofs.WholeRuns.{no_plans, start_kept, run_kept}
use Rattle.syn_runs.proofs.Invariant.{Plans, IsKept, IsTrueListing, IsSoundEvent, histories_of}
use Rattle.syn_runs.proofs.TokenLemmas.{token_once}
use Rattle.syn_runs.proofs.EarlyLemmas.{entry_is}
use Rattle.syn_promise.specs.Records.{KeepsToPlan, RecordsKeepToPlan}
use Rattle.syn_promise.specs.Sessions.{IsPlanned, IsLegal, Synchronizes, Tells, WasNoDirectory}
use Rattle.syn_promise.specs.Promise.{Promised, Reports, AreSame}
use Rattle.syn_promise.specs.Laws.{AllowsEachChange, told_by, MayStand, RunsKeepPromise}
use Rattle.syn_promise.proofs.ReportLemmas.{report_tells, entry_plan}
use Rattle.syn_promise.proofs.ReportedLemmas.{IsTold}
use Rattle.syn_machine.specs.Coordinator.{Running, report_of}
use Rattle.syn_runs.specs.Picture.{Counts}
use Rattle.syn_model.specs.Refusal.{Refusal}
use Rattle.syn_promise.proofs.AllowedLemmas.{allowed_by}
use Rattle.syn_promise.proofs.RecordLemmas.{archive_after}
use Rattle.syn_promise.proofs.StartedLemmas.{reports_started}
use Rattle.syn_promise.proofs.SessionLemmas.{history_more, legal_then, HasMarks}
use Rattle.syn_promise.proofs.CarriedLemmas.{IsCarried, sound_marks}
use Rattle.syn_promise.proofs.PlannedLemmas.{denied_then}
use Rattle.syn_promise.proofs.LeaveLemmas.{making_of}
use Rattle.syn_promise.proofs.ComeLemmas.{CameSo, come_all}
use Rattle.syn_promise.proofs.ApartLemmas.{AllApart, AreApart, runs_apart, made_distinct}
use Rattle.syn_promise.proofs.RefusedLemmas.{refusable}
use Rattle.syn_promise.specs.Sessions.{IsRefusable}
use Rattle.syn_runs.specs.Reported.{IsReportOf, IsRefusedFor, WasExchanged}
use Rattle.syn_machine.specs.Planning.{SessionPlan}
use Rattle.syn_runs.proofs.Invariant.{plan_in}
use Rattle.syn_model.specs.Plan.{plan as items_of}
use Rattle.std.proofs.Common.{map}

-- what holds of every run, law by law
pub record Laws : Type 0 where
  pub pictured : RunsArePictured
  pub stand : RunsStand
  pub legal : OfEachRun EachReplacementIsLegal
  pub recovered : OfEachRun RecoveredIsLegal
  pub again : OfEachRun LeavesPair
  pub logged : OfEachRun LogsPlans
  pub synchronized : OfEachRun CompleteSessionsSynchronize
  pub reconciled : OfEachRun CompleteSessionsReconcile
  pub preferred : OfEachRun PreferenceLeavesOne
  pub held : OfEachRun HeldIsMarked
  pub tell : OfEachRun EachReportTells
  pub belong : OfEachRun AnswersBelong
  pub records : RecordsKeepToPlan

-- a side's own event is among its events
own_event : (side : Which) (event : Event) →
    filter_map (event_at side) (Happened side event ∷ []) ≡ event ∷ []
own_event Left event = refl
own_event Right event = refl

history_with : (before : Stores) (acks : List Ack) (side : Which) (event : Event) →
    history_of (stores_after before (acks ++ Happened side event ∷ [])) side
    ≡ history_of (stores_after before acks) side ++ event ∷ []
history_with before acks side event = history_more before acks (Happened side event ∷ []) side
    ∙ ap (λ events. history_of (stores_after before acks) side ++ events) (own_event side event)

some_is : (preference : Option Which) → preference ≢ None →
    (side : Which) × (preference ≡ Some side)
some_is None some = absurd (some refl)
some_is (Some side) some = (side, refl)

module _ (laws : Laws) (old new : World) (steps : List Step) (now : Stores) (s : IsStart old)
    (runs : Runs old steps new) (may : MayStand (stores_of old) (picture_of new) now) where
  abbrev before : Stores
  before = stores_of old

  abbrev acks : List Ack
  acks = new.acknowledged

  abbrev after : Stores
  after = stores_after before acks

  stands : StandsFor before (picture_of new)
  stands = laws.stand before old new steps runs (at_start old s.nothing_yet.1)

  kept : (plans : Plans) × IsKept plans (picture_of new)
  kept = run_kept no_plans (picture_of old) (picture_of new)
      (start_kept (picture_of old) (start_view old s)) (follows old new steps s runs).follows

  pair : IsPair now
  pair = laws.again old new steps s runs now.left now.right now.archive (may.side Left)
      (may.side Right) may.archive

  came : CameSo before steps new
  came = come_all old s steps new runs (at_start old s.nothing_yet.1)

  apart : AllApart new
  apart = runs_apart old s steps new runs

  making : (machine : Machine) →
      (came.conditions machine).making ≡ making_of (picture_of new) machine
  making machine = ap (λ condition. condition.making) (sym (came.is machine))

  -- What stands

  abbrev StandsSo : Machine → Type 0
  StandsSo machine = AreSame machine now after ⊎ IsSomeAnd (came.conditions machine).making
      (λ ack. AreSame machine now (stores_after before (acks ++ ack ∷ [])))

  with_more : (machine : Machine) (ack : Ack) → making_of (picture_of new) machine ≡ Some ack →
      AreSame machine now (stores_after before (acks ++ ack ∷ [])) → StandsSo machine
  with_more machine ack is same = inr (subst (λ o. IsSomeAnd o
      (λ ack. AreSame machine now (stores_after before (acks ++ ack ∷ []))))
      (sym (making machine ∙ is)) same)

  side_stands : (side : Which) (writing : Option Event) →
      (picture.side_of (picture_of new) side).writing ≡ writing →
      Grown writing (history_of after side) (history_of now side) → StandsSo (At side)
  side_stands side None is same = inl same
  side_stands side (Some event) is (inl same) = inl same
  side_stands side (Some event) is (inr (allowed, more)) =
      with_more (At side) (Happened side event) (ap (option_map (λ event. Happened side event)) is)
      (more ∙ sym (history_with before acks side event))

  archive_stands : (writing : Option Kept) → new.coordinator.journal.writing ≡ writing →
      ArchiveGrown writing after.archive now.archive → StandsSo Coordinator
  archive_stands None is same = inl same
  archive_stands (Some one) is (inl same) = inl same
  archive_stands (Some one) is (inr (can, more)) =
      with_more Coordinator (Kept_by one) (ap (option_map (λ kept. Kept_by kept)) is)
      (more ∙ sym (archive_after before acks (one ∷ [])))

  stand : (machine : Machine) → StandsSo machine
  stand (At side) = side_stands side (picture.side_of (picture_of new) side).writing refl
      (may.side side)
  stand Coordinator = archive_stands new.coordinator.journal.writing refl may.archive

  -- No answer of the run is false

  history_now : (side : Which) →
      (picture.side_of (picture_of new) side).side.history ≡ history_of after side
  history_now Left = stands.left
  history_now Right = stands.right

  answered : (side : Which) (session : ℕ) (path : Path) (position : ℕ)
      (entries : List (Name × Content)) →
      WasAnswered new.sent side session (ListAt path) (Listed position entries) →
      IsTrueListing (history_of after side) session path position entries
  answered side session path position entries was =
      subst (λ h. IsTrueListing h session path position entries) (history_now side)
      (kept.1.sound.answered side session was.number (Listed position entries) (ListAt path)
      was.answered was.asked)

  denied : (side : Which) (session : ℕ) (path : Path) (position : ℕ) →
      WasAnswered new.sent side session (ListAt path) (NotDir position) →
      WasNoDirectory (history_of after side) session path position
  denied = denied_then before kept.0 (picture_of new) kept.1 came.said stands

  planned : All (IsPlanned before came.started acks) new.log
  planned i made within =
      let was = came.planned i made within in
      record {
        asked = came.numbers.plans i made within;
        moment = was.moment;
        unrecorded = was.unrecorded;
        planned = was.planned;
      }

  once : AllPairs (λ earlier later. earlier.session ≢ later.session) new.log
  once = (laws.logged old new steps s runs).0

  carried_there : (earlier later : List Ack) (ack : Ack) → acks ≡ earlier ++ ack ∷ later →
      IsCarried new.log ack
  carried_there earlier later ack e =
      let there = subst (λ all. Contains all ack) (sym e)
      (Contains-append_right earlier (ack ∷ later) ack (zero, omega arith, refl)) in
      subst (IsCarried new.log) there.2 (came.carried there.0 _ there.1)

  replaced : (earlier later : List Ack) (side : Which) (token : Token) (path : Path)
      (since : ℕ) (part : Tree) →
      acks ≡ earlier ++ Happened side (Replaced token path since part) ∷ later →
      IsLegal new.log side (stores_after before earlier) token path since part
  replaced earlier later side token path since part e =
      legal_then before acks new.sent answered denied new.log (stores_after before earlier) side
      token path since part (λ which. (
        _,
        ap (λ all. history_of (stores_after before all) which) e
            ∙ history_more before earlier
            (Happened side (Replaced token path since part) ∷ later) which,
      )) once (carried_there earlier later (Happened side (Replaced token path since part)) e)
      (laws.legal old new steps s runs earlier later side token path since part e)

  replaced_back : (side : Which) (token : Token) (path : Path) (since : ℕ) (part : Tree) →
      HasMarks new.log side token part →
      history_of now side ≡ history_of after side ++ Replaced token path since part ∷ [] →
      IsLegal new.log side after token path since part
  replaced_back side token path since part has e =
      legal_then before acks new.sent answered denied new.log after side token
      path since part (λ which. ([], sym (append-nil (history_of after which)))) once has
      (laws.recovered old new steps s runs side (history_of now side) token path since part
      (may.side side) e)

  recorded : ((earlier later : List Ack) (kept : Kept) →
      acks ≡ earlier ++ Kept_by kept ∷ later →
      KeepsToPlan new.log (stores_after before earlier) (Kept_by kept))
      × IfSome new.coordinator.journal.writing (λ kept. KeepsToPlan new.log after (Kept_by kept))
  recorded = laws.records before steps new.refusals (picture_of new)
      (laws.pictured old new steps s runs)

  to_plan : (earlier later : List Ack) (ack : Ack) → acks ≡ earlier ++ ack ∷ later →
      KeepsToPlan new.log (stores_after before earlier) ack
  to_plan earlier later (Happened side (Edited user edit)) e = tt
  to_plan earlier later (Happened side (Began session)) e = tt
  to_plan earlier later (Happened side (Replaced token path since part)) e =
      replaced earlier later side token path since part e
  to_plan earlier later (Kept_by kept) e = recorded.0 earlier later kept e

  lawful : (side : Which) → IsHistory (history_of after side)
  lawful Left = subst IsHistory stands.left (kept.1.sound.lawful Left)
  lawful Right = subst IsHistory stands.right (kept.1.sound.lawful Right)

  abbrev IsSound : Which → Event → Type 0
  IsSound side event = ((picture.side_of (picture_of new) side).status ≢ Up)
      × IsSoundEvent kept.0 (histories_of (picture_of new)) new.coordinator.journal.value side event

  event_back : (side : Which) (event : Event) → IsSound side event →
      history_of now side ≡ history_of after side ++ event ∷ [] →
      KeepsToPlan new.log after (Happened side event)
  event_back side (Edited user edit) sound e = tt
  event_back side (Began session) sound e = tt
  event_back side (Replaced token path since part) sound e =
      replaced_back side token path since part (subst (λ log. HasMarks log side token part)
      (sym kept.1.logged) (sound_marks kept.0 (histories_of (picture_of new)) side token path since
      part sound.1)) e

  side_back : (side : Which) (ack : Ack) (writing : Option Event) →
      IfSome writing (IsSound side) → option_map (λ event. Happened side event) writing ≡ Some ack →
      AreSame (At side) now (stores_after before (acks ++ ack ∷ [])) → KeepsToPlan new.log after ack
  side_back side ack None sound is same = absurd (none-some _ is)
  side_back side ack (Some event) sound is same =
      let ack_is = same_Some (Happened side event) ack is in
      let grown = subst (λ ack. history_of now side
      ≡ history_of (stores_after before (acks ++ ack ∷ [])) side)
      (sym ack_is) same ∙ history_with before acks side event in
      subst (KeepsToPlan new.log after) ack_is (event_back side event sound grown)

  archive_back : (ack : Ack) (writing : Option Kept) →
      option_map (λ kept. Kept_by kept) writing ≡ Some ack →
      IfSome writing (λ kept. KeepsToPlan new.log after (Kept_by kept)) →
      KeepsToPlan new.log after ack
  archive_back ack None is keeps = absurd (none-some _ is)
  archive_back ack (Some kept) is keeps =
      subst (KeepsToPlan new.log after) (same_Some (Kept_by kept) ack is) keeps

  given_back : (machine : Machine) (ack : Ack) → (came.conditions machine).making ≡ Some ack →
      AreSame machine now (stores_after before (acks ++ ack ∷ [])) → KeepsToPlan new.log after ack
  given_back (At side) ack is same = side_back side ack
      (picture.side_of (picture_of new) side).writing (kept.1.sides side).writing
      (sym (making (At side)) ∙ is) same
  given_back Coordinator ack is same = archive_back ack new.coordinator.journal.writing
      (sym (making Coordinator) ∙ is) recorded.1

  not_twice : (side : Which) (earlier later : History) (token : Token) (path : Path)
      (since : ℕ) (part : Tree) →
      history_of now side ≡ earlier ++ Replaced token path since part ∷ later →
      All (IsOtherToken token) later
  not_twice Left earlier later token path since part e =
      token_once now.left earlier later token path since part pair.left e
  not_twice Right earlier later token path since part e =
      token_once now.right earlier later token path since part pair.right e

  -- A complete session

  preferred_so : (report : Report) (one two : Option Which) → PlansWith new.log report.session one →
      PlansWith new.log report.session two → two ≡ one
  preferred_so report one two with also =
      sym also.prefers ∙ (ap (λ made. made.preference)
      (entry_is new.log with.made (laws.logged old new steps s runs).0 with.logged also.made
      also.logged (also.of_session ∙ sym with.of_session)) ∙ with.prefers)

  synchronized : (report : Report) (found left : Stores) →
      IsQuietSession before acks new.reports report found left →
      (preference : Option Which) × PlansWith new.log report.session preference
      × Synchronizes preference found left
  synchronized report found left quiet =
      let archive = laws.reconciled old new steps s runs report found left quiet in
      let with = archive.1 in
      let same = preferred_so report archive.0 in (
        archive.0,
        with,
        record {
          sides = λ apart.
              let sides = laws.synchronized old new steps s runs report found left quiet apart in
              subst (λ p. IsSynchronized p (trees_of found) (trees_of left))
              (same sides.0 with sides.1) sides.2;
          equal = λ apart some.
              let is = some_is archive.0 some in
              laws.preferred old new steps s runs report found left is.0 quiet
              (subst (PlansWith new.log report.session) is.1 with) apart;
          archive = archive.2;
          carried = λ side path part was. laws.held old new steps s runs side was.earlier was.later
              was.token path was.since was.position part report found left was.replaced
              was.untouched was.directory was.held was.still quiet;
        },
      )

  counts_of : (one : Report × ℕ) (running : Running) (ended : Option Refusal) →
      one.0 ≡ report_of running ended → IsTold before new.log (take one.1 acks) one.0 →
      IsTold before new.log (take one.1 acks) (report_of running ended)
  counts_of one running ended is = subst (IsTold before new.log (take one.1 acks)) is

  -- what the session of a report refused is no conflict
  refused_of : (one : Report × ℕ) (running : Running) (ended : Option Refusal) →
      IsReportOf new.sent new.log (kept_in_session (take one.1 acks)) running ended →
      (made : SessionPlan) → Contains new.log made → made.session ≡ running.session →
      (refused : Refusal × Path) → IsRefusedFor made running.taken running.kept refused →
      IsRefusable made.plan refused.1
  refused_of one running ended is made there of_session =
      refusable kept.0 (picture_of new) kept.1 made
      (ap (λ log. plan_in log made.session) (sym kept.1.logged)
      ∙ entry_plan new.log once made.session made there refl)
      (made_distinct made (subst (λ made. map (λ planned. planned.item) made.plan
      ≡ items_of made.preference (made.scan Left) (made.scan Right) made.archive) there.2
      ((laws.logged old new steps s runs).1 there.0 made there.1).0.items)) running.taken
      (λ exchange taken. subst (λ session. WasExchanged new.sent session exchange)
      (sym of_session) (is.taken exchange taken)) running.kept

  -- nor did that record what it refused
  apart_of : (one : Report × ℕ) (running : Running) (ended : Option Refusal) →
      one.0 ≡ report_of running ended →
      AreApart (kept_in_session (take one.1 acks)) one.0.refused →
      kept_in_session (take one.1 acks) ≡ running.kept → AreApart running.kept running.refused
  apart_of one running ended is apart kept =
      subst (λ kept. AreApart kept running.refused) kept
      (subst (λ (report : Report). AreApart (kept_in_session (take one.1 acks)) report.refused) is
      apart)

  reported : All (Reports before came.started new.log acks) new.reports
  reported i one within =
      let at = slice_index_or new.reports i one in
      let told = laws.tell old new steps s runs i one within in
      let was = (came.reported.counted i one within).1 in
      let is_told = counts_of at told.0 told.1 told.2 was in
      record {
        started_before = reports_started (picture_of old) (picture_of new) (start_view old s)
            (follows old new steps s runs).follows i one within;
        last = was.last;
        planned_before = λ made there of_session.
            let made_so = was.planned made there of_session in
            record {
              asked = subst (λ made. Contains came.started (made.session, made.preference))
                  there.2 (came.numbers.plans there.0 _ there.1);
              moment = made_so.moment;
              unrecorded = made_so.unrecorded;
              planned = made_so.planned;
            };
        tells = subst (Tells new.log (kept_in_session (take at.1 acks))) (sym told.2)
            (report_tells new.sent new.log (kept_in_session (take at.1 acks)) told.0 told.1
            told.3 is_told.counts once is_told.whole (apart_of at told.0 told.1 told.2
            (apart.told i one within).1 told.3.kept_is)
            (refused_of at told.0 told.1 told.3));
        no_bad_message = laws.belong old new steps s runs i one within;
      }

  kept_promise : Promised before steps (told_by new) now
  kept_promise = record {
    conditions = came.conditions;
    started = came.started;
    sessions = new.log;
    steps_are_made = came.come;
    stand = stand;
    due = to_plan;
    unacknowledged_due = given_back;
    held = pair.held;
    one_plan = once;
    planned = planned;
    not_twice = not_twice;
    synchronized = synchronized;
    one_report = came.reported.apart;
    reported = reported;
  }

pub promise_is_kept : Laws → RunsKeepPromise
promise_is_kept laws old new steps now s runs may = kept_promise laws old new steps now s runs may

-- what the disks stand for, if nothing that was being written does
nothing_more : (writing : Option Event) (history : History) → Grown writing history history
nothing_more None history = refl
nothing_more (Some event) history = inl refl

no_record_more : (writing : Option Kept) (archive : Archive) → ArchiveGrown writing archive archive
no_record_more None archive = refl
no_record_more (Some kept) archive = inl refl

-- the rules allow each change that it acknowledges
pub changes_are_allowed : Laws → OfEachRun AllowsEachChange
changes_are_allowed laws old new steps s runs =
    allowed_by (stores_of old) new.acknowledged (lawful laws old new steps now s runs may)
    (came laws old new steps now s runs may).could
  where
    now : Stores
    now = stores_after (stores_of old) new.acknowledged

    may : MayStand (stores_of old) (picture_of new) now
    may = record {
      side = λ side. nothing_more (picture.side_of (picture_of new) side).writing
          (history_of now side);
      archive = no_record_more new.coordinator.journal.writing now.archive;
    }
