-- What a call of the coordinator is in the picture, and what its session then remembers.
use Rattle.std.proofs.Common.{◌≡◌, ◌≢◌, ℕ, Bool, ◌&&◌, true≢false, List, ◌∷◌, ◌++◌, map, filter_map}
use Rattle.std.proofs.Common.{length, refl, sym, ap, ◌∙◌, subst, Option, Some, None, is_some}
use Rattle.std.proofs.Common.{append-nil, inl, inr, slice_get, take, option_map, [], ◌⊎◌, ap₂}
use Rattle.std.proofs.Common.{arith}
use Rattle.std.specs.Prelude.{Contains, All, IfSome, IsSome}
use Rattle.std.proofs.lemmas.List.Elements.{All-nil, All-contains_itself, Contains-append_left}
use Rattle.std.proofs.lemmas.List.Elements.{All-append, All-weaker, All-contains}
use Rattle.std.proofs.lemmas.List.Elements.{Contains-append_cases, Contains-append_right}
use Rattle.std.proofs.lemmas.List.Elements.{Contains-push}
use Rattle.std.proofs.Math.Seq.{take-length}
use Rattle.std.proofs.lemmas.Option.{none-some}
use Rattle.syn_model.specs.Path.{Path}
use Rattle.syn_model.specs.Refusal.{Refusal, Memory}
use Rattle.syn_model.specs.Archive.{Kept, CanKeep, archive_of}
use Rattle.syn_model.specs.Refusal as why
use Rattle.syn_model.specs.Decision.{Item}
use Rattle.syn_machine.specs.Machine.{Up, Down}
use Rattle.syn_runs.specs.World.{Deliver}
use Rattle.syn_machine.proofs.Heard.{sent_at}
use Rattle.syn_runs.proofs.AskedLemmas.{asked_no_more}
use Rattle.syn_machine.specs.Side.{Request, ListAt, Reply, IsLawfulRequest}
use Rattle.syn_machine.specs.Network.{Which, Left, Right, Message, Asks, AsksNothingTwice, Answers}
use Rattle.syn_machine.specs.Network.{NumbersTell}
use Rattle.syn_runs.specs.Acknowledged.{Kept_by, kept_in_session}
use Rattle.syn_machine.specs.Planning.{Planned, Log}
use Rattle.syn_machine.specs.Report.{Report, is_kept, conflict_at, is_carrying, is_marking}
use Rattle.syn_machine.specs.Coordinator.{Exchange, Running, Walk, MayAsk, asked_of, numbered}
use Rattle.syn_machine.specs.Coordinator.{Outstanding, messages_to, report_of, CoordinatorMachine}
use Rattle.syn_machine.specs.Coordinator.{Call, IsShown, AsksNext, IsExpected, asked_count}
use Rattle.syn_machine.specs.Coordinator.{hearing, advanced, asking, sent_now, EndsFor}
use Rattle.syn_machine.specs.Coordinator as fine
use Rattle.syn_runs.specs.Picture.{IsSettled, HasPlan, Follows, RunsOver, GoesOnAs}
use Rattle.syn_runs.specs.Picture.{GoesOnFrom, IsDueAfter, IsOfSession, AllOfSession}
use Rattle.syn_runs.specs.Picture as picture
use Rattle.syn_runs.specs.Runs.{session_picture, picture_of, coordinator_picture}
use Rattle.syn_runs.proofs.Walks.{IsItems, IsSettledBy, IsLeft, AllSettled, advances_left}
use Rattle.syn_runs.proofs.Walks.{advances_status, advances_settled, advances_due, last_stays}
use Rattle.syn_runs.proofs.Walks.{take_whole}
use Rattle.syn_runs.proofs.Remembers.{Remembers, hearing_remembers, advanced_remembers}
use Rattle.syn_runs.proofs.Remembers.{asking_remembers, asking_tells, asking_once, waited}
use Rattle.syn_runs.proofs.InOrder.{ListsInOrder, hearing_in_order, advanced_in_order}
use Rattle.syn_runs.proofs.InOrder.{asking_in_order, for_side, numbered_request}
use Rattle.syn_runs.proofs.UnstableLemmas.{ListsNothing}
use Rattle.std.specs.List.{count_by}
use Rattle.syn_machine.specs.Machine.{Up}
use Rattle.syn_runs.proofs.WorldLemmas.{archive-append}
use Rattle.syn_runs.specs.World as fine_world
use Rattle.syn_runs.specs.World.{coordinator_goes}
use Rattle.syn_runs.proofs.Invariant.{Plans, histories_of, IsHarmless, IsKept}
use Rattle.syn_runs.proofs.SideSteps.{if_some}
use Rattle.syn_runs.proofs.View.{halted_not_up}
use Rattle.syn_runs.proofs.Sessions.{IsHeard, StandsOn, waits_on}
use Rattle.syn_runs.specs.Reported.{EndsSo, IsPlanned, archive_found, at_record, through}
use Rattle.syn_runs.specs.Reported.{out_of_memory, with_answer}
use Rattle.syn_runs.proofs.RefusedItems.{advances_refused, breaks_at_record}
use Rattle.syn_runs.proofs.HeardPlans.{logged_then, settled_before, stands_before}
use Rattle.syn_runs.proofs.Tells.{Tells, ends_still}
use Rattle.syn_runs.proofs.HeardLemmas.{list_of, has_plan, request_of_plan, due_of}
use Rattle.syn_runs.proofs.HeardLemmas.{session_keeps, whole_parts, all_settled}
use Rattle.syn_runs.proofs.HeardLemmas.{all_asked, nowhere}

-- A call

module _ (plans : Plans) (old : fine_world.World) (k : IsKept plans (picture_of old)) (r : Running)
    (e : old.coordinator.running ≡ Some r) (h : IsHeard old r)
    (message : ℕ) (from : Which) (number : ℕ) (reply : Reply)
    (at : slice_get old.sent message ≡ Some (Answers from r.session number reply))
    (request : Request) (asked : asked_of r from number ≡ Some request) where
  heard : Contains old.sent (Answers from r.session number reply)
  heard = sent_at old.sent message (Answers from r.session number reply) at

  abbrev pub exchange : Exchange
  exchange = record { side = from; number = number; request = request; reply = reply }

  pub runs : (picture_of old).coordinator.running ≡ Some (session_picture r)
  runs = ap (option_map session_picture) e

  over : RunsOver old.sent old.coordinator.journal.value (Some (session_picture r))
  over = subst (RunsOver old.sent old.coordinator.journal.value) runs k.coordinator.runs_over

  -- nothing is being written while a session runs
  pub nothing_written : old.coordinator.journal.writing ≡ None
  nothing_written = by old.coordinator.journal.writing refl
    where
      by : (o : Option Kept) → old.coordinator.journal.writing ≡ o → o ≡ None
      by None at = refl
      by (Some what) at =
          let h = subst (λ o. IfSome o (λ kept. (old.coordinator.journal.status ≢ Up)
          × ((picture_of old).coordinator.running ≡ None) × CanKeep old.coordinator.journal.value
          kept
          × IsHarmless plans (histories_of (picture_of old)) kept)) at k.coordinator.writing in
          absurd (none-some _ (sym (sym runs ∙ h.1)))

  pub remembers_then : Remembers old.sent (hearing r exchange)
  remembers_then =
      hearing_remembers old.sent r k.sound.numbers h.remembers from number request reply asked
      heard

  in_order_then : ListsInOrder old.sent (hearing r exchange)
  in_order_then =
      hearing_in_order old.sent r h.in_order k.sound.numbers h.remembers from number request reply
      asked heard

  asked_there : picture.asked_of (session_picture r) from number ≡ Some request
  asked_there = same_asked from ∙ asked
    where
      same_asked : (side : Which) →
          picture.asked_of (session_picture r) side number ≡ asked_of r side number
      same_asked Left = refl
      same_asked Right = refl

  expected : picture.IsExpected (picture_of old).coordinator.running from r.session number
  expected =
      subst (λ o. picture.IsExpected o from r.session number) (sym runs)
      (refl, subst (λ o. IsSome o) (sym asked_there) refl)

  module _ (plan : Option (List Planned)) (logged : Log)
      (has : fine.HasPlan old.coordinator.journal.value (hearing r exchange) plan logged)
      (kept : List Kept) (new : CoordinatorMachine) (messages : List Message)
      (reports : List Report) where
    abbrev pub call : Call
    call = record { kept = kept; messages = messages; reports = reports; logged = logged }

    abbrev pub after : fine_world.World
    after = coordinator_goes old new call

    -- a call is one of the picture
    pub follows : All (IsItems (list_of plan) exchange) kept →
        IsLeft old.coordinator.journal new.journal kept (IsItems (list_of plan) exchange) →
        GoesOnAs (session_picture r) (list_of plan) (option_map session_picture new.running) →
        RunsOver (old.sent ++ messages) new.journal.value (option_map session_picture new.running) →
        NumbersTell (old.sent ++ messages) → AsksNothingTwice (old.sent ++ messages) →
        AllOfSession old.pair old.sent (option_map session_picture new.running) messages →
        (IsSome new.journal.writing →
        (messages ≡ []) × (option_map session_picture new.running ≡ None)) → picture.Reports
        (picture_of old)
        (picture_of after) (list_of plan) (picture.Ends (picture_of after) (list_of plan)) →
        IfSome (option_map session_picture new.running)
        (λ running. picture.asked_of running from number ≡ None) →
        (old.coordinator.journal.status ≢ Up →
        new.journal.status ≡ old.coordinator.journal.status) →
        Follows (picture_of old) (picture_of after) (Deliver message) []
    follows due left on runs_over numbers repeats of_session silent reported no_more
        rises_not =
        let D = IsDueAfter (picture_of old).coordinator.running (list_of plan) from number reply in
        let to_due : (what : Kept) → IsItems (list_of plan) exchange what → D what = λ what d.
        subst (λ o. IsDueAfter o (list_of plan) from number reply what) (sym runs)
        (due_of r (list_of plan) from number request reply asked_there what d) in
        picture.takes_answer message from r.session number reply (list_of plan) logged at expected
        (subst (λ o. HasPlan old.sent old.coordinator.journal.value old.log o (list_of plan) logged)
        (sym runs) (has_plan old.sent old.coordinator.journal.value old.log
        (hearing r exchange) plan logged remembers_then in_order_then k.sound.repeats
        (λ none. (h.unplanned none).0) has))
        (record {
          machine = coordinator_picture new;
          kept = kept;
          messages = messages;
          reports = map (λ report. (report, length (old.acknowledged ++ map Kept_by kept))) reports;
          keeps = record {
            due = All-weaker (IsItems (list_of plan) exchange) D to_due kept due;
            can = left.can;
            archive = left.value;
            writing =
                if_some new.journal.writing
                (λ more. IsItems (list_of plan) exchange more × CanKeep new.journal.value more)
                (λ more. D more × CanKeep new.journal.value more) left.writing
                (λ more _ w. (to_due more w.0, w.1));
          };
          unless_up = left.up;
          rises_not = rises_not;
          runs_on =
              subst (λ o. GoesOnFrom o (list_of plan) (option_map session_picture new.running))
              (sym runs) on;
          runs_over = runs_over;
          numbers = numbers;
          repeats = repeats;
          of_session = of_session;
          silent_when_writing = silent;
          result = refl;
        })
        reported no_more

  sent_stays : old.sent ≡ old.sent ++ []
  sent_stays = sym (append-nil old.sent)

  untouched : (P : Kept → Type 0) → IsLeft old.coordinator.journal old.coordinator.journal [] P
  untouched P = record {
    value = refl;
    can = tt;
    whole = λ _. nothing_written;
    up = λ _. nothing_written;
    writing =
        subst (λ o. IfSome o (λ more. P more × CanKeep old.coordinator.journal.value more))
        (sym nothing_written) tt;
  }

  -- an answer ends the session at once
  ends_now : (why : Refusal) →
      Follows (picture_of old) (picture_of (coordinator_goes old
      (record old.coordinator { running = None })
      (record fine.no_call { reports = report_of r (Some why) ∷ [] }))) (Deliver message) []
  ends_now why =
      let kept_is = session_keeps old.acknowledged r.kept (list_of r.plan) exchange
      [] h.kept (All-nil (IsItems (list_of r.plan) exchange)) ∙ append-nil r.kept in
      let count : (Item → Bool) → List Kept → ℕ = λ of_kind kept. count_by
      (λ planned. of_kind planned.item && is_kept kept planned.item) (list_of r.plan) in
      follows r.plan [] fine.stays [] (record old.coordinator { running = None })
      [] (report_of r (Some why) ∷ [])
      (All-nil (IsItems (list_of r.plan) exchange)) (untouched (IsItems (list_of r.plan) exchange))
      picture.ended tt (subst NumbersTell sent_stays k.sound.numbers)
      (subst AsksNothingTwice sent_stays k.sound.repeats) refl (λ _. (refl, refl))
      (inr (
        session_picture r,
        report_of r (Some why),
        runs,
        refl,
        record {
          session_is = refl;
          complete = whole_parts r (Some why);
          made = λ none. absurd (none-some _ (sym none));
          settled = λ none. absurd (none-some _ (sym none));
          conflicts = λ none. absurd (none-some _ (sym none));
        },
        record {
          done = ap (count is_carrying) (sym kept_is);
          marked = ap (count is_marking) (sym kept_is);
        },
        refl,
      )) tt (λ _. refl)

  -- and reports that
  tells_now : (why : Refusal) →
      (fine.fault_of r.taken from request reply ≡ Some why) ⊎ (why ≡ Memory) →
      Tells old (coordinator_goes old (record old.coordinator { running = None })
      (record fine.no_call { reports = report_of r (Some why) ∷ [] }))
  tells_now why (inl fault) =
      let was = remembers_then.taken exchange (Contains-push r.taken exchange) in
      ends_still old r why (record old.coordinator { running = None }) h
      (with_answer exchange why (
        Contains-append_left old.sent [] _ was.0,
        Contains-append_left old.sent [] _ was.1,
      ) fault)
  tells_now why (inr memory) =
      ends_still old r why (record old.coordinator { running = None }) h
      (subst (λ w. EndsSo (old.sent ++ []) r (Some w)) (sym memory) out_of_memory)

  -- or the call goes through the plan
  module _ (plan : Option (List Planned)) (logged : Log) (walk : Walk) (kept : List Kept)
      (has : fine.HasPlan old.coordinator.journal.value (hearing r exchange) plan logged)
      (advances : fine.Advances old.pair (list_of plan) exchange
      (fine.start_of old.coordinator r) kept walk) where
    abbrev later : Running
    later = advanced (hearing r exchange) plan walk kept

    due : All (IsItems (list_of plan) exchange) kept
    due =
        advances_due old.pair (list_of plan) exchange
        (fine.start_of old.coordinator r) walk kept advances

    left : IsLeft old.coordinator.journal walk.journal kept (IsItems (list_of plan) exchange)
    left =
        advances_left old.pair (list_of plan) exchange
        (fine.start_of old.coordinator r) walk kept nothing_written advances

    rises_not : old.coordinator.journal.status ≢ Up →
        walk.journal.status ≡ old.coordinator.journal.status
    rises_not other =
        advances_status old.pair (list_of plan) exchange (fine.start_of old.coordinator r) walk kept
        advances other

    kept_then : kept_in_session (old.acknowledged ++ map Kept_by kept) ≡ r.kept ++ kept
    kept_then = session_keeps old.acknowledged r.kept (list_of plan) exchange kept h.kept due

    -- its plan stands in the log, and each refusal of it has its cause
    stands_then : IfSome plan (StandsOn (old.log ++ logged) walk.journal.value later)
    stands_then =
        if_some plan
        (StandsOn (old.log ++ logged) old.coordinator.journal.value (hearing r exchange))
        (StandsOn (old.log ++ logged) walk.journal.value later)
        (stands_before old r h exchange plans (histories_of (picture_of old)) k.sound remembers_then
        in_order_then asked (waited old.sent r k.sound.numbers h.remembers from number request reply
        asked heard) over.0 plan logged has) (λ one at had. record {
          is = record {
            made = had.is.made;
            logged = had.is.logged;
            of_session = had.is.of_session;
            plan_is = had.is.plan_is;
            unstable = had.is.unstable;
            refused = advances_refused old.pair had.is.made exchange (r.taken ++ exchange ∷ [])
                (Contains-push r.taken exchange) (fine.start_of old.coordinator r) walk r.kept kept
                had.stands had.is.refused
                (subst (λ l. fine.Advances old.pair l exchange (fine.start_of old.coordinator r)
                kept walk) (ap list_of at ∙ sym had.is.plan_is) advances);
          };
          stands = left.value ∙ (ap (λ a. archive_of a kept) had.stands
              ∙ sym (archive-append (archive_found had.is.made) r.kept kept));
          listed = had.listed;
        })

    -- without a plan it did nothing
    unplanned_then : plan ≡ None → (walk.cursor ≡ 0) × (r.kept ++ kept ≡ []) × (walk.refused ≡ [])
    unplanned_then none = by plan logged has none advances
      where
        by : (plan : Option (List Planned)) (logged : Log) →
            fine.HasPlan old.coordinator.journal.value (hearing r exchange) plan logged →
            plan ≡ None → fine.Advances old.pair (list_of plan) exchange
            (fine.start_of old.coordinator r) kept walk →
            (walk.cursor ≡ 0) × (r.kept ++ kept ≡ []) × (walk.refused ≡ [])
        by _ _ fine.stays none goes =
            let was = h.unplanned none in
            let stays = nowhere old.pair exchange (fine.start_of old.coordinator r) walk kept
            (subst (λ o. fine.Advances old.pair (list_of o) exchange
            (fine.start_of old.coordinator r) kept walk) none goes) in
            (stays.0 ∙ was.1, ap₂ (λ a b. a ++ b) was.2 stays.2, stays.1 ∙ was.3)
        by _ _ (fine.makes made missing makes) none goes = absurd (none-some _ (sym none))

    settled_then : AllSettled (list_of plan) (r.kept ++ kept) walk
    settled_then =
        advances_settled old.pair (list_of plan) exchange (fine.start_of old.coordinator r) walk
        r.kept kept (settled_before old r h exchange plan logged has) advances

    stops_so : walk.journal.status ≡ Down → Follows (picture_of old)
        (picture_of (coordinator_goes old (record { journal = walk.journal; running = None })
        (record fine.no_call { kept = kept; logged = logged }))) (Deliver message) []
    stops_so down =
        follows plan logged has kept (record { journal = walk.journal; running = None }) []
        [] due left picture.ended tt
        (subst NumbersTell sent_stays k.sound.numbers)
        (subst AsksNothingTwice sent_stays k.sound.repeats) refl (λ _. (refl, refl))
        (inl (append-nil old.reports, inr down)) tt rises_not

    -- one that nothing ended early came through its plan
    whole : (why : Option Refusal) →
        EndsFor old.pair later exchange old.coordinator.journal.status walk why → why ≡ None →
        IsSome plan × (slice_get (list_of plan) walk.cursor ≡ None)
    whole _ (fine.settled some over up) none = (some, over)
    whole _ (fine.fails was now) none = absurd (none-some _ (sym none))
    whole _ (fine.failed_before planned what at _ was now) none = absurd (none-some _ (sym none))
    whole _ (fine.no_room_left what full room) none = absurd (none-some _ (sym none))
    whole _ (fine.no_memory same) none = absurd (none-some _ (sym none))

    all_settled_by : slice_get (list_of plan) walk.cursor ≡ None →
        All (IsSettledBy (r.kept ++ kept) walk.refused) (list_of plan)
    all_settled_by over = subst (All (IsSettledBy (r.kept ++ kept) walk.refused))
        (take_whole (list_of plan) walk.cursor over) settled_then

    -- why it ended
    ended_so : (why : Option Refusal) →
        EndsFor old.pair later exchange old.coordinator.journal.status walk why →
        EndsSo (old.sent ++ []) later why
    ended_so _ (fine.settled some over up) = through some (all_settled_by over)
    ended_so _ (fine.fails was now) =
        let at = breaks_at_record old.pair (list_of plan) exchange
        (fine.start_of old.coordinator r) walk kept was
        (λ up. halted_not_up (sym now ∙ up)) advances in
        at_record at.planned exchange at.what why.Device at.at (Contains-push r.taken exchange)
        at.due (0, omega arith, refl)
    ended_so _ (fine.failed_before planned what at due was now) =
        at_record planned exchange what why.Halted at (Contains-push r.taken exchange) due
        (1, omega arith, refl)
    ended_so _ (fine.no_room_left what full room) =
        at_record full.to_keep.planned exchange what why.JournalFull full.to_keep.at
        (Contains-push r.taken exchange) full.to_keep.due (2, omega arith, refl)
    ended_so _ (fine.no_memory same) = out_of_memory

    -- what it reports
    tells_so : (why : Option Refusal) →
        EndsFor old.pair later exchange old.coordinator.journal.status walk why →
        Tells old (coordinator_goes old (record { journal = walk.journal; running = None }) (record
        { kept = kept; messages = []; reports = report_of later why ∷ []; logged = logged }))
    tells_so why ends = inr (
      later,
      why,
      refl,
      record {
        taken = λ e c.
            let was = (advanced_remembers old.sent (hearing r exchange) plan walk kept
            remembers_then).taken e c in (
              Contains-append_left old.sent [] _ was.0,
              Contains-append_left old.sent [] _ was.1,
            );
        planned = if_some plan (StandsOn (old.log ++ logged) walk.journal.value later)
            (IsPlanned (old.log ++ logged) later) stands_then (λ one _ had. had.is);
        unplanned = λ none. (unplanned_then none).2;
        kept_is = ap kept_in_session (take-length (old.acknowledged ++ map Kept_by kept))
            ∙ kept_then;
        settled = settled_then;
        ends = ended_so why ends;
      },
    )

    ends_so : (why : Option Refusal) →
        EndsFor old.pair later exchange old.coordinator.journal.status walk why → Follows
        (picture_of old)
        (picture_of (coordinator_goes old (record { journal = walk.journal; running = None })
        (record
        { kept = kept; messages = []; reports = report_of later why ∷ []; logged = logged })))
        (Deliver message) []
    ends_so why ends =
        let count : (Item → Bool) → List Kept → ℕ = λ of_kind kept. count_by
        (λ planned. of_kind planned.item && is_kept kept planned.item) (list_of plan) in
        follows plan logged has kept (record { journal = walk.journal; running = None })
        [] (report_of later why ∷ []) due left picture.ended tt
        (subst NumbersTell sent_stays k.sound.numbers)
        (subst AsksNothingTwice sent_stays k.sound.repeats) refl (λ _. (refl, refl))
        (inr (
          session_picture r,
          report_of later why,
          runs,
          refl,
          record {
            session_is = refl;
            complete = whole_parts later why;
            made = λ none. logged_then old r h exchange plan logged has (whole why ends none).0;
            settled =
                λ none. subst (λ ks. All
                (λ planned. IsSettled ks (report_of later why) planned.item) (list_of plan))
                (sym kept_then)
                (all_settled (r.kept ++ kept) (list_of plan) (report_of later why) (conflicts_of
                (whole why ends none).1) (all_settled_by (whole why ends none).1));
            conflicts = λ none. conflicts_of (whole why ends none).1;
          },
          record {
            done = ap (count is_carrying) (sym kept_then);
            marked = ap (count is_marking) (sym kept_then);
          },
          refl,
        )) tt rises_not
      where
        conflicts_of : slice_get (list_of plan) walk.cursor ≡ None →
            filter_map (λ planned. conflict_at planned.item) (take walk.cursor (list_of plan))
            ≡ filter_map (λ planned. conflict_at planned.item) (list_of plan)
        conflicts_of over =
            ap (filter_map (λ planned. conflict_at planned.item))
            (take_whole (list_of plan) walk.cursor over)

    module _ (asks_left asks_right : List Request)
        (stays : walk.journal.status ≡ old.coordinator.journal.status)
        (asks : AsksNext walk.journal.value later asks_left asks_right) where
      abbrev on : Running
      on = asking later asks_left asks_right

      messages : List Message
      messages = sent_now later asks_left asks_right

      m : Remembers old.sent later
      m = advanced_remembers old.sent (hearing r exchange) plan walk kept remembers_then

      remembers_on : Remembers (old.sent ++ sent_now later asks_left asks_right) on
      remembers_on = asking_remembers old.sent later k.sound.numbers m asks_left asks_right

      runs_over_on : RunsOver (old.sent ++ sent_now later asks_left asks_right) walk.journal.value
          (Some (session_picture on))
      runs_over_on = (
        over.0 ∙ (sym (last_stays (list_of plan) exchange old.coordinator.journal.value kept due)
            ∙ ap (λ a. a.last_session) (sym left.value)),
        all_sent,
        asks.waits,
      )
        where
          all_sent : picture.WasSent (old.sent ++ sent_now later asks_left asks_right)
              (session_picture on)
          all_sent Left i d within =
              remembers_on.waiting Left _ (All-contains_itself on.left i d within)
          all_sent Right i d within =
              remembers_on.waiting Right _ (All-contains_itself on.right i d within)

      of_plan : (side : Which) (n : ℕ) (q : Request) →
          IsLawfulRequest r.session q × MayAsk walk.journal.value later side q →
          IsOfSession old.pair old.sent (session_picture on) (Asks side r.session n q)
      of_plan side n q both = (
        refl,
        both.0,
        request_of_plan old.pair old.sent walk.journal.value later side q m.taken both.1,
      )

      of_session_on : All (IsOfSession old.pair old.sent (session_picture on))
          (sent_now later asks_left asks_right)
      of_session_on =
          All-append (IsOfSession old.pair old.sent (session_picture on))
          (messages_to r.session Left (numbered (asked_count later Left) asks_left))
          (messages_to r.session Right (numbered (asked_count later Right) asks_right))
          (all_asked (IsOfSession old.pair old.sent (session_picture on)) r.session Left
          (λ q. IsLawfulRequest r.session q × MayAsk walk.journal.value later Left q)
          (of_plan Left) (asked_count later Left) asks_left
          (λ i d within. (
            All-contains (IsLawfulRequest r.session)
                (asks_left ++ asks_right) _ asks.lawful (Contains-append_left asks_left asks_right _
                (All-contains_itself asks_left i d within)),
            asks.may_left i d within,
          )))
          (all_asked (IsOfSession old.pair old.sent (session_picture on)) r.session Right
          (λ q. IsLawfulRequest r.session q × MayAsk walk.journal.value later Right q)
          (of_plan Right) (asked_count later Right) asks_right
          (λ i d within. (
            All-contains (IsLawfulRequest r.session)
                (asks_left ++ asks_right) _ asks.lawful
                (Contains-append_right asks_left asks_right _
                (All-contains_itself asks_right i d within)),
            asks.may_right i d within,
          )))

      abbrev new_world : fine_world.World
      new_world =
          coordinator_goes old (record { journal = walk.journal; running = Some on })
          (record {
            kept = kept;
            messages = sent_now later asks_left asks_right;
            reports = [];
            logged = logged;
          })

      no_more : (side : Which) → side ≡ from →
          picture.asked_of (session_picture on) side number ≡ None
      no_more Left is = asked_no_more old.sent r from number request reply remembers_then Left is
          later asks_left asks_right refl refl refl
      no_more Right is = asked_no_more old.sent r from number request reply remembers_then Right is
          later asks_left asks_right refl refl refl

      goes_on_so : Follows (picture_of old) (picture_of new_world) (Deliver message) []
      goes_on_so =
          follows plan logged has kept (record { journal = walk.journal; running = Some on })
          (sent_now later asks_left asks_right) [] due left
          (picture.goes_on (session_picture on) refl refl refl) runs_over_on
          (asking_tells old.sent later k.sound.numbers m asks_left asks_right)
          (asking_once old.sent later k.sound.numbers m asks_left asks_right k.sound.repeats
          asks.once) of_session_on
          (λ some. absurd (true≢false (sym some ∙ ap is_some (left.whole stays))))
          (inl (append-nil old.reports, inl refl)) (no_more from refl) rises_not

      unlogged_on : (plan : Option (List Planned)) (logged : Log) →
          fine.HasPlan old.coordinator.journal.value (hearing r exchange) plan logged →
          plan ≡ None → All (λ made. made.session ≢ r.session) (old.log ++ logged)
      unlogged_on _ _ fine.stays none =
          subst (All (λ made. made.session ≢ r.session)) (sym (append-nil old.log))
          (h.unplanned none).0
      unlogged_on _ _ (fine.makes made missing makes) none = absurd (none-some _ (sym none))

      shown_on : (side : Which) (path : Path) →
          Contains (for_side asks_left asks_right side) (ListAt path) →
          IsShown (r.taken ++ exchange ∷ []) side path
      shown_on Left path c =
          (All-contains (MayAsk walk.journal.value later Left) asks_left _ asks.may_left c).2
      shown_on Right path c =
          (All-contains (MayAsk walk.journal.value later Right) asks_right _ asks.may_right c).2

      -- beside a plan it asks for no listing, so none waits then
      nothing_more : (waiting : List Outstanding) (number : ℕ) (requests : List Request) →
          ListsNothing waiting → ((path : Path) → Contains requests (ListAt path) → ⊥) →
          ListsNothing (waiting ++ numbered number requests)
      nothing_more waiting number requests none no_more one path c is =
          elim (Contains-append_cases waiting (numbered number requests) one c) as (λ _. ⊥) [
            | inl was ↦ none one path was is
            | inr now ↦ no_more path
                (subst (Contains requests) is (numbered_request number requests one now))
          ]

      nothing_listed_on : (one : List Planned) → plan ≡ Some one →
          ListsNothing later.left × ListsNothing later.right →
          ListsNothing on.left × ListsNothing on.right
      nothing_listed_on one is none = (
        nothing_more later.left (asked_count later Left) asks_left none.0 (λ path c.
            unplanned (All-contains (MayAsk walk.journal.value later Left) asks_left _ asks.may_left
            c).0),
        nothing_more later.right (asked_count later Right) asks_right none.1 (λ path c.
            unplanned (All-contains (MayAsk walk.journal.value later Right) asks_right _
            asks.may_right c).0),
      )
        where
          unplanned : plan ≡ None → ⊥
          unplanned none = none-some _ (sym none ∙ is)

      heard_on : IsHeard new_world on
      heard_on = record {
        remembers = remembers_on;
        in_order =
            asking_in_order old.sent later
            (advanced_in_order old.sent (hearing r exchange) plan walk kept in_order_then) m
            k.sound.known asks_left asks_right shown_on;
        unplanned = λ none. let is = unplanned_then none in
            (unlogged_on plan logged has none, is.0, is.1, is.2);
        planned = logged_then old r h exchange plan logged has;
        logged = if_some plan (StandsOn (old.log ++ logged) walk.journal.value later)
            (StandsOn (old.log ++ logged) walk.journal.value on) stands_then
            (λ one is had. waits_on (old.log ++ logged) walk.journal.value later on.left on.right
            one (nothing_listed_on one is had.listed) had);
        kept = kept_then;
        settled = settled_then;
      }

  -- how an answer is taken
  pub takes_follow : (new : CoordinatorMachine) (call : Call) →
      fine.Takes old.pair old.coordinator r exchange new call →
      Follows (picture_of old) (picture_of (coordinator_goes old new call)) (Deliver message) []
      × IfSome new.running (IsHeard (coordinator_goes old new call))
      × Tells old (coordinator_goes old new call)
  takes_follow _ _ (fine.ends_at_once why fault) = (ends_now why, tt, tells_now why fault)
  takes_follow _ _ (fine.stops plan logged walk kept fault has advances down) =
      (stops_so plan logged walk kept has advances down, tt, inl (append-nil old.reports))
  takes_follow _ _ (fine.ends plan logged walk kept why fault has advances ends) = (
    ends_so plan logged walk kept has advances why ends,
    tt,
    tells_so plan logged walk kept has advances why ends,
  )
  takes_follow _ _ (fine.goes_on plan logged walk kept asks_left asks_right fault has advances rests
      stays past asks) = (
        goes_on_so plan logged walk kept has advances asks_left asks_right stays asks,
        heard_on plan logged walk kept has advances asks_left asks_right stays asks,
        inl (append-nil old.reports),
      )
