-- Each session reports once, and counts the items of the plan that the log has for it.
use Rattle.std.proofs.Common.{◌≡◌, ◌≢◌, ◌≤◌, ◌⊎◌, ◌+◌, ◌∙◌, ◌==◌, ℕ, List, [], ◌∷◌, ◌++◌, map, take}
use Rattle.std.proofs.Common.{length, filter_map, Option, Some, None, refl, sym, ap, subst, inl}
use Rattle.std.proofs.Common.{inr, arith, append-nil, true, false, if◌then◌else◌}
use Rattle.std.specs.Prelude.{All, AllPairs, IfSome, slice_index_or}
use Rattle.std.proofs.lemmas.Bool.Decides.{nat_tests}
use Rattle.std.proofs.lemmas.List.{length-append, take-append-le}
use Rattle.std.proofs.lemmas.List.Elements.{All-head, All-nil, All-push}
use Rattle.std.proofs.lemmas.List.Elements.{filter_map-append}
use Rattle.std.proofs.lemmas.Option.{none-some, same_Some}
use Rattle.std.specs.Prelude.{◌<◌}
use Rattle.std.proofs.lemmas.List.Quantifiers.{all_pairs_push}
use Rattle.std.proofs.lemmas.List.Sums.{fold-append}
use Rattle.std.proofs.Math.Seq.{take-length}
use Rattle.std.specs.Prelude.{Contains}
use Rattle.std.proofs.Common.{zero, suc}
use Rattle.std.proofs.lemmas.List.Elements.{Contains-append_cases, All-weaker}
use Rattle.syn_model.specs.Refusal.{Memory, NoAnswer}
use Rattle.syn_machine.specs.Side.{Reply}
use Rattle.syn_runs.specs.Acknowledged.{stores_after}
use Rattle.syn_machine.specs.Report.{conflict_at}
use Rattle.syn_runs.specs.Picture.{IsDueAfter, IsNothing}
use Rattle.syn_promise.proofs.PlannedLemmas.{WasPlanned, AllPlanned}
use Rattle.syn_promise.proofs.RecordLemmas.{last_after}
use Rattle.syn_model.specs.Archive.{Kept, after_kept, archive_of}
use Rattle.syn_machine.specs.Network.{Which}
use Rattle.syn_runs.specs.Acknowledged.{Ack, Kept_by, Stores, kept_in, kept_in_session}
use Rattle.syn_machine.specs.Planning.{Planned, SessionPlan, Log}
use Rattle.syn_machine.specs.Report.{Report}
use Rattle.syn_runs.specs.Picture.{Picture, SessionPicture, CoordinatorGoes, Reports, Counts}
use Rattle.syn_runs.specs.Picture.{StartsFrom, GoesOnFrom, ended, goes_on, HasPlan, IsExpected}
use Rattle.syn_runs.specs.Picture.{RunsOver}
use Rattle.syn_runs.specs.Picture as picture
use Rattle.syn_runs.specs.Headline.{IsStart, StandsFor}
use Rattle.syn_runs.proofs.CourseLemmas.{Course, beside, starts, ticks, takes}
use Rattle.syn_runs.proofs.Invariant.{Plans, IsKept, plan_in}
use Rattle.syn_runs.proofs.KeptLemmas.{sessions_grow}
use Rattle.syn_runs.proofs.LogLemmas.{plan_in-push}
use Rattle.syn_runs.proofs.SideSteps.{if_some}

abbrev pub Told : Type 0
Told = Report × ℕ

-- its session is another one
abbrev IsOther : ℕ → Told → Type 0
IsOther session one = one.0.session ≢ session

abbrev IsBelow : Picture → Told → Type 0
IsBelow world one = one.0.session ≤ world.coordinator.archive.last_session

-- what is said of a report, after this was acknowledged: it counts the items of its session's plan,
-- and has all its conflicts where nothing ended it; the session was the last that was started, and
-- had made its plan by then
pub record IsTold (before : Stores) (log : Log) (front : List Ack) (report : Report) : Type 0
  where
    pub counts : Counts (plan_in log report.session) (kept_in_session front) report
    pub whole : report.ended ≡ None → report.conflicts
        ≡ filter_map (λ planned. conflict_at planned.item) (plan_in log report.session)
    pub last : (stores_after before front).archive.last_session ≡ report.session
    pub planned : (made : SessionPlan) → Contains log made → made.session ≡ report.session →
        WasPlanned before front made

abbrev pub IsCounted : Stores → Picture → Told → Type 0
IsCounted before world one = (one.1 ≤ length world.acknowledged)
    × IsTold before world.log (take one.1 world.acknowledged) one.0

-- a log has of a session what it had
abbrev Stays : Log → Log → ℕ → Type 0
Stays old new session = (plan_in new session ≡ plan_in old session)
    × ((made : SessionPlan) → Contains new made → made.session ≡ session → Contains old made)

told_still : (before : Stores) (old new : Log) (front : List Ack) (report : Report) →
    Stays old new report.session → IsTold before old front report → IsTold before new front report
told_still before old new front report stays told = record {
  counts = subst (λ plan. Counts plan (kept_in_session front) report) (sym stays.0) told.counts;
  whole = λ none. told.whole none
      ∙ ap (filter_map (λ planned. conflict_at planned.item)) (sym stays.0);
  last = told.last;
  planned = λ made there of_session.
      told.planned made (stays.1 made there of_session) of_session;
}

pub record AllReported (before : Stores) (world : Picture) : Type 0 where
  pub apart : AllPairs (λ earlier later. earlier.0.session ≢ later.0.session) world.reports
  pub below : All (IsBelow world) world.reports
  pub over : IfSome world.coordinator.running (λ r. All (IsOther r.session) world.reports)
  pub counted : All (IsCounted before world) world.reports

module _ (before : Stores) (plans : Plans) (old : Picture) (k : IsKept plans old)
    (was : AllReported before old) (new : Picture) (acks : List Ack)
    (added : new.acknowledged ≡ old.acknowledged ++ acks)
    (grown : old.coordinator.archive.last_session ≤ new.coordinator.archive.last_session) where
  below_still : All (IsBelow new) old.reports
  below_still i d within = let below = was.below i d within in omega (arith, below, grown)

  -- the log has of those that reported what it had
  abbrev StaysOfReported : Type 0
  StaysOfReported = (i : ℕ) (d : Told) → i < length old.reports →
      Stays old.log new.log (slice_index_or old.reports i d).0.session

  counted_still : StaysOfReported → All (IsCounted before new) old.reports
  counted_still stays i d within =
      let one = slice_index_or old.reports i d in
      let had = was.counted i d within in
      let reached = had.0 in
      let longer : length new.acknowledged ≡ length old.acknowledged + length acks =
      ap length added ∙ length-append old.acknowledged acks in
      let front : take one.1 old.acknowledged ≡ take one.1 new.acknowledged =
      sym (ap (take one.1) added ∙ take-append-le one.1 old.acknowledged acks reached) in (
        omega (arith, reached, longer),
        told_still before old.log new.log (take one.1 new.acknowledged) one.0 (stays i d within)
            (subst (λ front. IsTold before old.log front one.0) front had.1),
      )

  same_log : new.log ≡ old.log → StaysOfReported
  same_log same i d within =
      let session = (slice_index_or old.reports i d).0.session in (
        ap (λ log. plan_in log session) same,
        λ made there of_session. subst (λ log. Contains log made) same there,
      )

  -- nothing is reported
  silent : new.reports ≡ old.reports → StaysOfReported →
      IfSome new.coordinator.running (λ r. All (IsOther r.session) old.reports) →
      AllReported before new
  silent same stays over = record {
    apart = subst (AllPairs (λ earlier later. earlier.0.session ≢ later.0.session)) (sym same)
        was.apart;
    below = subst (All (IsBelow new)) (sym same) below_still;
    over = subst (λ reports. IfSome new.coordinator.running (λ r. All (IsOther r.session) reports))
        (sym same) over;
    counted = subst (All (IsCounted before new)) (sym same) (counted_still stays);
  }

  -- a session that ran reports
  told : (r : SessionPicture) → old.coordinator.running ≡ Some r → (report : Report) →
      new.reports ≡ old.reports ++ (report, length new.acknowledged) ∷ [] →
      report.session ≡ r.session → new.coordinator.running ≡ None →
      StaysOfReported → IsTold before new.log new.acknowledged report → AllReported before new
  told r running report one of_session gone stays is_told =
      let now : Told = (report, length new.acknowledged) in
      let over : All (IsOther r.session) old.reports =
      subst (λ o. IfSome o (λ r. All (IsOther r.session) old.reports)) running was.over in
      let last : r.session ≡ old.coordinator.archive.last_session =
      (subst (RunsOver old.sent old.coordinator.archive) running k.coordinator.runs_over).0 in
      record {
        apart = subst (AllPairs (λ earlier later. earlier.0.session ≢ later.0.session)) (sym one)
            (all_pairs_push (λ earlier later. earlier.0.session ≢ later.0.session) old.reports now
            was.apart (λ i d within same. over i d within (same ∙ of_session)));
        below = subst (All (IsBelow new)) (sym one) (All-push (IsBelow new) old.reports now
            below_still (omega (arith, of_session, last, grown)));
        over = subst (λ o. IfSome o (λ r. All (IsOther r.session) new.reports)) (sym gone) tt;
        counted = subst (All (IsCounted before new)) (sym one) (All-push (IsCounted before new)
            old.reports now (counted_still stays) (
              omega arith,
              subst (λ front. IsTold before new.log front report)
                  (sym (take-length new.acknowledged)) is_told,
            ));
      }

-- One step

module _ (before : Stores) (plans : Plans) (old : Picture) (k : IsKept plans old)
    (was : AllReported before old) (new : Picture) (stands : StandsFor before old)
    (stands_now : StandsFor before new) (planned_now : AllPlanned before new new.log) where
  plan_is : (r : SessionPicture) → old.coordinator.running ≡ Some r →
      plan_in old.log r.session ≡ r.plan
  plan_is r running = ap (λ log. plan_in log r.session) k.logged
      ∙ subst (λ o. IfSome o (λ r. plan_in plans r.session ≡ r.plan)) running
      (if_some old.coordinator.running _ (λ r. plan_in plans r.session ≡ r.plan)
      k.coordinator.running (λ r _ both. both.0))

  -- a session that goes on is the same
  on_over : (o now : Option SessionPicture) (plan : List Planned) →
      IfSome o (λ r. All (IsOther r.session) old.reports) → GoesOnFrom o plan now →
      IfSome now (λ r. All (IsOther r.session) old.reports)
  on_over None now plan over none =
      subst (λ o. IfSome o (λ r. All (IsOther r.session) old.reports)) (sym none) tt
  on_over (Some r) _ plan over ended = tt
  on_over (Some r) _ plan over (goes_on next session_is prefers plan_is) =
      subst (λ n. All (IsOther n) old.reports) (sym session_is) over

  module _ (logged : Log) (D : Kept → Type 0) (R : Option SessionPicture → Type 0)
      (g : CoordinatorGoes old logged D R new) where
    grown_by : old.coordinator.archive.last_session ≤ new.coordinator.archive.last_session
    grown_by =
        let more = sessions_grow old.coordinator.archive g.kept g.keeps.can in
        subst (λ a. old.coordinator.archive.last_session ≤ a.last_session)
        (sym (ap (λ w. w.coordinator.archive) g.result ∙ g.keeps.archive)) more

    -- what a session plans leaves the plans of those that reported
    log_stays : (r : SessionPicture) → old.coordinator.running ≡ Some r → (plan : List Planned) →
        HasPlan old.sent old.coordinator.archive old.log (Some r) plan logged → (i : ℕ) (d : Told) →
        i < length old.reports → Stays old.log new.log (slice_index_or old.reports i d).0.session
    log_stays r running plan (inl (same, none)) i d within =
        let session = (slice_index_or old.reports i d).0.session in
        let is : new.log ≡ old.log =
        ap (λ w. w.log) g.result ∙ (ap (λ more. old.log ++ more) none ∙ append-nil old.log) in (
          ap (λ log. plan_in log session) is,
          λ made there of_session. subst (λ log. Contains log made) is there,
        )
    log_stays r running plan (inr (made, makes, is, one)) i d within =
        let session = (slice_index_or old.reports i d).0.session in
        let over : All (IsOther r.session) old.reports =
        subst (λ o. IfSome o (λ r. All (IsOther r.session) old.reports)) running was.over in
        let other : session ≢ made.session =
        λ same. over i d within (same ∙ makes.of_session) in
        let log_is : new.log ≡ old.log ++ made ∷ [] =
        ap (λ w. w.log) g.result ∙ ap (λ more. old.log ++ more) one in (
          ap (λ log. plan_in log session) log_is
              ∙ (plan_in-push old.log made (subst (λ n. All (λ earlier. earlier.session ≢ n)
              old.log) (sym makes.of_session) makes.once) session
              ∙ ap (λ b. if b then made.plan else plan_in old.log session)
              (apart_test session made.session other)),
          λ x there of_session. by x of_session other (Contains-append_cases old.log (made ∷ []) x
              (subst (λ log. Contains log x) log_is there)),
        )
      where
        apart_test : (m n : ℕ) → m ≢ n → (m == n) ≡ false
        apart_test m n other = grind (arith, nat_tests)

        by : {session : ℕ} (x : SessionPlan) → x.session ≡ session → session ≢ made.session →
            Contains old.log x ⊎ Contains (made ∷ []) x → Contains old.log x
        by x of_session other (inl there) = there
        by x of_session other (inr (zero, within, same)) =
            absurd (other (sym of_session ∙ ap (λ made. made.session) (sym same)))
        by x of_session other (inr (suc k, within, same)) = absurd (omega (arith, within))

    -- and the log has its own
    log_has : (r : SessionPicture) → old.coordinator.running ≡ Some r → (plan : List Planned) →
        HasPlan old.sent old.coordinator.archive old.log (Some r) plan logged →
        plan_in new.log r.session ≡ plan
    log_has r running plan (inl (same, none)) =
        ap (λ w. plan_in w.log r.session) g.result
        ∙ (ap (λ more. plan_in (old.log ++ more) r.session) none
        ∙ (ap (λ log. plan_in log r.session) (append-nil old.log)
        ∙ (plan_is r running ∙ sym same)))
    log_has r running plan (inr (made, makes, is, one)) =
        ap (λ w. plan_in w.log r.session) g.result
        ∙ (ap (λ more. plan_in (old.log ++ more) r.session) one
        ∙ (plan_in-push old.log made (subst (λ n. All (λ earlier. earlier.session ≢ n) old.log)
        (sym makes.of_session) makes.once) r.session
        ∙ (ap (λ b. if b then made.plan else plan_in old.log r.session)
        (same_test r.session made.session (sym makes.of_session)) ∙ sym is)))
      where
        same_test : (m n : ℕ) → m ≡ n → (m == n) ≡ true
        same_test m n same = grind (arith, nat_tests)

    -- what is told of a report that ends now
    told_now : (report : Report) (plan : List Planned) → (r : SessionPicture) →
        report.session ≡ r.session → old.coordinator.running ≡ Some r →
        plan_in new.log r.session ≡ plan →
        new.coordinator.archive.last_session ≡ old.coordinator.archive.last_session →
        Counts plan (kept_in_session new.acknowledged) report → (report.ended ≡ None →
        report.conflicts ≡ filter_map (λ planned. conflict_at planned.item) plan) →
        IsTold before new.log new.acknowledged report
    told_now report plan r of_session running has same counts whole =
        let plan_is : plan_in new.log report.session ≡ plan =
        ap (plan_in new.log) of_session ∙ has in
        let over : r.session ≡ old.coordinator.archive.last_session =
        (subst (RunsOver old.sent old.coordinator.archive) running k.coordinator.runs_over).0 in
        record {
          counts = subst (λ plan. Counts plan (kept_in_session new.acknowledged) report)
              (sym plan_is) counts;
          whole = λ none. whole none
              ∙ ap (filter_map (λ planned. conflict_at planned.item)) (sym plan_is);
          last = ap (λ a. a.last_session) (sym stands_now.archive)
              ∙ (same ∙ (sym over ∙ sym of_session));
          planned = λ made there of_session.
              subst (WasPlanned before new.acknowledged) there.2 (planned_now there.0 _ there.1);
        }

    ended_reported : (plan : List Planned) (Ends_so : SessionPicture → Report → Type 0) →
        ((r : SessionPicture) (report : Report) → Ends_so r report →
        (report.session ≡ r.session) × (report.ended ≡ None →
        report.conflicts ≡ filter_map (λ planned. conflict_at planned.item) plan)) →
        ((i : ℕ) (d : Told) → i < length old.reports →
        Stays old.log new.log (slice_index_or old.reports i d).0.session) →
        ((r : SessionPicture) → old.coordinator.running ≡ Some r →
        (plan_in new.log r.session ≡ plan)
        × (new.coordinator.archive.last_session ≡ old.coordinator.archive.last_session)) →
        GoesOnFrom old.coordinator.running plan new.coordinator.running →
        Reports old new plan Ends_so → AllReported before new
    ended_reported plan Ends_so of_session stays has on (inl (same, runs)) =
        silent before plans old k was new (map Kept_by g.kept) (ap (λ w. w.acknowledged) g.result)
        grown_by same stays
        (on_over old.coordinator.running new.coordinator.running plan was.over on)
    ended_reported plan Ends_so of_session stays has on
        (inr (r, report, running, one, ends, counts, gone)) =
        let of = of_session r report ends in
        let had = has r running in
        told before plans old k was new (map Kept_by g.kept) (ap (λ w. w.acknowledged) g.result)
        grown_by r running report one of.0 gone stays
        (told_now report plan r of.0 running had.0 had.1 counts of.1)

  -- with no plan made
  unlogged : new.log ≡ old.log ++ [] → (i : ℕ) (d : Told) → i < length old.reports →
      Stays old.log new.log (slice_index_or old.reports i d).0.session
  unlogged same i d within =
      let is = same ∙ append-nil old.log in (
        ap (λ log. plan_in log (slice_index_or old.reports i d).0.session) is,
        λ made there of_session. subst (λ log. Contains log made) is there,
      )

  -- an answer and a tick leave the number of the last session
  takes_last : (from : Which) (session number : ℕ) (reply : Reply) (plan : List Planned)
      (logged : Log) (R : Option SessionPicture → Type 0) →
      CoordinatorGoes old logged (IsDueAfter old.coordinator.running plan from number reply) R new →
      (r : SessionPicture) → old.coordinator.running ≡ Some r →
      new.coordinator.archive.last_session ≡ old.coordinator.archive.last_session
  takes_last from session number reply plan logged R g r running =
      ap (λ w. w.coordinator.archive.last_session) g.result
      ∙ (ap (λ a. a.last_session) g.keeps.archive
      ∙ last_after r plan from number reply old.coordinator.archive g.kept
      (All-weaker (IsDueAfter old.coordinator.running plan from number reply)
      (picture.IsDue r plan from number reply)
      (λ kept. subst (λ o. IsDueAfter o plan from number reply kept) running) g.kept g.keeps.due))

  ticks_last : (R : Option SessionPicture → Type 0) → CoordinatorGoes old [] IsNothing R new →
      new.coordinator.archive.last_session ≡ old.coordinator.archive.last_session
  ticks_last R g =
      ap (λ w. w.coordinator.archive.last_session) g.result
      ∙ (ap (λ a. a.last_session) g.keeps.archive ∙ by g.kept g.keeps.due)
    where
      by : (kept : List Kept) → All IsNothing kept →
          (archive_of old.coordinator.archive kept).last_session
          ≡ old.coordinator.archive.last_session
      by [] due = refl
      by (one ∷ kept) due = absurd (All-head IsNothing one kept due)

  takes_reported : (from : Which) (session number : ℕ) (reply : Reply) (plan : List Planned)
      (logged : Log) → (g : CoordinatorGoes old logged
      (IsDueAfter old.coordinator.running plan from number reply)
      (GoesOnFrom old.coordinator.running plan) new) →
      GoesOnFrom old.coordinator.running plan new.coordinator.running →
      (o : Option SessionPicture) → old.coordinator.running ≡ o → IsExpected o from session number →
      HasPlan old.sent old.coordinator.archive old.log o plan logged →
      Reports old new plan (picture.Ends new plan) → AllReported before new
  takes_reported from session number reply plan logged g on None running expected has reports =
      absurd expected
  takes_reported from session number reply plan logged g on (Some r) running expected has
      reports =
      ended_reported logged _ _ g plan (picture.Ends new plan)
      (λ r report ends. (ends.session_is, ends.conflicts))
      (log_stays logged _ _ g r running plan has)
      (λ q is. let same = same_Some r q (sym running ∙ is) in (
        subst (λ q. plan_in new.log q.session ≡ plan) same (log_has logged _ _ g r running plan
            has),
        takes_last from session number reply plan logged _ g q is,
      ))
      on reports

  no_end : (report : Report) (plan : List Planned) →
      (report.ended ≡ Some NoAnswer) ⊎ (report.ended ≡ Some Memory) → report.ended ≡ None →
      report.conflicts ≡ filter_map (λ planned. conflict_at planned.item) plan
  no_end report plan (inl some) none = absurd (none-some _ (sym none ∙ some))
  no_end report plan (inr some) none = absurd (none-some _ (sym none ∙ some))

  running_now : (logged : Log) (D : Kept → Type 0) (R : Option SessionPicture → Type 0) →
      CoordinatorGoes old logged D R new → R new.coordinator.running
  running_now logged D R g = subst R (sym (ap (λ w. w.coordinator.running) g.result)) g.runs_on

  ticks_has : (r : SessionPicture) → (o : Option SessionPicture) → old.coordinator.running ≡ o →
      o ≡ Some r → plan_in old.log r.session ≡ picture.plan_of o
  ticks_has r None running is = absurd (none-some _ is)
  ticks_has r (Some q) running is =
      let same = same_Some q r is in
      plan_is r (running ∙ is) ∙ ap (λ q. q.plan) (sym same)

  pub course_reported : Course old new → AllReported before new
  course_reported (beside acks added can runs reports logs) =
      let more = sessions_grow old.coordinator.archive (filter_map kept_in acks) can in
      let archive_is : archive_of old.coordinator.archive (filter_map kept_in acks)
      ≡ new.coordinator.archive =
      sym (stands_now.archive
      ∙ (ap (λ all. archive_of before.archive (filter_map kept_in all)) added
      ∙ (ap (archive_of before.archive) (filter_map-append kept_in old.acknowledged acks)
      ∙ (fold-append after_kept before.archive (filter_map kept_in old.acknowledged)
      (filter_map kept_in acks)
      ∙ ap (λ a. archive_of a (filter_map kept_in acks)) (sym stands.archive))))) in
      let grown : old.coordinator.archive.last_session ≤ new.coordinator.archive.last_session =
      subst (λ a. old.coordinator.archive.last_session ≤ a.last_session) archive_is more in
      silent before plans old k was new acks added grown reports
      (same_log before plans old k was new acks added grown logs) (goes runs)
    where
      goes : (new.coordinator.running ≡ None)
          ⊎ ((new.coordinator.running ≡ old.coordinator.running) × (filter_map kept_in acks ≡ [])) →
          IfSome new.coordinator.running (λ r. All (IsOther r.session) old.reports)
      goes (inl none) =
          subst (λ o. IfSome o (λ r. All (IsOther r.session) old.reports)) (sym none) tt
      goes (inr same) =
          subst (λ o. IfSome o (λ r. All (IsOther r.session) old.reports)) (sym same.0) was.over
  course_reported (starts preference g reports) =
      silent before plans old k was new (map Kept_by g.kept) (ap (λ w. w.acknowledged) g.result)
      (grown_by [] _ _ g) reports (unlogged (ap (λ w. w.log) g.result))
      (if_some new.coordinator.running (λ r. (r.session ≡ old.coordinator.archive.last_session + 1)
      × (r.plan ≡ []) × (r.preference ≡ preference)) (λ r. All (IsOther r.session) old.reports)
      (running_now [] _ _ g) (λ r at next i d within same.
      let below = was.below i d within in
      let above = next.0 in omega (arith, below, above, same)))
  course_reported (ticks g reports) =
      ended_reported [] _ _ g (picture.plan_of old.coordinator.running) picture.EndsUnanswered
      (λ r report ends. (
        ends.0,
        no_end report (picture.plan_of old.coordinator.running) ends.2,
      )) (unlogged (ap (λ w. w.log) g.result))
      (λ r is. (
        ap (λ log. plan_in log r.session) (ap (λ w. w.log) g.result ∙ append-nil old.log)
            ∙ ticks_has r old.coordinator.running refl is,
        ticks_last _ g,
      )) (running_now [] _ _ g) reports
  course_reported (takes from session number reply plan logged heard expected made g reports) =
      takes_reported from session number reply plan logged g (running_now logged _ _ g)
      old.coordinator.running refl expected made reports

pub start_reported : (before : Stores) (old : Picture) → IsStart old → AllReported before old
start_reported before old s = record {
  apart = subst (AllPairs (λ earlier later. earlier.0.session ≢ later.0.session))
      (sym s.nothing_yet.2) (λ i j d less within. absurd (omega (arith, within)));
  below = subst (All (IsBelow old)) (sym s.nothing_yet.2) (All-nil (IsBelow old));
  over = subst (λ o. IfSome o (λ r. All (IsOther r.session) old.reports)) (sym s.coordinator.0) tt;
  counted = subst (All (IsCounted before old)) (sym s.nothing_yet.2)
      (All-nil (IsCounted before old));
}
