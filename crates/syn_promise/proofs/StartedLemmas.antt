-- Each session that runs, and each that reports, was started.
use Rattle.std.proofs.Common.{◌≡◌, ◌⊎◌, ◌∙◌, ◌+◌, ℕ, zero, suc, List, [], ◌∷◌, ◌++◌, map, take}
use Rattle.std.proofs.Common.{filter_map, length, Option, Some, None, sym, ap, subst, inl, inr}
use Rattle.std.proofs.Common.{arith}
use Rattle.std.specs.Prelude.{All, Contains, IfSome}
use Rattle.std.proofs.lemmas.List.Elements.{All-nil, All-push, All-weaker, All-head}
use Rattle.std.proofs.lemmas.List.Elements.{Contains-append_left, Contains-append_right}
use Rattle.std.proofs.Math.Seq.{take-length}
use Rattle.syn_model.specs.Refusal.{Refusal}
use Rattle.syn_model.specs.Archive.{Archive, Kept, Session, archive_of}
use Rattle.syn_machine.specs.Network.{Which, Sent}
use Rattle.syn_runs.specs.World.{Step}
use Rattle.syn_runs.specs.Acknowledged.{Ack, Kept_by, kept_in}
use Rattle.syn_machine.specs.Planning.{Planned}
use Rattle.syn_machine.specs.Report.{Report}
use Rattle.syn_runs.specs.Picture.{Picture, SessionPicture, FollowsAll, nothing_more, one_more}
use Rattle.syn_runs.specs.Picture.{CoordinatorGoes, Reports, IsNext, StartsFrom, GoesOnFrom}
use Rattle.syn_runs.specs.Picture.{ended, goes_on, RunsOver}
use Rattle.syn_runs.specs.Picture as picture
use Rattle.syn_runs.specs.Headline.{IsStart}
use Rattle.syn_runs.proofs.Invariant.{Plans, IsKept}
use Rattle.syn_runs.proofs.CourseLemmas.{Course, beside, starts, ticks, takes, course}
use Rattle.syn_runs.proofs.AdvanceLemmas.{step_advances}
use Rattle.syn_runs.proofs.WholeRuns.{no_plans, start_kept}

abbrev pub WasStarted : List Ack → ℕ → Type 0
WasStarted acks session = Contains acks (Kept_by (Session session))

-- the report is of a session that was started before it
abbrev pub IsOfStarted : List Ack → Report × ℕ → Type 0
IsOfStarted acks one = WasStarted (take one.1 acks) one.0.session

-- all that ran and reported was started
record AllStarted (world : Picture) : Type 0 where
  running : IfSome world.coordinator.running (λ r. WasStarted world.acknowledged r.session)
  reports : All (IsOfStarted world.acknowledged) world.reports

-- what stands among the first of a list stands there still when that grows
taken_more : (n : ℕ) (xs ys : List Ack) (x : Ack) → Contains (take n xs) x →
    Contains (take n (xs ++ ys)) x
taken_more zero xs ys x c = absurd (omega (arith, c.1))
taken_more (suc n) [] ys x c = absurd (omega (arith, c.1))
taken_more (suc n) (first ∷ xs) ys x (zero, h, e) = (zero, omega arith, e)
taken_more (suc n) (first ∷ xs) ys x (suc k, h, e) =
    let rest = taken_more n xs ys x (k, omega (arith, h), e) in
    (suc rest.0, let within = rest.1 in omega (arith, within), rest.2)

reports_more : (acks more : List Ack) (reports : List (Report × ℕ)) →
    All (IsOfStarted acks) reports → All (IsOfStarted (acks ++ more)) reports
reports_more acks more reports all =
    All-weaker (IsOfStarted acks) (IsOfStarted (acks ++ more))
    (λ one started. taken_more one.1 acks more (Kept_by (Session one.0.session)) started)
    reports all

module _ (old new : Picture) (was : AllStarted old) (more : List Ack)
    (grows : new.acknowledged ≡ old.acknowledged ++ more) where
  session_more : (session : ℕ) → WasStarted old.acknowledged session →
      WasStarted new.acknowledged session
  session_more session started = subst (λ acks. WasStarted acks session) (sym grows)
      (Contains-append_left old.acknowledged more (Kept_by (Session session)) started)

  running_more : (o : Option SessionPicture) →
      IfSome o (λ r. WasStarted old.acknowledged r.session) →
      IfSome o (λ r. WasStarted new.acknowledged r.session)
  running_more None started = tt
  running_more (Some r) started = session_more r.session started

  old_reports : All (IsOfStarted new.acknowledged) old.reports
  old_reports = subst (λ acks. All (IsOfStarted acks) old.reports) (sym grows)
      (reports_more old.acknowledged more old.reports was.reports)

  same_reports : new.reports ≡ old.reports → All (IsOfStarted new.acknowledged) new.reports
  same_reports same = subst (All (IsOfStarted new.acknowledged)) (sym same) old_reports

  -- a session goes on under its number
  goes_started : (o now : Option SessionPicture) (plan : List Planned) →
      IfSome o (λ r. WasStarted old.acknowledged r.session) → GoesOnFrom o plan now →
      IfSome now (λ r. WasStarted new.acknowledged r.session)
  goes_started None now plan started none =
      subst (λ o. IfSome o (λ r. WasStarted new.acknowledged r.session)) (sym none) tt
  goes_started (Some r) _ plan started ended = tt
  goes_started (Some r) _ plan started (goes_on next session_is prefers plan_is) =
      subst (WasStarted new.acknowledged) (sym session_is) (session_more r.session started)

  -- and reports under it
  report_started : (plan : List Planned) (Ends_so : SessionPicture → Report → Type 0) →
      ((running : SessionPicture) (report : Report) → Ends_so running report →
      report.session ≡ running.session) → Reports old new plan Ends_so →
      All (IsOfStarted new.acknowledged) new.reports
  report_started plan Ends_so of_session (inl (same, runs)) = same_reports same
  report_started plan Ends_so of_session
      (inr (running, report, was_running, one, ends, counts, none)) =
      let started = subst (λ o. IfSome o (λ r. WasStarted old.acknowledged r.session)) was_running
      was.running in
      subst (All (IsOfStarted new.acknowledged)) (sym one)
      (All-push (IsOfStarted new.acknowledged) old.reports (report, length new.acknowledged)
      old_reports (subst (λ acks. WasStarted acks report.session)
      (sym (take-length new.acknowledged))
      (subst (WasStarted new.acknowledged) (sym (of_session running report ends))
      (session_more running.session started))))

-- a start keeps the number of its session

pub first_kept : (archive : Archive) (kept : List Kept) → All (IsNext archive) kept →
    (session : ℕ) → session ≡ archive.last_session + 1 →
    session ≡ (archive_of archive kept).last_session →
    Contains (map (λ one. Kept_by one) kept) (Kept_by (Session session))
first_kept archive [] due session next last = absurd (omega (arith, next, last))
first_kept archive (one ∷ kept) due session next last =
    let first = All-head (IsNext archive) one kept due in
    (zero, omega arith, ap (λ k. Kept_by k) (first ∙ ap Session (sym next)))

starts_started : (acks : List Ack) (sent : Sent) (archive now : Archive) (kept : List Kept)
    (preference : Option Which) (running : Option SessionPicture) → All (IsNext archive) kept →
    now ≡ archive_of archive kept → StartsFrom preference archive running →
    RunsOver sent now running →
    IfSome running (λ r. WasStarted (acks ++ map (λ one. Kept_by one) kept) r.session)
starts_started acks sent archive now kept preference None due is is_next over = tt
starts_started acks sent archive now kept preference (Some r) due is is_next over =
    Contains-append_right acks (map (λ one. Kept_by one) kept) (Kept_by (Session r.session))
    (first_kept archive kept due r.session is_next.0 (over.0 ∙ ap (λ a. a.last_session) is))

-- Each step keeps it

step_started : (old new : Picture) → AllStarted old → Course old new → AllStarted new
step_started old new was (beside acks added can runs reports logs) = record {
  running = aside runs;
  reports = same_reports old new was acks added reports;
}
  where
    aside : (new.coordinator.running ≡ None)
        ⊎ ((new.coordinator.running ≡ old.coordinator.running) × (filter_map kept_in acks ≡ [])) →
        IfSome new.coordinator.running (λ r. WasStarted new.acknowledged r.session)
    aside (inl none) =
        subst (λ o. IfSome o (λ r. WasStarted new.acknowledged r.session)) (sym none) tt
    aside (inr same) = subst (λ o. IfSome o (λ r. WasStarted new.acknowledged r.session))
        (sym same.0) (running_more old new was acks added old.coordinator.running was.running)
step_started old new was (starts preference g reports) =
    let grows = ap (λ w. w.acknowledged) g.result in record {
      running = subst (λ w. IfSome w.coordinator.running (λ r. WasStarted w.acknowledged r.session))
          (sym g.result) (starts_started old.acknowledged (old.sent ++ g.messages)
          old.coordinator.archive g.machine.archive g.kept preference g.machine.running g.keeps.due
          g.keeps.archive g.runs_on g.runs_over);
      reports = same_reports old new was (map (λ one. Kept_by one) g.kept) grows reports;
    }
step_started old new was (ticks g reports) =
    let grows = ap (λ w. w.acknowledged) g.result in
    let more = map (λ one. Kept_by one) g.kept in record {
      running = subst (λ o. IfSome o (λ r. WasStarted new.acknowledged r.session))
          (sym (ap (λ w. w.coordinator.running) g.result))
          (goes_started old new was more grows old.coordinator.running g.machine.running
          (picture.plan_of old.coordinator.running) was.running g.runs_on);
      reports = report_started old new was more grows (picture.plan_of old.coordinator.running)
          picture.EndsUnanswered (λ running report ends. ends.0) reports;
    }
step_started old new was
    (takes from session number reply plan logged heard expected made g reports) =
    let grows = ap (λ w. w.acknowledged) g.result in
    let more = map (λ one. Kept_by one) g.kept in record {
      running = subst (λ o. IfSome o (λ r. WasStarted new.acknowledged r.session))
          (sym (ap (λ w. w.coordinator.running) g.result))
          (goes_started old new was more grows old.coordinator.running g.machine.running plan
          was.running g.runs_on);
      reports = report_started old new was more grows plan (picture.Ends new plan)
          (λ running report ends. ends.session_is) reports;
    }

-- A whole run

run_started : (plans : Plans) (old new : Picture) → IsKept plans old → AllStarted old →
    {steps : List Step} {told : List Refusal} → FollowsAll old steps told new → AllStarted new
run_started plans old _ k was (nothing_more _) = was
run_started plans old _ k was (one_more _ between new _ _ _ _ g more) =
    let a = step_advances plans old k between g in
    run_started a.later between new a.kept
    (step_started old between was (course plans old k between g)) more

pub reports_started : (old new : Picture) → IsStart old → {steps : List Step}
    {told : List Refusal} → FollowsAll old steps told new →
    All (IsOfStarted new.acknowledged) new.reports
reports_started old new s g = (run_started no_plans old new (start_kept old s) (record {
  running = subst (λ o. IfSome o (λ r. WasStarted old.acknowledged r.session))
      (sym s.coordinator.0) tt;
  reports = subst (All (IsOfStarted old.acknowledged)) (sym s.nothing_yet.2)
      (All-nil (IsOfStarted old.acknowledged));
}) g).reports
