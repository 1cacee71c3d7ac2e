-- What each report of a run tells.
use Rattle.std.proofs.Common.{◌≡◌, ◌≢◌, ◌⊎◌, ◌∙◌, ◌==◌, ℕ, zero, suc, Bool, true, false, not}
use Rattle.std.proofs.Common.{◌&&◌, List}
use Rattle.std.proofs.Common.{[], ◌∷◌, Option, Some, None, refl, sym}
use Rattle.std.proofs.Common.{ap, subst, arith, true≢false, inl, inr, take, filter_map}
use Rattle.std.specs.List.{count_by}
use Rattle.std.proofs.lemmas.Bool.Decides.{nat_tests}
use Rattle.std.specs.Prelude.{◌↔◌, All, Contains, IfSome, IsSome, if◌then◌else◌}
use Rattle.std.specs.Option.{option_map_or}
use Rattle.std.proofs.lemmas.List.Elements.{All-nil, All-cons, All-weaker}
use Rattle.std.proofs.lemmas.List.Elements.{Contains-append_right}
use Rattle.std.proofs.Common.{drop, append-nil}
use Rattle.std.proofs.lemmas.List.{take-append-drop}
use Rattle.std.proofs.lemmas.Option.{none-some}
use Rattle.std.specs.Prelude.{AllPairs}
use Rattle.syn_runs.proofs.EarlyLemmas.{entry_is}
use Rattle.syn_runs.specs.Picture.{Counts}
use Rattle.syn_runs.proofs.Invariant.{plan_in}
use Rattle.syn_model.specs.Refusal.{Refusal}
use Rattle.syn_model.specs.Path.{Path}
use Rattle.syn_model.specs.Archive.{Kept}
use Rattle.syn_machine.specs.Network.{Sent}
use Rattle.syn_machine.specs.Planning.{Planned, Log, SessionPlan}
use Rattle.syn_machine.specs.Report.{Report, Complete, Incomplete, is_kept, is_carrying}
use Rattle.syn_machine.specs.Report.{is_marking, conflict_at}
use Rattle.syn_machine.specs.Coordinator.{Running, report_of, plan_of, is_whole, took_not_dir}
use Rattle.syn_runs.specs.Reported.{IsReportOf, IsPlanned, EndsSo, IsSettledBy, through}
use Rattle.syn_runs.specs.Reported.{with_answer, at_record, unanswered, out_of_memory}
use Rattle.syn_runs.specs.Reported.{HasUnstable, IsRefusedFor}
use Rattle.syn_runs.proofs.HeardLemmas.{whole_parts}
use Rattle.syn_promise.specs.Sessions.{Tells, TellsOf, IsRefusable, IsStable, with_plan}
use Rattle.syn_promise.specs.Sessions.{without_plan}
use Rattle.syn_promise.proofs.ApartLemmas.{AreApart, none_refused}
use Rattle.syn_model.specs.Decision.{path_of}
use Rattle.std.specs.Prelude.{slice_index_or}

-- a complete report is of a session that nothing ended, with no item refused and no path unstable

is_complete : (whole : Bool) → (if whole then Complete else Incomplete) ≡ Complete → whole ≡ true
is_complete true e = refl
is_complete false e = cc

both : (a b : Bool) → (a && b) ≡ true → (a ≡ true) × (b ≡ true)
both true b e = (refl, e)
both false b e = cc

not_true : (b : Bool) → not b ≡ true → b ≡ true → ⊥
not_true true e f = cc
not_true false e f = cc

no_path : (paths : List Path) → ((path : Path) → Contains paths path → ⊥) → paths ≡ []
no_path [] none = refl
no_path (path ∷ paths) none = absurd (none path (0, omega arith, refl))

-- the log has an entry of the session, with the plan that it has for it; or none
abbrev FindsEntry : ℕ → Log → List Planned → Type 0
FindsEntry session log plan = ((made : SessionPlan) × Contains log made
    × (made.session ≡ session) × (plan ≡ made.plan)) ⊎ All (λ made. made.session ≢ session) log

find_entry : (log : Log) (session : ℕ) → FindsEntry session log (plan_in log session)
find_entry [] session = inr (All-nil (λ (made : SessionPlan). made.session ≢ session))
find_entry (first ∷ log) session =
    by (first.session == session) refl (find_entry log session)
  where
    by : (b : Bool) → (first.session == session) ≡ b →
        FindsEntry session log (plan_in log session) →
        FindsEntry session (first ∷ log) (if b then first.plan else plan_in log session)
    by true same rest =
        inl (first, (zero, omega arith, refl), grind (arith, nat_tests), refl)
    by false same (inl (made, there, of_session, plan)) =
        inl (made, Contains-append_right (first ∷ []) log made there, of_session, plan)
    by false same (inr none) = inr (All-cons (λ made. made.session ≢ session) first log
        (other same) none)
      where
        other : (first.session == session) ≡ false → first.session ≢ session
        other differs = grind (arith, nat_tests)

-- the log has this plan for the session
pub entry_plan : (log : Log) → AllPairs (λ earlier later. earlier.session ≢ later.session) log →
    (session : ℕ) (made : SessionPlan) → Contains log made → made.session ≡ session →
    plan_in log session ≡ made.plan
entry_plan log once session made there of_session = by (find_entry log session)
  where
    by : FindsEntry session log (plan_in log session) → plan_in log session ≡ made.plan
    by (inl (other, also, other_session, plan)) = plan ∙ ap (λ made. made.plan)
        (entry_is log made once there other also (other_session ∙ sym of_session))
    by (inr others) = absurd (subst (λ made. made.session ≢ session) there.2
        (others there.0 _ there.1) of_session)

take_none : (n : ℕ) (plan : List Planned) → plan ≡ [] → take n plan ≡ []
take_none zero plan none = refl
take_none (suc n) [] none = refl
take_none (suc n) (one ∷ plan) none = cc

module _ (sent : Sent) (log : Log) (kept : List Kept) (running : Running)
    (ended : Option Refusal) (is : IsReportOf sent log kept running ended)
    (counted : Counts (plan_in log running.session) kept (report_of running ended))
    (once : AllPairs (λ earlier later. earlier.session ≢ later.session) log)
    (conflicts : ended ≡ None → (report_of running ended).conflicts
    ≡ filter_map (λ planned. conflict_at planned.item) (plan_in log running.session))
    (apart : AreApart running.kept running.refused)
    (refusable : (made : SessionPlan) → Contains log made → made.session ≡ running.session →
    (one : Refusal × Path) → IsRefusedFor made running.taken running.kept one →
    IsRefusable made.plan one.1) where
  abbrev report : Report
  report = report_of running ended

  whole : report.end ≡ Complete → (ended ≡ None) × (running.refused ≡ [])
      × (took_not_dir running ≡ true → ⊥)
  whole complete =
      let parts = whole_parts running ended complete in
      let all = is_complete (is_whole running ended) complete in
      (parts.0, parts.1, not_true (took_not_dir running) (both _ _ all).1)

  ends_through : (end : Option Refusal) → EndsSo sent running end → end ≡ None →
      IsSome running.plan × All (IsSettledBy running.kept running.refused) (plan_of running)
  ends_through _ (through planned settled) none = (planned, settled)
  ends_through _ (with_answer exchange why was fault) none = cc
  ends_through _ (at_record planned exchange what why at taken due one) none = cc
  ends_through _ (unanswered resent) none = cc
  ends_through _ out_of_memory none = cc

  refused_so : (plan : Option (List Planned)) → running.plan ≡ plan →
      IfSome plan (IsPlanned log running) →
      All (λ one. IsRefusable (plan_of running) one.1) running.refused
  refused_so (Some plan) at planned =
      let same : plan_of running ≡ planned.made.plan =
      ap (λ o. option_map_or (λ p. p) o []) at ∙ sym planned.plan_is in
      subst (λ p. All (λ one. IsRefusable p one.1) running.refused) (sym same)
      (All-weaker (IsRefusedFor planned.made running.taken running.kept)
      (λ one. IsRefusable planned.made.plan one.1) (refusable planned.made planned.logged
      planned.of_session) running.refused
      planned.refused)
  refused_so None at planned =
      subst (All (λ one. IsRefusable (plan_of running) one.1)) (sym (is.unplanned at))
      (All-nil (λ one. IsRefusable (plan_of running) one.1))

  -- no item is both recorded and refused
  apart_in : (plan : List Planned) → All (λ planned. is_kept running.kept planned.item ≡ true →
      All (λ refused. refused.1 ≢ path_of planned.item) running.refused) plan
  apart_in plan i planned within =
      none_refused running.kept running.refused (slice_index_or plan i planned).item apart

  -- it came past the items before its cursor; and past all, where nothing ended it
  tells_part : (ended ≢ None) → TellsOf (plan_of running) running.kept report
  tells_part early = record {
    passed = take running.cursor (plan_of running);
    rest = drop running.cursor (plan_of running);
    parts = sym (take-append-drop running.cursor (plan_of running));
    to_the_end = λ none. absurd (early none);
    settled = is.settled;
    not_both = apart_in (plan_of running);
    refused = refused_so running.plan refl is.planned;
    conflicts = refl;
    done = refl;
    marked = refl;
  }

  tells_all : ended ≡ None → plan_in log running.session ≡ plan_of running →
      TellsOf (plan_of running) running.kept report
  tells_all none plan_is = record {
    passed = plan_of running;
    rest = [];
    parts = sym (append-nil (plan_of running));
    to_the_end = λ _. refl;
    settled = (ends_through ended is.ends none).1;
    not_both = apart_in (plan_of running);
    refused = refused_so running.plan refl is.planned;
    conflicts = conflicts none ∙ ap (filter_map (λ planned. conflict_at planned.item)) plan_is;
    done = refl;
    marked = refl;
  }

  tells_kept : plan_in log running.session ≡ plan_of running →
      TellsOf (plan_of running) running.kept report
  tells_kept plan_is = by ended refl
    where
      by : (end : Option Refusal) → ended ≡ end → TellsOf (plan_of running) running.kept report
      by None none = tells_all none plan_is
      by (Some why) some = tells_part (λ none. none-some _ (sym none ∙ some))

  abbrev Tells_so : Type 0
  Tells_so = TellsOf (plan_of running) kept report

  tells : plan_in log running.session ≡ plan_of running → Tells_so
  tells plan_is = subst (λ k. TellsOf (plan_of running) k report) (sym is.kept_is)
      (tells_kept plan_is)

  early : running.plan ≡ None → ended ≢ None
  early none e =
      let some : IsSome {T = List Planned} None = subst IsSome none
      (ends_through ended is.ends e).0 in
      absurd (true≢false (sym some))

  incomplete : (o : Option Refusal) → o ≢ None → (running : Running) →
      (report_of running o).end ≡ Incomplete
  incomplete None some running = absurd (some refl)
  incomplete (Some why) some running = refl

  complete_where : (made : SessionPlan) → (took_not_dir running ≡ true) ↔ HasUnstable made →
      (report.end ≡ Complete) ↔ ((report.ended ≡ None) × (report.refused ≡ []) × IsStable made)
  complete_where made unstable = (
    λ complete. let all = whole complete in (
      all.0,
      all.1,
      λ side. no_path (made.scan side).unstable
          (λ path at. all.2 (unstable.1 (side, path, at))),
    ),
    λ all. by all.0 all.1 all.2 (took_not_dir running) refl,
  )
    where
      by : ended ≡ None → running.refused ≡ [] → IsStable made → (b : Bool) →
          took_not_dir running ≡ b → report.end ≡ Complete
      by none nothing stable false is =
          ap (λ end. (report_of running end).end) none
          ∙ (ap (λ refused. (report_of (record running { refused = refused }) None).end) nothing
          ∙ ap (λ b. if not b then Complete else Incomplete) is)
      by none nothing stable true is =
          let has = unstable.0 is in
          absurd (in_none (subst (λ paths. Contains paths has.1) (stable has.0) has.2))
        where
          in_none : {path : Path} → Contains [] path → ⊥
          in_none c = omega (arith, c.1)

  by_plan : (plan : Option (List Planned)) → running.plan ≡ plan →
      IfSome plan (IsPlanned log running) → Tells log kept report
  by_plan (Some plan) at planned =
      let same : plan_of running ≡ planned.made.plan =
      ap (λ o. option_map_or (λ p. p) o []) at ∙ sym planned.plan_is in
      with_plan planned.made planned.logged planned.of_session
      (subst (λ p. TellsOf p kept report) same (tells (entry_plan log once running.session
      planned.made planned.logged planned.of_session ∙ sym same)))
      (complete_where planned.made planned.unstable)
  by_plan None at planned = by (find_entry log running.session)
    where
      never : Complete ≢ Incomplete
      never e = cc

      none_of : plan_of running ≡ []
      none_of = ap (λ o. option_map_or (λ p. p) o []) at

      by : ((made : SessionPlan) × Contains log made × (made.session ≡ running.session)
          × (plan_in log running.session ≡ made.plan))
          ⊎ All (λ made. made.session ≢ running.session) log → Tells log kept report
      by (inl (made, there, of_session, plan)) = with_plan made there of_session (record {
        passed = [];
        rest = made.plan;
        parts = refl;
        to_the_end = λ none. absurd (early at none);
        settled = All-nil (IsSettledBy kept report.refused);
        not_both = subst (λ kept. All (λ planned. is_kept kept planned.item ≡ true →
            All (λ refused. refused.1 ≢ path_of planned.item) report.refused) made.plan)
            (sym is.kept_is) (apart_in made.plan);
        refused = subst (All (λ one. IsRefusable made.plan one.1)) (sym (is.unplanned at))
            (All-nil (λ one. IsRefusable made.plan one.1));
        conflicts = ap (filter_map (λ planned. conflict_at planned.item))
            (take_none running.cursor (plan_of running) none_of);
        done = counted.done ∙ ap (λ plan. count_by
            (λ planned. is_carrying planned.item && is_kept kept planned.item) plan) plan;
        marked = counted.marked ∙ ap (λ plan. count_by
            (λ planned. is_marking planned.item && is_kept kept planned.item) plan) plan;
      }) (
        λ complete. absurd (never (sym complete ∙ incomplete ended (early at) running)),
        λ all. absurd (early at all.0),
      )
      by (inr others) =
          without_plan others (subst (λ p. TellsOf p kept report) none_of
          (subst (λ k. TellsOf (plan_of running) k report) (sym is.kept_is)
          (tells_part (early at))))
          (early at)
          (incomplete ended (early at) running)

  pub report_tells : Tells log kept report
  report_tells = by_plan running.plan refl is.planned
