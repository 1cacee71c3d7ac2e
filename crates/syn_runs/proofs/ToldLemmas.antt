-- What a complete report tells of a session without edits.
use Rattle.std.proofs.Common.{◌≡◌, ◌≤◌, ◌+◌, ℕ, true, List, [], ◌∷◌, ◌++◌, filter_map, length, take}
use Rattle.std.proofs.Common.{fold, sym, ap, ap₂, ◌∙◌, subst, Some, arith, inl, inr, ◌≢◌, Option}
use Rattle.std.specs.Prelude.{Contains, All, ◌↔◌, Any}
use Rattle.std.proofs.lemmas.List.{take-append-le, length-append}
use Rattle.std.proofs.lemmas.List.Elements.{All-weaker, Contains-append_cases, Contains-append_left}
use Rattle.std.proofs.Math.Seq.{take-length}
use Rattle.syn_model.specs.Path.{Path}
use Rattle.syn_model.specs.Tree.{IsTree, subtree}
use Rattle.syn_model.specs.Mark.{AreApart}
use Rattle.syn_model.specs.Reconcile.{is_relevant}
use Rattle.syn_model.specs.Event.{Began}
use Rattle.syn_model.specs.History.{History, tree_of}
use Rattle.syn_model.specs.Archive.{Archive, Kept, Session, archive_of}
use Rattle.syn_model.specs.Plan.{HasDepth, most_names, Trees, IsSynchronized, IsReconciled}
use Rattle.syn_model.specs.Plan.{IsConflict}
use Rattle.syn_machine.specs.Side.{Reply}
use Rattle.syn_machine.specs.Network.{Which, Left, Right, Answers}
use Rattle.syn_machine.specs.Planning.{Planned, Log}
use Rattle.syn_runs.specs.Acknowledged.{Ack, kept_in, Stores, history_of, stores_after}
use Rattle.syn_runs.specs.Acknowledged.{kept_in_session, since_start}
use Rattle.syn_machine.specs.Report.{Report, Complete, Incomplete}
use Rattle.syn_runs.specs.Picture.{Counts, IsSettled, Picture, SessionPicture, IsExpected}
use Rattle.syn_runs.specs.Picture.{IsDueAfter, HasPlan, GoesOnFrom, plan_of, AllCanKeep}
use Rattle.syn_runs.specs.Picture.{CoordinatorGoes, Reports, Ends, EndsUnanswered}
use Rattle.syn_runs.specs.Headline.{IsNoEdit, BeganAfter, trees_of, HasCounts, PlansWith}
use Rattle.syn_runs.specs.Headline.{StandsFor, AreMarked}
use Rattle.syn_runs.proofs.Invariant.{Plans, histories_of, IsKept}
use Rattle.syn_runs.proofs.SideRuns.{Advances}
use Rattle.syn_runs.proofs.CourseLemmas.{Course, beside, starts, ticks, takes}
use Rattle.syn_runs.proofs.CompleteLemmas.{IsRecordDue, carried, alike, marked}
use Rattle.syn_runs.proofs.UnderwayLemmas.{IsQuietPlan, IsUnderway, underway_records}
use Rattle.syn_runs.proofs.KeptLemmas.{IsNoSession, since_last}
use Rattle.syn_runs.proofs.ReportLemmas.{synchronized, reconciled, conflicts_reported}
use Rattle.syn_runs.proofs.ReportLemmas.{counts_reported, alike_marked, alike_stays}
use Rattle.syn_runs.proofs.WatchLemmas.{all_kept, RunsWell, plan_then, due_then, goes_kept}
use Rattle.syn_model.proofs.BaseLemmas.{contains_one}

-- what the report of a session is worth that kept this before it began
abbrev pub IsWorth : Option Which → Stores → List Ack → Report → List Kept → Type 0
IsWorth preference before acks report earlier =
    (found : Stores) → found.archive ≡ archive_of before.archive earlier →
    BeganAfter report.session found.left (stores_after before acks).left →
    BeganAfter report.session found.right (stores_after before acks).right →
    (AreApart (tree_of found.left) (tree_of found.right) →
    IsSynchronized preference (trees_of found) (trees_of (stores_after before acks)))
    × IsReconciled preference (trees_of found) (trees_of (stores_after before acks))
    × ((path : Path) → Contains report.conflicts path
    ↔ IsConflict preference (tree_of found.left) (tree_of found.right) found.archive.marks path)
    × ((path : Path) → is_relevant (tree_of found.left) (tree_of found.right) path ≡ true →
    subtree (tree_of found.left) path ≡ subtree (tree_of found.right) path →
    AreMarked (stores_after before acks) path (subtree (tree_of found.left) path))
    × HasCounts preference found report

pub record IsTold (before : Stores) (log : Log) (acks : List Ack) (report : Report) : Type 0 where
  pub preference : Option Which
  pub logged : PlansWith log report.session preference
  pub earlier : List Kept
  pub records : List Kept
  pub kept_is : filter_map kept_in acks ≡ earlier ++ Session report.session ∷ records
  pub worth : IsWorth preference before acks report earlier

not_any : (log : Log) (session : ℕ) → All (λ made. made.session ≢ session) log →
    Any (λ made. made.session ≡ session) log → ⊥
not_any log session none (k, made, within, at, is) =
    none k made within (ap (λ found. found.session) at ∙ is)

no_session : (plan : List Planned) (w : Picture) (kept : Kept) →
    IsRecordDue plan (histories_of w) kept → IsNoSession kept
no_session plan w _ (carried side item planned path at writes reached touched) = tt
no_session plan w _ (alike item planned path at kind) = tt
no_session plan w _ (marked item planned path at kind) = tt

module _ (before : Stores) (whole : IsTree before.archive.marks)
    (shallow : HasDepth most_names before.archive.marks) (plans : Plans) (old new : Picture)
    (k : IsKept plans old) (stands : StandsFor before old) (stands_then : StandsFor before new)
    (runs : RunsWell before.archive old old.coordinator.running)
    (can : AllCanKeep before.archive (all_kept new)) where
  module _ (r : SessionPicture) (e : old.coordinator.running ≡ Some r) (from : Which)
      (session number : ℕ)
      (reply : Reply) (plan : List Planned) (logged : Log)
      (heard : Contains old.sent (Answers from session number reply))
      (expected : IsExpected (Some r) from session number)
      (made : HasPlan old.sent old.coordinator.archive old.log (Some r) plan logged)
      (g : CoordinatorGoes old logged (IsDueAfter (Some r) plan from number reply)
      (GoesOnFrom (Some r) plan) new) (report : Report) (ends : Ends new plan r report)
      (counts : Counts plan (kept_in_session new.acknowledged) report)
      (complete : report.end ≡ Complete) where
    planned : IsUnderway (old.log ++ logged) before.archive (histories_of old) old.sent
        (all_kept old) r.session plan
    planned =
        plan_then before plans old new k stands runs r e from session number reply plan logged heard
        expected made

    due : All (IsRecordDue plan (histories_of old)) g.kept
    due =
        due_then before plans old new k stands runs r e from session number reply plan logged heard
        expected made g.kept g.keeps.due

    quiet_made : IsQuietPlan (old.log ++ logged) old.sent (histories_of old) r.session
        (archive_of before.archive planned.earlier).marks plan
    quiet_made =
        elim planned.planned as (λ _. IsQuietPlan (old.log ++ logged) old.sent (histories_of old)
        r.session
        (archive_of before.archive planned.earlier).marks plan) [
          | inl none ↦ absurd
              (not_any new.log r.session (subst (All (λ made. made.session ≢ r.session))
              (sym (ap (λ w. w.log) g.result)) none) (ends.made (ends.complete complete).0))
          | inr is ↦ is
        ]

    abbrev after : IsUnderway (old.log ++ logged) before.archive (histories_of old) old.sent
        (all_kept new) r.session plan
    after =
        let more = underway_records (old.log ++ logged) before.archive (histories_of old) old.sent
        (all_kept old) g.kept r.session plan due planned in
        record {
          earlier = more.earlier;
          records = more.records;
          kept_is =
              goes_kept before plans old new k stands runs logged
              (IsDueAfter (Some r) plan from number reply) (GoesOnFrom (Some r) plan) g
              ∙ more.kept_is;
          due = more.due;
          events = more.events;
          planned = more.planned;
        }

    since : kept_in_session new.acknowledged ≡ after.records
    since =
        ap (fold since_start []) after.kept_is ∙ since_last after.earlier after.records r.session
        (All-weaker (IsRecordDue plan (histories_of old)) IsNoSession
        (no_session plan old) after.records after.due)

    settled_then : All (λ planned. IsSettled after.records report planned.item) plan
    settled_then =
        subst (λ kept. All (λ planned. IsSettled kept report planned.item) plan) since
        (ends.settled (ends.complete complete).0)

    history_then : (side : Which) →
        histories_of old side ≡ history_of (stores_after before new.acknowledged) side
    history_then Left = sym (ap (λ w. histories_of w Left) g.result) ∙ stands_then.left
    history_then Right = sym (ap (λ w. histories_of w Right) g.result) ∙ stands_then.right

    module _ (found : Stores)
        (left : BeganAfter r.session found.left (stores_after before new.acknowledged).left)
        (right : BeganAfter r.session found.right (stores_after before new.acknowledged).right)
      where
        abbrev later : Which → History
        later Left = left.later
        later Right = right.later

        split : (side : Which) →
            histories_of old side ≡ history_of found side ++ Began r.session ∷ later side
        split Left = history_then Left ∙ left.begun
        split Right = history_then Right ∙ right.begun

        quiet : (side : Which) → All IsNoEdit (later side)
        quiet Left = left.no_edit
        quiet Right = right.no_edit

        abbrev found_archive : Archive
        found_archive = archive_of before.archive planned.earlier

        abbrev found_trees : Trees
        found_trees =
            record {
              left = tree_of found.left;
              right = tree_of found.right;
              archive = found_archive.marks;
            }

        trees_then : record {
          left = tree_of (histories_of old Left);
          right = tree_of
              (histories_of old Right);
          archive = (archive_of before.archive (all_kept new)).marks;
        }
            ≡ trees_of (stores_after before new.acknowledged)
        trees_then =
            ap₂ (λ h k. record {
              left = tree_of h;
              right = tree_of k;
              archive = (archive_of before.archive (all_kept new)).marks;
            }) (history_then Left)
            (history_then Right)

        synchronizes : AreApart (tree_of found.left) (tree_of found.right) →
            IsSynchronized quiet_made.scans.preference found_trees
            (trees_of (stores_after before new.acknowledged))
        synchronizes apart = subst (IsSynchronized quiet_made.scans.preference found_trees)
            trees_then
            (synchronized (old.log ++ logged) before.archive whole shallow plans
            (histories_of old) old.coordinator.archive old.sent k.sound
            (all_kept new) can r.session plan after quiet_made report settled_then
            (ends.complete complete).1 (ends.conflicts (ends.complete complete).0)
            (history_of found) later split quiet apart)

        reconciles : IsReconciled quiet_made.scans.preference found_trees
            (trees_of (stores_after before new.acknowledged))
        reconciles = subst (IsReconciled quiet_made.scans.preference found_trees) trees_then
            (reconciled (old.log ++ logged) before.archive whole shallow plans
            (histories_of old) old.coordinator.archive old.sent k.sound
            (all_kept new) can r.session plan after quiet_made report settled_then
            (ends.complete complete).1 (ends.conflicts (ends.complete complete).0)
            (history_of found) later split quiet)

        has_conflicts : (path : Path) → Contains report.conflicts path
            ↔ IsConflict quiet_made.scans.preference (tree_of found.left) (tree_of found.right)
            found_archive.marks path
        has_conflicts =
            conflicts_reported (old.log ++ logged) before.archive whole shallow plans
            (histories_of old) old.coordinator.archive old.sent k.sound
            (all_kept new) can r.session plan after quiet_made report settled_then
            (ends.complete complete).1 (ends.conflicts (ends.complete complete).0)
            (history_of found) later split quiet

        has_counts : HasCounts quiet_made.scans.preference
            (record { left = found.left; right = found.right; archive = found_archive }) report
        has_counts =
            counts_reported (old.log ++ logged) before.archive whole shallow plans
            (histories_of old) old.coordinator.archive old.sent k.sound
            (all_kept new) can r.session plan after quiet_made report settled_then
            (ends.complete complete).1 (ends.conflicts (ends.complete complete).0)
            (history_of found) later split quiet
            (subst (λ kept. Counts plan kept report) since counts)

        has_marked : (path : Path) →
            is_relevant (tree_of found.left) (tree_of found.right) path ≡ true →
            subtree (tree_of found.left) path ≡ subtree (tree_of found.right) path →
            AreMarked (stores_after before new.acknowledged) path
            (subtree (tree_of found.left) path)
        has_marked path relevant same = record {
          sides =
              λ which. ap (λ h. subtree (tree_of h) path) (sym (history_then which))
              ∙ alike_stays (old.log ++ logged) before.archive whole shallow plans
              (histories_of old) old.coordinator.archive old.sent k.sound
              (all_kept new) can r.session plan after quiet_made report settled_then
              (ends.complete complete).1 (ends.conflicts (ends.complete complete).0)
              (history_of found) later split quiet which path same;
          archive =
              alike_marked (old.log ++ logged) before.archive whole shallow plans
              (histories_of old) old.coordinator.archive old.sent k.sound
              (all_kept new) can r.session plan after quiet_made report settled_then
              (ends.complete complete).1 (ends.conflicts (ends.complete complete).0)
              (history_of found) later split quiet path relevant same;
        }

    is_worth : IsWorth quiet_made.scans.preference before new.acknowledged report planned.earlier
    is_worth found archive_is left right =
        let l = subst (λ s. BeganAfter s found.left (stores_after before new.acknowledged).left)
        ends.session_is left in
        let h = subst (λ s. BeganAfter s found.right (stores_after before new.acknowledged).right)
        ends.session_is right in (
          λ apart. subst (λ a. IsSynchronized quiet_made.scans.preference
              (record { left = tree_of found.left; right = tree_of found.right; archive = a.marks })
              (trees_of (stores_after before new.acknowledged))) (sym archive_is)
              (synchronizes found l h apart),
          subst (λ a. IsReconciled quiet_made.scans.preference (record {
            left = tree_of found.left;
            right = tree_of found.right;
            archive = a.marks;
          }) (trees_of (stores_after before new.acknowledged))) (sym archive_is)
              (reconciles found l h),
          subst (λ a. (path : Path) → Contains report.conflicts path
              ↔ IsConflict quiet_made.scans.preference (tree_of found.left) (tree_of found.right)
              a.marks path) (sym archive_is)
              (has_conflicts found l h),
          has_marked found l h,
          subst (λ a. HasCounts quiet_made.scans.preference (record
              { left = found.left; right = found.right; archive = a })
              report) (sym archive_is) (has_counts found l h),
        )

    tells : IsTold before new.log new.acknowledged report
    tells = record {
      preference = quiet_made.scans.preference;
      logged =
          subst (λ log. PlansWith log report.session quiet_made.scans.preference)
          (sym (ap (λ w. w.log) g.result))
          (subst (λ n. PlansWith (old.log ++ logged) n quiet_made.scans.preference)
          (sym ends.session_is) quiet_made.logged);
      earlier = after.earlier;
      records = after.records;
      kept_is =
          after.kept_is ∙ ap (λ s. after.earlier ++ Session s ∷ after.records)
          (sym ends.session_is);
      worth = is_worth;
    }

-- and so as more is logged
told_more : (before : Stores) (log more new : Log) → new ≡ log ++ more → (acks : List Ack)
    (report : Report) → IsTold before log acks report → IsTold before new acks report
told_more before log more new is acks report told = record {
  preference = told.preference;
  logged = record {
    made = told.logged.made;
    logged =
        subst (λ log. Contains log told.logged.made) (sym is)
        (Contains-append_left log more told.logged.made told.logged.logged);
    of_session = told.logged.of_session;
    prefers = told.logged.prefers;
  };
  earlier = told.earlier;
  records = told.records;
  kept_is = told.kept_is;
  worth = told.worth;
}

-- each complete report tells this
abbrev pub AllTold : Stores → Picture → Type 0
AllTold before world =
    (report : Report) (acks : ℕ) → Contains world.reports (report, acks) → report.end ≡ Complete →
    (acks ≤ length world.acknowledged) × IsTold before world.log (take acks world.acknowledged)
    report

not_complete : Complete ≡ Incomplete → ⊥
not_complete e = cc

module _ (before : Stores) (whole : IsTree before.archive.marks)
    (shallow : HasDepth most_names before.archive.marks) (plans : Plans) (old new : Picture)
    (k : IsKept plans old) (stands : StandsFor before old) (stands_then : StandsFor before new)
    (runs : RunsWell before.archive old old.coordinator.running)
    (can : AllCanKeep before.archive (all_kept new)) (a : Advances plans old new)
    (told : AllTold before old) where
  -- what was reported before
  told_before : (report : Report) (acks : ℕ) →
      Contains old.reports (report, acks) → report.end ≡ Complete →
      (acks ≤ length new.acknowledged) × IsTold before new.log (take acks new.acknowledged) report
  told_before report acks c complete =
      let was = told report acks c complete in
      let within : acks ≤ length old.acknowledged = was.0 in
      let longer : length new.acknowledged ≡ length old.acknowledged + length a.acks =
      ap length a.acknowledges ∙ length-append old.acknowledged a.acks in (
        omega (arith, within, longer),
        subst (λ w. IsTold before new.log w report)
            (sym (ap (take acks) a.acknowledges
            ∙ take-append-le acks old.acknowledged a.acks within))
            (told_more before old.log a.logged new.log a.logs (take acks old.acknowledged) report
            was.1),
      )

  -- what is reported now
  told_now : (last : Report) → new.reports ≡ old.reports ++ (last, length new.acknowledged) ∷ [] →
      (last.end ≡ Complete → IsTold before new.log new.acknowledged last) → AllTold before new
  told_now last e tell report acks c complete =
      elim (Contains-append_cases old.reports ((last, length new.acknowledged) ∷ []) (report, acks)
      (subst (λ w. Contains w (report, acks)) e c)) as (λ _. (acks ≤ length new.acknowledged)
      × IsTold before new.log (take acks new.acknowledged) report) [
        | inl earlier ↦ told_before report acks earlier complete
        | inr here ↦
            let one = contains_one {X = Report × ℕ} (last, length new.acknowledged)
            (report, acks) here in
            let report_is : last ≡ report = ap (λ p. p.0) one in
            let acks_is : length new.acknowledged ≡ acks = ap (λ p. p.1) one in (
              omega (arith, acks_is),
              subst (λ w. IsTold before new.log w report) (sym
                  (ap (λ n. take n new.acknowledged) (sym acks_is) ∙ take-length new.acknowledged))
                  (subst (IsTold before new.log new.acknowledged) report_is
                  (tell (ap (λ q. q.end) report_is ∙ complete))),
            )
      ]

  told_still : new.reports ≡ old.reports → AllTold before new
  told_still e report acks c complete =
      told_before report acks (subst (λ w. Contains w (report, acks)) e c) complete

  told_ticks : Reports old new (plan_of old.coordinator.running) EndsUnanswered → AllTold before new
  told_ticks (inl (e, on)) = told_still e
  told_ticks (inr (running, report, runs, e, ends, counts, over)) =
      told_now report e (λ complete. absurd (not_complete (sym complete ∙ ends.1)))

  told_takes : (from : Which) (session number : ℕ) (reply : Reply) (plan : List Planned)
      (logged : Log) → Contains old.sent (Answers from session number reply) →
      IsExpected old.coordinator.running from session number →
      HasPlan old.sent old.coordinator.archive old.log old.coordinator.running plan logged →
      CoordinatorGoes old logged (IsDueAfter old.coordinator.running plan from number reply)
      (GoesOnFrom old.coordinator.running plan) new → Reports old new plan (Ends new plan) →
      AllTold before new
  told_takes from session number reply plan logged heard expected made g (inl (e, on)) =
      told_still e
  told_takes from session number reply plan logged heard expected made g
      (inr (running, report, is, e, ends, counts, over)) =
      told_now report e (λ complete.
      tells before whole shallow plans old new k stands stands_then runs can running is from session
      number reply plan logged heard
      (subst (λ o. IsExpected o from session number) is expected)
      (subst (λ o. HasPlan old.sent old.coordinator.archive old.log o plan logged) is made)
      (subst (λ o. CoordinatorGoes old logged (IsDueAfter o plan from number reply)
      (GoesOnFrom o plan) new) is g) report ends counts complete)

  pub all_told : Course old new → AllTold before new
  all_told (beside acks added more runs_on reports logs) = told_still reports
  all_told (starts preference g reports) = told_still reports
  all_told (ticks g reports) = told_ticks reports
  all_told (takes from session number reply plan logged heard expected made g reports) =
      told_takes from session number reply plan logged heard expected made g reports
