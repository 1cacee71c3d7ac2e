-- What the sessions of whole runs leave.
use Rattle.std.proofs.Common.{true, ◌≡◌, ◌+◌, List, [], ◌∷◌, ◌++◌, filter_map, take, drop, refl}
use Rattle.std.proofs.Common.{sym, ap, ◌∙◌, subst, Some, None, option_map, append_assoc, arith}
use Rattle.std.specs.Prelude.{IfSome, All, Contains, ◌↔◌, ◌<◌}
use Rattle.std.specs.FinMap.{get}
use Rattle.std.proofs.lemmas.List.{take-append-drop}
use Rattle.std.proofs.lemmas.List.Elements.{All-nil, filter_map-append}
use Rattle.std.proofs.lemmas.Option.{none-some}
use Rattle.syn_model.specs.Path.{Path}
use Rattle.syn_model.specs.Tree.{IsTree, subtree}
use Rattle.syn_model.specs.Mark.{mark_of, AreApart}
use Rattle.syn_model.specs.Reconcile.{is_relevant}
use Rattle.syn_model.specs.Event.{Began}
use Rattle.syn_model.specs.History.{History, IsHistory, tree_of, tree_at}
use Rattle.syn_model.specs.Archive.{Session, archive_of}
use Rattle.syn_model.specs.Plan.{IsSynchronized, IsReconciled, IsConflict, HasDepth, most_names}
use Rattle.syn_runs.specs.World.{Step}
use Rattle.syn_model.specs.Refusal.{Refusal}
use Rattle.syn_machine.specs.Network.{Which, Left, Right}
use Rattle.syn_runs.specs.Acknowledged.{Ack, Kept_by, event_at, kept_in, Stores, history_of}
use Rattle.syn_runs.specs.Acknowledged.{stores_after}
use Rattle.syn_machine.specs.Report.{Report}
use Rattle.syn_runs.specs.Picture.{Picture, AllCanKeep, FollowsAll, nothing_more, one_more}
use Rattle.syn_runs.specs.Picture.{stores_of}
use Rattle.syn_runs.specs.Headline.{IsPair, BeganAfter, IsQuietSession, trees_of, HasCounts}
use Rattle.syn_runs.specs.Headline.{IsStart, StandsFor, CompleteSessionsSynchronize}
use Rattle.syn_runs.specs.Headline.{CompleteSessionsReconcile, ReportsItsConflicts}
use Rattle.syn_runs.specs.Headline.{CountsItsItems, AreMarked}
use Rattle.syn_runs.proofs.PictureRuns.{OfEachRun}
use Rattle.syn_runs.proofs.Invariant.{Plans, histories_of, IsKept}
use Rattle.syn_model.proofs.MarkLemmas.{get-mark}
use Rattle.syn_model.proofs.FitsLemmas.{replica_depth}
use Rattle.syn_runs.proofs.StagedLemmas.{tree_at_fits, all_front}
use Rattle.syn_runs.proofs.WorldLemmas.{step_stands, run_stands}
use Rattle.syn_runs.proofs.AdvanceLemmas.{step_advances}
use Rattle.syn_runs.proofs.WholeRuns.{no_plans, start_kept, start_stands, run_kept}
use Rattle.syn_runs.proofs.KeptLemmas.{one_start}
use Rattle.syn_runs.proofs.CourseLemmas.{course}
use Rattle.syn_runs.proofs.EarlyLemmas.{IsEarly, early_then}
use Rattle.syn_runs.proofs.WatchLemmas.{all_kept, RunsWell, runs_well, all_can}
use Rattle.syn_runs.proofs.ToldLemmas.{IsTold, AllTold, all_told}

-- what was kept could be, and each complete report tells what it should
pub record IsWatched (before : Stores) (world : Picture) : Type 0 where
  pub can : AllCanKeep before.archive (all_kept world)
  pub told : AllTold before world
  pub early : IsEarly before world

run_watched : (before : Stores) → IsTree before.archive.marks →
    HasDepth most_names before.archive.marks → (plans : Plans) (old new : Picture) →
    IsKept plans old → StandsFor before old → RunsWell before.archive old old.coordinator.running →
    IsWatched before old → {steps : List Step} {told : List Refusal} →
    FollowsAll old steps told new → IsWatched before new
run_watched before whole shallow plans old _ k stands runs w (nothing_more _) = w
run_watched before whole shallow plans old _ k stands runs w
    (one_more _ between new _ _ _ _ g more) =
    let a = step_advances plans old k between g in
    let c = course plans old k between g in
    let stands_then = step_stands before old between stands g in
    let can = all_can before plans old between k stands runs w.can c in
    run_watched before whole shallow a.later between new a.kept stands_then
    (runs_well before plans old between k stands runs a c)
    (record {
      can = can;
      told = all_told before whole shallow plans old between k stands stands_then
          runs can a w.told c;
      early = early_then before plans old between k stands w.can a w.early c;
    })
    more

-- what both sides held has no path that is longer than a path may be
pair_depth : (stores : Stores) → IsPair stores → HasDepth most_names stores.archive.marks
pair_depth stores pair path deep =
    elim (get stores.archive.marks path) as (λ o. get stores.archive.marks path ≡ o → o ≡ None) [
      | None ↦ λ _. refl
      | Some content ↦ λ has.
          let held = (pair.held path content has).0 in
          let none = replica_depth (tree_at stores.left held.0)
          (tree_at_fits stores.left held.0 pair.left) path deep in
          absurd (none-some _
          (sym (get-mark (tree_at stores.left held.0) path ∙ ap (option_map mark_of) none)
          ∙ held.2))
    ] refl

start_watched : (old : Picture) → IsStart old → IsWatched (stores_of old) old
start_watched old s = record {
  can =
      subst (λ acks. AllCanKeep old.coordinator.archive (filter_map kept_in acks))
      (sym s.nothing_yet.1) tt;
  told =
      λ report acks c complete. let d : Contains [] (report, acks) =
      subst (λ w. Contains w (report, acks)) s.nothing_yet.2 c in absurd (omega (arith, d.1));
  early = record {
    running =
        subst (λ o. IfSome o (λ r. old.coordinator.archive.last_session < r.session))
        (sym s.coordinator.0) tt;
    logged =
        subst (All (λ made. old.coordinator.archive.last_session < made.session))
        (sym s.nothing_yet.3)
        (All-nil (λ made. old.coordinator.archive.last_session < made.session));
    seen =
        λ made c. absurd (let d : Contains [] made =
        subst (λ w. Contains w made) s.nothing_yet.3 c in omega (arith, d.1));
  };
}

module _ (old new : Picture) {steps : List Step} {refusals : List Refusal} (s : IsStart old)
    (g : FollowsAll old steps refusals new) where
  abbrev before : Stores
  before = stores_of old

  pub watched : IsWatched before new
  watched =
      run_watched before s.pair.marks (pair_depth before s.pair) no_plans old new (start_kept old s)
      (start_stands old s.nothing_yet.1)
      (subst (RunsWell before.archive old) (sym s.coordinator.0) tt) (start_watched old s) g

  pub stands : StandsFor before new
  stands = run_stands before old new g (start_stands old s.nothing_yet.1)

  module _ (report : Report) (found left : Stores)
      (q : IsQuietSession before new.acknowledged new.reports report found left) where
    abbrev acks : List Ack
    acks = take q.acks new.acknowledged

    told : IsTold before new.log acks report
    told = (watched.told report q.acks q.reported q.complete).1

    -- the session started once
    earlier_is : told.earlier ≡ filter_map kept_in (take q.started new.acknowledged)
    earlier_is =
        one_start before.archive report.session (all_kept new) watched.can told.earlier
        (told.records ++ filter_map kept_in (drop q.acks new.acknowledged))
        (filter_map kept_in (take q.started new.acknowledged))
        (filter_map kept_in (drop (q.started + 1) new.acknowledged))
        (ap (filter_map kept_in) (sym (take-append-drop q.acks new.acknowledged))
        ∙ (filter_map-append kept_in acks (drop q.acks new.acknowledged)
        ∙ (ap (λ w. w ++ filter_map kept_in (drop q.acks new.acknowledged)) told.kept_is
        ∙ append_assoc told.earlier (Session report.session ∷ told.records)
        (filter_map kept_in (drop q.acks new.acknowledged)))))
        (ap (filter_map kept_in) (sym (take-append-drop (q.started + 1) new.acknowledged)
        ∙ (ap (λ w. w ++ drop (q.started + 1) new.acknowledged) q.taken
        ∙ append_assoc (take q.started new.acknowledged) (Kept_by (Session report.session) ∷ [])
        (drop (q.started + 1) new.acknowledged)))
        ∙ filter_map-append kept_in (take q.started new.acknowledged)
        (Kept_by (Session report.session) ∷ drop (q.started + 1) new.acknowledged))

    archive_is : found.archive ≡ archive_of before.archive told.earlier
    archive_is = q.archive ∙ ap (archive_of before.archive) (sym earlier_is)

    left_began : BeganAfter report.session found.left (stores_after before acks).left
    left_began = subst (λ w. BeganAfter report.session found.left w.left) q.at_end q.left_side

    right_began : BeganAfter report.session found.right (stores_after before acks).right
    right_began = subst (λ w. BeganAfter report.session found.right w.right) q.at_end q.right_side

    -- a history of the run goes on from what it found
    goes_on : (which : Which) (start first whole : History) →
        whole ≡ start ++ filter_map (event_at which) new.acknowledged →
        BeganAfter report.session first (start ++ filter_map (event_at which) acks) →
        (more : History) × (whole ≡ first ++ Began report.session ∷ more)
    goes_on which start first whole is began =
        let more = filter_map (event_at which) (drop q.acks new.acknowledged) in (
          began.later ++ more,
          is ∙ (ap (λ w. start ++ filter_map (event_at which) w)
              (sym (take-append-drop q.acks new.acknowledged)) ∙ (ap (λ w. start ++ w)
              (filter_map-append (event_at which) acks (drop q.acks new.acknowledged))
              ∙ (sym (append_assoc start (filter_map (event_at which) acks) more)
              ∙ (ap (λ w. w ++ more) began.begun
              ∙ append_assoc first (Began report.session ∷ began.later) more)))),
        )

    pub found_then : (which : Which) → (more : History)
        × (histories_of new which ≡ history_of found which ++ Began report.session ∷ more)
    found_then Left =
        goes_on Left before.left found.left new.left.side.history stands.left left_began
    found_then Right =
        goes_on Right before.right found.right new.right.side.history stands.right right_began

    -- and what it found was a history
    pub found_lawful : (which : Which) → IsHistory (history_of found which)
    found_lawful which =
        let then = found_then which in
        all_front [] (history_of found which) (Began report.session ∷ then.0) (subst IsHistory
        then.1 ((run_kept no_plans old new (start_kept old s) g).1.sound.lawful which))

    synchronizes : AreApart (tree_of found.left) (tree_of found.right) →
        IsSynchronized told.preference (trees_of found) (trees_of left)
    synchronizes apart =
        subst (λ s. IsSynchronized told.preference (trees_of found) (trees_of s)) (sym q.at_end)
        ((told.worth found archive_is left_began right_began).0 apart)

    reconciles : IsReconciled told.preference (trees_of found) (trees_of left)
    reconciles =
        subst (λ s. IsReconciled told.preference (trees_of found) (trees_of s)) (sym q.at_end)
        (told.worth found archive_is left_began right_began).1

    has_conflicts : (path : Path) → Contains report.conflicts path
        ↔ IsConflict told.preference (tree_of found.left) (tree_of found.right)
        found.archive.marks path
    has_conflicts = (told.worth found archive_is left_began right_began).2

    has_counts : HasCounts told.preference found report
    has_counts = (told.worth found archive_is left_began right_began).4

    -- a relevant path where both sides had the same is marked
    pub marks_alike : (path : Path) →
        is_relevant (tree_of found.left) (tree_of found.right) path ≡ true →
        subtree (tree_of found.left) path ≡ subtree (tree_of found.right) path →
        AreMarked left path (subtree (tree_of found.left) path)
    marks_alike path relevant same =
        subst (λ w. AreMarked w path (subtree (tree_of found.left) path)) (sym q.at_end)
        ((told.worth found archive_is left_began right_began).3 path relevant same)

-- a complete session without edits leaves the synchronization of what it found
pub runs_synchronize : OfEachRun CompleteSessionsSynchronize
runs_synchronize old new steps refusals s g report found left q apart =
    let tells = told old new s g report found left q in
    (tells.preference, tells.logged, synchronizes old new s g report found left q apart)

-- and the archive of it
pub runs_reconcile : OfEachRun CompleteSessionsReconcile
runs_reconcile old new steps refusals s g report found left q =
    let tells = told old new s g report found left q in
    (tells.preference, tells.logged, reconciles old new s g report found left q)

-- and reports its conflicts
pub runs_report_conflicts : OfEachRun ReportsItsConflicts
runs_report_conflicts old new steps refusals s g report found left q =
    let tells = told old new s g report found left q in
    (tells.preference, tells.logged, has_conflicts old new s g report found left q)

-- and counts its items
pub runs_count_items : OfEachRun CountsItsItems
runs_count_items old new steps refusals s g report found left q =
    let tells = told old new s g report found left q in
    (tells.preference, tells.logged, has_counts old new s g report found left q)
