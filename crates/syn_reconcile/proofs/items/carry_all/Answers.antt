use Rattle.std.proofs.Common.{◌≡◌, ◌∙◌, ◌++◌, ◌∷◌, [], ap, append-nil, append_assoc, arith, List}
use Rattle.std.proofs.Common.{map, refl, subst, sym}
use Rattle.std.proofs.lemmas.List.{map-append, nil_from_length}
use Rattle.syn_archive.specs.Archive.{Stands as Keeps, disk_of as marks_disk}
use Rattle.syn_archive.specs.Archive.{pair_of as marks_pair}
use Rattle.syn_disk.specs.Stops.{LeavesOnly}
use Rattle.syn_folder.specs.declared.stranger.Stranger.{Stranger}
use Rattle.syn_model.proofs.ExitLemmas.{if_err_of_exit, match_of_exit}
use Rattle.syn_model.specs.Archive.{Archive as Kept}
use Rattle.syn_model.specs.Event.{Edited}
use Rattle.syn_model.specs.History.{History}
use Rattle.syn_model.specs.Plan.{Trees}
use Rattle.syn_recon.specs.Items.{item_of, items_of}
use Rattle.syn_replica.specs.Replica.{Stands, disk_of, pair_of, tree_shown}
use Rattle.std.specs.Prelude.{IfNone}
use Rattle.syn_reconcile.proofs.RunLemmas.{after_more, apart_more}
use Rattle.syn_reconcile.proofs.RunLemmas.{reached_then, started_marks, started_tree, step_marks}
use Rattle.syn_reconcile.proofs.RunLemmas.{step_tree, stopped, stopped_between}
use Rattle.syn_reconcile.proofs.SettleLemmas.{goes_further, stays}
use Rattle.syn_reconcile.proofs.CarryLemmas.{with_settled}
use Rattle.syn_reconcile.specs.Settlings.{GoesOn, after_all, after_settled, items_in, trees_of}
use Rattle.syn_reconcile.specs.Strangers.{LeavesAlone}
use Rattle.syn_reconcile.specs.UnderWay.{AreApart, IsStopped, ReachesMarks, ReachesTree}
use Rattle.syn_reconcile.specs.declared.report.Settled.{Settled}
use Rattle.syn_reconcile.proofs.items.carry_all.Given.{Over}
use Rattle.syn_reconcile.proofs.items.carry_all.Goals as goal
use Rattle.syn_reconcile.proofs.items.carry_all.Goals.{After-carry, In_ok-now}

pub loop-item-init : goal.loop-item-init
loop-item-init g c =
    let tree = g.F.EditedFolder.tree in
    let found = trees_of (tree c.args.folder.now) c.args.replica c.args.archive.now in
    let planned = items_of c.args.items.items in
    let none = c.new-settled.ensures.items in
    record {
      whole = sym c.into_iter-item-iterator.ensures.into_iter_gives.0;
      items = ap items_in none;
      carried = λ history kept stands keeps.
          subst (λ (xs : List Settled). GoesOn c.args.user history (after_all found xs)
          (tree c.args.folder.now) c.args.replica c.args.archive.now) (sym none)
          (stays c.args.user history found (tree c.args.folder.now) c.args.replica
          c.args.archive.now kept stands keeps refl);
      moments = λ history kept stands keeps.
          started_tree planned (tree c.args.folder.now) c.args.replica c.args.archive.now
          g.met.R.Disk.only_now c.args.user history stands;
      marks = λ history kept stands keeps.
          started_marks planned (tree c.args.folder.now) c.args.replica c.args.archive.now
          g.met.A.Disk.only_now kept keeps;
      pair = refl;
      marked = refl;
      strangers = refl;
      apart = λ history kept stands keeps.
          subst (AreApart (g.F.EditedFolder.strangers c.args.folder.now) found) (sym none) tt;
    }

-- the items of the plan: those that were settled, this one, and the others
are : (g : Over) (c : After-carry g) → items_of c.args.items.items
    ≡ items_in c.loop-item.settled.items ++ item_of c.in-Some.item
    ∷ items_of c.next.new.self.rest.items
are g c = with_settled c.args.items.items c.loop-item.yielded c.next.new.self.rest.items
    c.loop-item.settled.items c.in-Some.item
    (c.loop-item.invariant.whole
    ∙ ap (λ xs. c.loop-item.yielded ++ xs) c.in-Some.ensures.steps.0) c.loop-item.invariant.items

-- the item goes on from what the ones before it left
goes_on : (g : Over) (c : In_ok-now g) (history : History) (kept : Kept) →
    Stands c.args.replica history → Keeps c.args.archive.now kept →
    GoesOn c.args.user history (after_settled (after_all
    (trees_of (g.F.EditedFolder.tree c.args.folder.now) c.args.replica c.args.archive.now)
    c.loop-item.settled.items) (item_of c.in-Some.item) c.in_ok-now.refused)
    (g.F.EditedFolder.tree c.carry.new.folder) c.in_ok-now.now c.carry.new.archive
goes_on g c history kept stands keeps =
    let tree = g.F.EditedFolder.tree in
    let user = c.args.user in
    let on = c.loop-item.invariant.carried history kept stands keeps in
    let so_far = history ++ map (Edited user) on.edits in
    goes_further user history _ _ (tree c.carry.new.folder) c.in_ok-now.now c.carry.new.archive
    (tree c.loop-item.folder) c.loop-item.replica c.loop-item.archive on
    (subst (λ (t : Trees). GoesOn user so_far
    (after_settled t (item_of c.in-Some.item) c.in_ok-now.refused) (tree c.carry.new.folder)
    c.in_ok-now.now c.carry.new.archive) on.are
    (c.in_ok-now.ensures.carried so_far on.kept on.stands on.keeps))

-- what a stop leaves of the replica up to the end of the item
any_tree : (g : Over) (c : In_ok-now g) (history : History) (kept : Kept) →
    Stands c.args.replica history → Keeps c.args.archive.now kept →
    LeavesOnly g.R.Disk.moment g.R.Disk.left_since (disk_of c.args.replica)
    (disk_of c.in_ok-now.now) (ReachesTree (items_of c.args.items.items) (pair_of c.args.replica)
    c.args.user history
    (trees_of (g.F.EditedFolder.tree c.args.folder.now) c.args.replica c.args.archive.now))
any_tree g c history kept stands keeps =
    let tree = g.F.EditedFolder.tree in
    let user = c.args.user in
    let on = c.loop-item.invariant.carried history kept stands keeps in
    step_tree (items_of c.args.items.items)
    (trees_of (tree c.args.folder.now) c.args.replica c.args.archive.now)
    c.loop-item.settled.items c.in-Some.item (items_of c.next.new.self.rest.items)
    (are g (goal.at.In_ok-now g c).After-carry) user history (tree c.loop-item.folder)
    c.loop-item.replica c.loop-item.archive on (disk_of c.args.replica)
    (disk_of c.in_ok-now.now) (pair_of c.args.replica) c.loop-item.invariant.pair
    (c.loop-item.invariant.moments history kept stands keeps)
    (c.in_ok-now.ensures.any_moment (history ++ map (Edited user) on.edits) on.kept on.stands)

-- and of the archive
any_marks : (g : Over) (c : After-carry g) (history : History) (kept : Kept) →
    Stands c.args.replica history → Keeps c.args.archive.now kept →
    LeavesOnly g.A.Disk.moment g.A.Disk.left_since (marks_disk c.args.archive.now)
    (marks_disk c.carry.new.archive) (ReachesMarks (items_of c.args.items.items)
    (marks_pair c.args.archive.now)
    (trees_of (g.F.EditedFolder.tree c.args.folder.now) c.args.replica c.args.archive.now))
any_marks g c history kept stands keeps =
    let tree = g.F.EditedFolder.tree in
    let on = c.loop-item.invariant.carried history kept stands keeps in
    step_marks (items_of c.args.items.items)
    (trees_of (tree c.args.folder.now) c.args.replica c.args.archive.now)
    c.loop-item.settled.items c.in-Some.item (items_of c.next.new.self.rest.items) (are g c)
    c.args.user history (tree c.loop-item.folder) c.loop-item.replica c.loop-item.archive on
    (marks_disk c.args.archive.now) (marks_disk c.carry.new.archive)
    (marks_pair c.args.archive.now) c.loop-item.invariant.marked
    (c.loop-item.invariant.marks history kept stands keeps)
    (c.carry.ensures.any_mark on.kept on.keeps)

pub loop-item-preserved : goal.loop-item-preserved
loop-item-preserved g c =
    let k = goal.at.loop-item-preserved g c in
    let strange = g.F.EditedFolder.strangers c.args.folder.now in
    let made = c.loop-item.yielded in
    let item = c.in-Some.item in
    let others = c.next.new.self.rest.items in
    let one : Settled = record { item = item; refused = c.in_ok-now.refused } in
    let settled = c.loop-item.settled.items in
    let found = trees_of (g.F.EditedFolder.tree c.args.folder.now) c.args.replica
    c.args.archive.now in
    let noted = c.in-Ok.ensures in
    record {
      whole =
          c.loop-item.invariant.whole ∙ ap (λ xs. made ++ xs) c.in-Some.ensures.steps.0
          ∙ sym (append_assoc made (item ∷ []) others);
      items =
          ap items_in noted ∙ (map-append (λ (s : Settled). item_of s.item) settled (one ∷ [])
          ∙ (ap (λ xs. xs ++ item_of item ∷ []) c.loop-item.invariant.items
          ∙ sym (map-append item_of made (item ∷ []))));
      carried = λ history kept stands keeps.
          subst (λ (t : Trees). GoesOn c.args.user history t
          (g.F.EditedFolder.tree c.carry.new.folder) c.in_ok-now.now c.carry.new.archive)
          (sym (after_more found settled one) ∙ ap (after_all found) (sym noted))
          (goes_on g k.In_ok-now history kept stands keeps);
      moments = any_tree g k.In_ok-now;
      marks = any_marks g k.After-carry;
      pair = c.in_ok-now.ensures.pair ∙ c.loop-item.invariant.pair;
      marked = c.carry.ensures.marked ∙ c.loop-item.invariant.marked;
      strangers = c.carry.ensures.strangers ∙ c.loop-item.invariant.strangers;
      apart = λ history kept stands keeps.
          let on = c.loop-item.invariant.carried history kept stands keeps in
          subst (AreApart strange found) (sym noted)
          (apart_more strange found settled one
          (c.loop-item.invariant.apart history kept stands keeps)
          (subst (λ (t : Trees). IfNone one.refused (LeavesAlone strange t.right (item_of item)))
          on.are (subst (λ (s : List Stranger). IfNone one.refused (LeavesAlone s
          (tree_shown c.loop-item.replica) (item_of item))) c.loop-item.invariant.strangers
          c.in_ok-now.ensures.apart)));
    }

pub returns-in_err-now-clause-stopped : goal.returns-in_err-now-clause-stopped
returns-in_err-now-clause-stopped g c history kept stands keeps =
    let tree = g.F.EditedFolder.tree in
    let user = c.args.user in
    let planned = items_of c.args.items.items in
    let found = trees_of (tree c.args.folder.now) c.args.replica c.args.archive.now in
    let on = c.loop-item.invariant.carried history kept stands keeps in
    let so_far = history ++ map (Edited user) on.edits in
    let end = c.in_err-now.field-0.0 in
    let moment = c.in_err-now.ensures.any_moment so_far on.kept on.stands in
    let mark = c.carry.ensures.any_mark on.kept on.keeps in
    if_err_of_exit c.from_residual.result end
    (λ stopped. IsStopped planned (pair_of c.args.replica) (marks_pair c.args.archive.now) user
    history found (tree c.carry.new.folder) (g.R.Disk.may_leave stopped.1)
    (g.A.Disk.may_leave (marks_disk c.carry.new.archive))) c.from_residual.ensures.1
    (stopped planned found c.loop-item.settled.items c.in-Some.item
    (items_of c.next.new.self.rest.items)
    (are g (goal.at.returns-in_err-now-clause-stopped g c).After-carry) user history
    (tree c.loop-item.folder) c.loop-item.replica c.loop-item.archive on
    (pair_of c.args.replica) (marks_pair c.args.archive.now) c.loop-item.invariant.pair
    c.loop-item.invariant.marked end.1 (tree c.carry.new.folder) c.carry.new.archive
    (λ bytes may. moment.each bytes (g.met.R.Disk.counts_now end.1
    (g.R.Disk.moment (disk_of c.loop-item.replica)) bytes moment.later may))
    (λ bytes may. mark.each bytes (g.met.A.Disk.counts_now (marks_disk c.carry.new.archive)
    (g.A.Disk.moment (marks_disk c.loop-item.archive)) bytes mark.later may))
    (c.in_err-now.ensures.stopped so_far on.kept on.stands on.keeps))

pub returns-in_err-now-clause-any_moment : goal.returns-in_err-now-clause-any_moment
returns-in_err-now-clause-any_moment g c history kept stands keeps =
    let tree = g.F.EditedFolder.tree in
    let user = c.args.user in
    let planned = items_of c.args.items.items in
    let found = trees_of (tree c.args.folder.now) c.args.replica c.args.archive.now in
    let on = c.loop-item.invariant.carried history kept stands keeps in
    let end = c.in_err-now.field-0.0 in
    let P = ReachesTree planned (pair_of c.args.replica) user history found in
    match_of_exit c.from_residual.result end
    (λ done. LeavesOnly g.R.Disk.moment g.R.Disk.left_since (disk_of c.args.replica)
    (disk_of done.0) P)
    (λ stopped. LeavesOnly g.R.Disk.moment g.R.Disk.left_since (disk_of c.args.replica) stopped.1
    P) c.from_residual.ensures.1
    (step_tree planned found c.loop-item.settled.items c.in-Some.item
    (items_of c.next.new.self.rest.items)
    (are g (goal.at.returns-in_err-now-clause-any_moment g c).After-carry) user history
    (tree c.loop-item.folder) c.loop-item.replica c.loop-item.archive on
    (disk_of c.args.replica) end.1 (pair_of c.args.replica) c.loop-item.invariant.pair
    (c.loop-item.invariant.moments history kept stands keeps)
    (c.in_err-now.ensures.any_moment (history ++ map (Edited user) on.edits) on.kept on.stands))

pub returns-in_err-now-clause-any_mark : goal.returns-in_err-now-clause-any_mark
returns-in_err-now-clause-any_mark g c =
    any_marks g (goal.at.returns-in_err-now-clause-any_mark g c).After-carry

pub returns-clause-items : goal.returns-clause-items
returns-clause-items g c =
    let rest = c.loop-item.item-iterator.rest in
    let none : rest.items ≡ [] =
    nil_from_length rest.items (omega (arith, c.in-None.ensures.steps.0, rest.ok)) in
    let all = c.loop-item.invariant.whole
    ∙ (ap (λ xs. c.loop-item.yielded ++ xs) none ∙ append-nil c.loop-item.yielded) in
    c.loop-item.invariant.items ∙ ap items_of (sym all)

pub returns-in-Err-clause-stopped : goal.returns-in-Err-clause-stopped
returns-in-Err-clause-stopped g c history kept stands keeps =
    let k = goal.at.returns-in-Err-clause-stopped g c in
    let tree = g.F.EditedFolder.tree in
    let planned = items_of c.args.items.items in
    let found = trees_of (tree c.args.folder.now) c.args.replica c.args.archive.now in
    stopped_between planned found _ c.args.user history (tree c.carry.new.folder)
    c.in_ok-now.now c.carry.new.archive (pair_of c.args.replica)
    (marks_pair c.args.archive.now) c.into_disk.result
    (reached_then planned found c.loop-item.settled.items c.in-Some.item
    (items_of c.next.new.self.rest.items) (are g k.After-carry) c.in_ok-now.refused)
    (goes_on g k.In_ok-now history kept stands keeps)
    (c.in_ok-now.ensures.pair ∙ c.loop-item.invariant.pair)
    (c.carry.ensures.marked ∙ c.loop-item.invariant.marked) c.into_disk.ensures

pub returns-in-Err-clause-any_moment : goal.returns-in-Err-clause-any_moment
returns-in-Err-clause-any_moment g c history kept stands keeps =
    let found = trees_of (g.F.EditedFolder.tree c.args.folder.now) c.args.replica
    c.args.archive.now in
    subst (λ d. LeavesOnly g.R.Disk.moment g.R.Disk.left_since (disk_of c.args.replica) d
    (ReachesTree (items_of c.args.items.items) (pair_of c.args.replica) c.args.user history
    found)) (sym c.into_disk.ensures)
    (any_tree g (goal.at.returns-in-Err-clause-any_moment g c).In_ok-now history kept stands keeps)

pub returns-in-Err-clause-any_mark : goal.returns-in-Err-clause-any_mark
returns-in-Err-clause-any_mark g c =
    any_marks g (goal.at.returns-in-Err-clause-any_mark g c).After-carry
