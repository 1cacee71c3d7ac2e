use Rattle.std.proofs.Common.{◌≡◌, ap, refl, subst, Ok}
use Rattle.std.specs.Prelude.{IfErr, IfOk}
use Rattle.std.proofs.lemmas.Result.{IfOk-weaker}
use Rattle.syn_archive.specs.Archive.{marks_shown}
use Rattle.syn_model.specs.Decision.{MarkDir, MarkSame, ToLeft}
use Rattle.syn_model.specs.Tree.{Tree}
use Rattle.syn_recon.specs.Items.{item_of}
use Rattle.syn_replica.specs.Replica.{pair_of, tree_shown}
use Rattle.syn_reconcile.proofs.CarryLemmas.{cut_off, if_none, moment_here, on_err}
use Rattle.syn_reconcile.proofs.CarryLemmas.{settled_here}
use Rattle.syn_reconcile.proofs.MarkLemmas.{still}
use Rattle.syn_reconcile.proofs.SettleLemmas.{leaves_still, stays}
use Rattle.syn_reconcile.specs.Settlings.{IsCarried, IsLeft, here}
use Rattle.syn_reconcile.specs.Settlings.{trees_of}
use Rattle.syn_reconcile.specs.Settlings as settlings
use Rattle.syn_reconcile.specs.Strangers.{LeavesAlone}
use Rattle.syn_reconcile.proofs.carry.carry.Given.{Over}
use Rattle.syn_reconcile.proofs.carry.carry.Goals as goal
use Rattle.syn_reconcile.proofs.carry.carry.Goals.{In-Ok-true}

pub returns-in-Ok-false-clause-carried : goal.returns-in-Ok-false-clause-carried
returns-in-Ok-false-clause-carried g c history kept stands keeps =
    stays c.args.user history _ _ c.args.replica c.args.archive.now kept stands keeps refl

pub returns-in-Ok-false-clause-any_moment : goal.returns-in-Ok-false-clause-any_moment
returns-in-Ok-false-clause-any_moment g c history kept stands =
    leaves_still c.args.replica history stands g.met.R.Disk.only_now c.args.user _

pub returns-in-Ok-false-clause-any_mark : goal.returns-in-Ok-false-clause-any_mark
returns-in-Ok-false-clause-any_mark g c kept keeps =
    still g.met.A.Disk.only_now c.args.archive.now kept _ keeps

pub returns-in-Conflict-clause-carried : goal.returns-in-Conflict-clause-carried
returns-in-Conflict-clause-carried g c history kept stands keeps =
    rw (ap item_of c.in-Conflict.is)
    (stays c.args.user history _ _ c.args.replica c.args.archive.now kept stands keeps refl)

pub returns-in-Conflict-clause-any_moment : goal.returns-in-Conflict-clause-any_moment
returns-in-Conflict-clause-any_moment g c history kept stands =
    leaves_still c.args.replica history stands g.met.R.Disk.only_now c.args.user _

pub returns-in-Conflict-clause-any_mark : goal.returns-in-Conflict-clause-any_mark
returns-in-Conflict-clause-any_mark g c kept keeps =
    still g.met.A.Disk.only_now c.args.archive.now kept _ keeps

pub returns-in-Err-clause-any_moment : goal.returns-in-Err-clause-any_moment
returns-in-Err-clause-any_moment g c history kept stands =
    rw c.into_disk.ensures
    (leaves_still c.args.replica history stands g.met.R.Disk.only_now c.args.user _)

pub returns-in-Err-clause-any_mark : goal.returns-in-Err-clause-any_mark
returns-in-Err-clause-any_mark g c kept keeps =
    still g.met.A.Disk.only_now c.args.archive.now kept _ keeps

pub returns-in-ToRight-clause-carried : goal.returns-in-ToRight-clause-carried
returns-in-ToRight-clause-carried g c history kept stands keeps =
    rw (ap item_of c.in-ToRight.is, ← c.tree-in-ToRight.ensures)
    (c.to_replica.ensures.carried history kept stands keeps)

pub returns-in-ToRight-clause-stopped : goal.returns-in-ToRight-clause-stopped
returns-in-ToRight-clause-stopped g c history kept stands keeps =
    rw (ap item_of c.in-ToRight.is, ← c.tree-in-ToRight.ensures)
    (c.to_replica.ensures.stopped history kept stands keeps)

pub returns-in-ToRight-clause-any_moment : goal.returns-in-ToRight-clause-any_moment
returns-in-ToRight-clause-any_moment g c history kept stands =
    rw (ap item_of c.in-ToRight.is, ← c.tree-in-ToRight.ensures)
    (c.to_replica.ensures.any_moment history stands)

pub returns-in-ToRight-clause-any_mark : goal.returns-in-ToRight-clause-any_mark
returns-in-ToRight-clause-any_mark g c kept keeps =
    rw (ap item_of c.in-ToRight.is, ← c.tree-in-ToRight.ensures)
    (c.to_replica.ensures.any_mark kept keeps)

-- what is carried out leaves the strangers alone
apart : (g : Over) (c : In-Ok-true g) →
    LeavesAlone (g.F.EditedFolder.strangers c.args.folder.now) (tree_shown c.args.replica)
    (item_of c.args.item.now)
apart g c =
    subst (λ s. LeavesAlone s (tree_shown c.args.replica) (item_of c.args.item.now))
    c.strangers.ensures (subst (λ (t : Tree). LeavesAlone c.strangers.result.now t
    (item_of c.args.item.now)) c.tree.ensures (c.in-Ok-true.ensures c.in-Ok-true.field-0-test))

pub returns-in-ToRight-clause-apart : goal.returns-in-ToRight-clause-apart
returns-in-ToRight-clause-apart g c =
    IfOk-weaker c.to_replica.result (λ carried. pair_of carried.0 ≡ pair_of c.args.replica) _
    (λ carried at. if_none carried.1 _
    (apart g (goal.at.returns-in-ToRight-clause-apart g c).In-Ok-true)) c.to_replica.ensures.pair

pub returns-in-ToLeft-clause-carried : goal.returns-in-ToLeft-clause-carried
returns-in-ToLeft-clause-carried g c history kept stands keeps =
    settled_here c.args.replica c.with_replica.result
    c.to_folder-carried.result
    c.args.user history stands (item_of c.args.item.now)
    (ToLeft c.in-ToLeft.path) (ap item_of c.in-ToLeft.is) (g.F.EditedFolder.tree c.args.folder.now)
    c.args.archive.now c.to_folder-carried.new.archive (g.F.EditedFolder.tree
    c.to_folder-carried.new.folder)
    refl c.with_replica.ensures.carried
    (subst (λ (t : Tree). IfOk c.to_folder-carried.result (λ refused. IsCarried
    (ToLeft c.in-ToLeft.path) refused (here (g.F.EditedFolder.tree c.args.folder.now) t (marks_shown
    c.args.archive.now))
    (g.F.EditedFolder.tree c.to_folder-carried.new.folder) c.to_folder-carried.new.archive))
    c.tree-in-ToLeft.ensures (c.to_folder-carried.ensures.carried kept keeps))

pub returns-in-ToLeft-clause-stopped : goal.returns-in-ToLeft-clause-stopped
returns-in-ToLeft-clause-stopped g c history kept stands keeps =
    cut_off c.args.replica c.with_replica.result
    c.to_folder-carried.result
    c.args.user history stands (item_of c.args.item.now)
    (ToLeft c.in-ToLeft.path) (ap item_of c.in-ToLeft.is) (g.F.EditedFolder.tree c.args.folder.now)
    c.args.archive.now c.to_folder-carried.new.archive (g.F.EditedFolder.tree
    c.to_folder-carried.new.folder)
    refl c.with_replica.ensures.stopped
    (subst (λ (t : Tree). IfErr c.to_folder-carried.result (λ _. IsLeft
    (ToLeft c.in-ToLeft.path) (here (g.F.EditedFolder.tree c.args.folder.now) t (marks_shown
    c.args.archive.now))
    (g.F.EditedFolder.tree c.to_folder-carried.new.folder) c.args.archive.now
    c.to_folder-carried.new.archive)) c.tree-in-ToLeft.ensures
    c.to_folder-carried.ensures.stopped)

pub returns-in-ToLeft-clause-any_moment : goal.returns-in-ToLeft-clause-any_moment
returns-in-ToLeft-clause-any_moment g c history kept stands =
    moment_here c.args.replica c.with_replica.result
    c.to_folder-carried.result c.args.user history stands
    _ g.met.R.Disk.only_now c.with_replica.ensures.carried
    c.with_replica.ensures.stopped

pub returns-in-ToLeft-clause-any_mark : goal.returns-in-ToLeft-clause-any_mark
returns-in-ToLeft-clause-any_mark g c kept keeps =
    rw (ap item_of c.in-ToLeft.is, ← c.tree-in-ToLeft.ensures)
    (c.to_folder-carried.ensures.any_mark kept keeps)

pub returns-in-MarkSame-clause-carried : goal.returns-in-MarkSame-clause-carried
returns-in-MarkSame-clause-carried g c history kept stands keeps =
    settled_here c.args.replica c.with_replica-in-MarkSame.result
    c.mark_same-carried.result
    c.args.user history stands (item_of c.args.item.now)
    (MarkSame c.in-MarkSame.path) (ap item_of c.in-MarkSame.is) (g.F.EditedFolder.tree
    c.args.folder.now)
    c.args.archive.now c.mark_same-carried.new.archive (g.F.EditedFolder.tree c.args.folder.now)
    refl
    c.with_replica-in-MarkSame.ensures.carried
    (subst (λ (t : Tree). IfOk c.mark_same-carried.result (λ refused. IsCarried
    (MarkSame c.in-MarkSame.path) refused (here t (tree_shown c.args.replica)
    (marks_shown c.args.archive.now)) t c.mark_same-carried.new.archive))
    c.tree-in-MarkSame.ensures
    (c.mark_same-carried.ensures.carried kept (tree_shown c.args.replica) keeps))

pub returns-in-MarkSame-clause-stopped : goal.returns-in-MarkSame-clause-stopped
returns-in-MarkSame-clause-stopped g c history kept stands keeps =
    cut_off c.args.replica c.with_replica-in-MarkSame.result
    c.mark_same-carried.result
    c.args.user history stands (item_of c.args.item.now)
    (MarkSame c.in-MarkSame.path) (ap item_of c.in-MarkSame.is) (g.F.EditedFolder.tree
    c.args.folder.now)
    c.args.archive.now c.mark_same-carried.new.archive (g.F.EditedFolder.tree c.args.folder.now)
    refl
    c.with_replica-in-MarkSame.ensures.stopped
    (on_err c.mark_same-carried.result (IsLeft (MarkSame c.in-MarkSame.path)
    (trees_of (g.F.EditedFolder.tree c.args.folder.now) c.args.replica c.args.archive.now)
    (g.F.EditedFolder.tree c.args.folder.now) c.args.archive.now c.mark_same-carried.new.archive)
    (settlings.IsLeft.done refl))

pub returns-in-MarkSame-clause-any_moment : goal.returns-in-MarkSame-clause-any_moment
returns-in-MarkSame-clause-any_moment g c history kept stands =
    moment_here c.args.replica c.with_replica-in-MarkSame.result
    c.mark_same-carried.result c.args.user history stands
    _ g.met.R.Disk.only_now
    c.with_replica-in-MarkSame.ensures.carried
    c.with_replica-in-MarkSame.ensures.stopped

pub returns-in-MarkSame-clause-any_mark : goal.returns-in-MarkSame-clause-any_mark
returns-in-MarkSame-clause-any_mark g c kept keeps =
    rw (ap item_of c.in-MarkSame.is, ← c.tree-in-MarkSame.ensures)
    (c.mark_same-carried.ensures.any_mark kept keeps)

pub returns-in-MarkDir-clause-carried : goal.returns-in-MarkDir-clause-carried
returns-in-MarkDir-clause-carried g c history kept stands keeps =
    settled_here c.args.replica c.with_replica-in-MarkDir.result
    c.mark_dir-carried.result
    c.args.user history stands (item_of c.args.item.now)
    (MarkDir c.in-MarkDir.path) (ap item_of c.in-MarkDir.is) (g.F.EditedFolder.tree
    c.args.folder.now)
    c.args.archive.now c.mark_dir-carried.new.archive (g.F.EditedFolder.tree c.args.folder.now)
    refl
    c.with_replica-in-MarkDir.ensures.carried
    (c.mark_dir-carried.ensures.carried kept (g.F.EditedFolder.tree c.args.folder.now)
    (tree_shown c.args.replica) keeps)

pub returns-in-MarkDir-clause-stopped : goal.returns-in-MarkDir-clause-stopped
returns-in-MarkDir-clause-stopped g c history kept stands keeps =
    cut_off c.args.replica c.with_replica-in-MarkDir.result
    c.mark_dir-carried.result
    c.args.user history stands (item_of c.args.item.now)
    (MarkDir c.in-MarkDir.path) (ap item_of c.in-MarkDir.is) (g.F.EditedFolder.tree
    c.args.folder.now)
    c.args.archive.now c.mark_dir-carried.new.archive (g.F.EditedFolder.tree c.args.folder.now)
    refl
    c.with_replica-in-MarkDir.ensures.stopped
    (on_err c.mark_dir-carried.result (IsLeft (MarkDir c.in-MarkDir.path)
    (trees_of (g.F.EditedFolder.tree c.args.folder.now) c.args.replica c.args.archive.now)
    (g.F.EditedFolder.tree c.args.folder.now) c.args.archive.now c.mark_dir-carried.new.archive)
    (settlings.IsLeft.done refl))

pub returns-in-MarkDir-clause-any_moment : goal.returns-in-MarkDir-clause-any_moment
returns-in-MarkDir-clause-any_moment g c history kept stands =
    moment_here c.args.replica c.with_replica-in-MarkDir.result
    c.mark_dir-carried.result c.args.user history stands
    _ g.met.R.Disk.only_now c.with_replica-in-MarkDir.ensures.carried
    c.with_replica-in-MarkDir.ensures.stopped

pub returns-in-MarkDir-clause-any_mark : goal.returns-in-MarkDir-clause-any_mark
returns-in-MarkDir-clause-any_mark g c kept keeps =
    rw (ap item_of c.in-MarkDir.is) (c.mark_dir-carried.ensures.any_mark kept keeps)

pub returns-in-ToLeft-clause-apart : goal.returns-in-ToLeft-clause-apart
returns-in-ToLeft-clause-apart g c =
    IfOk-weaker c.with_replica.result (λ done. (done.0 ≡ c.args.replica)
    × (c.to_folder-carried.result ≡ Ok done.1)) _
    (λ carried at. if_none carried.1 _
    (apart g (goal.at.returns-in-ToLeft-clause-apart g c).In-Ok-true))
    c.with_replica.ensures.carried
