use Rattle.std.proofs.Common.{◌∙◌, List, None, Some, ap, inl, refl, subst, sym}
use Rattle.std.specs.Prelude.{IfErr}
use Rattle.syn_archive.specs.Archive.{disk_of, marks_shown, pair_of}
use Rattle.syn_disk.specs.Stops.{LeavesOnly}
use Rattle.syn_folder.specs.declared.stranger.Stranger.{Stranger}
use Rattle.syn_model.specs.Decision.{Item, ToRight, ToLeft, MarkSame, MarkDir}
use Rattle.syn_model.specs.Mark.{mark}
use Rattle.syn_model.specs.Plan.{after_item, with_directory}
use Rattle.syn_model.specs.Tree.{Tree, replace, subtree}
use Rattle.syn_recon.specs.Items.{item_of}
use Rattle.syn_refusal.specs.declared.refusal.Refusal.TheVariants.{Full, Memory}
use Rattle.syn_reconcile.proofs.SharedLemmas.{apart_as, carried_as, if_err_any, kept_as, left_as}
use Rattle.syn_reconcile.proofs.SharedLemmas.{marked_as, marks_held, rests_as, unwritten}
use Rattle.syn_reconcile.specs.Settlings.{IsCarried, here}
use Rattle.syn_reconcile.specs.Shared.{HasEitherHeld, HoldsFor, IsForReplica, IsUnrecorded}
use Rattle.syn_reconcile.specs.Shared as shared
use Rattle.syn_reconcile.specs.Strangers.{LeavesAlone}
use Rattle.syn_reconcile.proofs.shared.carry_one.Goals as goal

pub returns-then-not-branch-clause-holds : goal.returns-then-not-branch-clause-holds
returns-then-not-branch-clause-holds g c =
    shared.rests (item_of c.args.item.now) (Some Full) c.args.pass.now tt

pub returns-in-ToRight-clause-carried : goal.returns-in-ToRight-clause-carried
returns-in-ToRight-clause-carried g c kept keeps =
    let tree = g.F.EditedFolder.tree c.args.folder.now in
    carried_as (item_of c.args.item.now) (ToRight c.in-ToRight.path) (ap item_of c.in-ToRight.is)
    tree c.args.side.now.seen.now.tree _ c.args.archive.now c.to_shared.new.archive
    c.to_shared.result tree refl
    (c.to_shared.ensures.carried kept c.args.side.now.seen.now.tree keeps)

pub returns-in-ToRight-clause-apart : goal.returns-in-ToRight-clause-apart
returns-in-ToRight-clause-apart g c =
    apart_as c.to_shared.result _
    (subst (λ (s : List Stranger). LeavesAlone s c.args.side.now.seen.now.tree
    (item_of c.args.item.now))
    c.strangers.ensures (c.in_ok-leaves_alone.ensures c.if-not-branch.false))

pub returns-in-ToLeft-clause-carried : goal.returns-in-ToLeft-clause-carried
returns-in-ToLeft-clause-carried g c kept keeps =
    let tree = g.F.EditedFolder.tree c.args.folder.now in
    carried_as (item_of c.args.item.now) (ToLeft c.in-ToLeft.path) (ap item_of c.in-ToLeft.is)
    tree c.args.side.now.seen.now.tree _ c.args.archive.now c.to_folder.new.archive
    c.to_folder.result
    tree refl (c.to_folder.ensures.carried kept keeps)

pub returns-in-ToLeft-clause-holds : goal.returns-in-ToLeft-clause-holds
returns-in-ToLeft-clause-holds g c =
    rests_as (item_of c.args.item.now) (ToLeft c.in-ToLeft.path) (ap item_of c.in-ToLeft.is)
    (λ f. f) (g.F.EditedFolder.tree c.args.folder.now) c.to_folder.result c.args.side.now.shared.now
    c.args.side.now.user c.args.side.now.seen.now.position c.args.pass.now

pub returns-in-ToLeft-clause-apart : goal.returns-in-ToLeft-clause-apart
returns-in-ToLeft-clause-apart g c =
    apart_as c.to_folder.result _
    (subst (λ (s : List Stranger). LeavesAlone s c.args.side.now.seen.now.tree
    (item_of c.args.item.now))
    c.strangers.ensures (c.in_ok-leaves_alone.ensures c.if-not-branch.false))

pub returns-in-MarkSame-clause-carried : goal.returns-in-MarkSame-clause-carried
returns-in-MarkSame-clause-carried g c kept keeps =
    let tree = g.F.EditedFolder.tree c.args.folder.now in
    kept_as (item_of c.args.item.now) (MarkSame c.in-MarkSame.path) (ap item_of c.in-MarkSame.is)
    tree c.args.side.now.seen.now.tree tree c.args.archive.now c.mark_same.new.archive
    c.mark_same.result
    c.tree.result.now c.tree.ensures
    (c.mark_same.ensures.carried kept c.args.side.now.seen.now.tree keeps)

pub returns-in-MarkSame-clause-holds : goal.returns-in-MarkSame-clause-holds
returns-in-MarkSame-clause-holds g c =
    rests_as (item_of c.args.item.now) (MarkSame c.in-MarkSame.path) (ap item_of c.in-MarkSame.is)
    (λ f. f) (g.F.EditedFolder.tree c.args.folder.now) c.mark_same.result c.args.side.now.shared.now
    c.args.side.now.user c.args.side.now.seen.now.position c.args.pass.now

pub returns-in-MarkDir-clause-carried : goal.returns-in-MarkDir-clause-carried
returns-in-MarkDir-clause-carried g c kept keeps =
    let tree = g.F.EditedFolder.tree c.args.folder.now in
    kept_as (item_of c.args.item.now) (MarkDir c.in-MarkDir.path) (ap item_of c.in-MarkDir.is)
    tree c.args.side.now.seen.now.tree tree c.args.archive.now c.mark_dir.new.archive
    c.mark_dir.result
    tree refl (c.mark_dir.ensures.carried kept tree c.args.side.now.seen.now.tree keeps)

pub returns-in-MarkDir-clause-holds : goal.returns-in-MarkDir-clause-holds
returns-in-MarkDir-clause-holds g c =
    rests_as (item_of c.args.item.now) (MarkDir c.in-MarkDir.path) (ap item_of c.in-MarkDir.is)
    (λ f. f) (g.F.EditedFolder.tree c.args.folder.now) c.mark_dir.result c.args.side.now.shared.now
    c.args.side.now.user c.args.side.now.seen.now.position c.args.pass.now

pub returns-in-Conflict-clause-carried : goal.returns-in-Conflict-clause-carried
returns-in-Conflict-clause-carried g c kept keeps =
    let tree = g.F.EditedFolder.tree c.args.folder.now in
    subst (λ (i : Item). IsCarried i None
    (here tree c.args.side.now.seen.now.tree (marks_shown c.args.archive.now)) tree
    c.args.archive.now)
    (sym (ap item_of c.in-Conflict.is))
    (record { left = refl; marks = record { kept = kept; keeps = keeps; are = refl } })

pub returns-in-Conflict-clause-holds : goal.returns-in-Conflict-clause-holds
returns-in-Conflict-clause-holds g c =
    shared.rests (item_of c.args.item.now) None c.args.pass.now
    (λ it. subst IsForReplica (ap item_of c.in-Conflict.is) it)

pub returns-then-not-branch-clause-any_mark : goal.returns-then-not-branch-clause-any_mark
returns-then-not-branch-clause-any_mark g c kept keeps =
    unwritten g.met.A.Disk.only_now c.args.archive.now kept keeps _ (λ bytes has. inl has)

pub returns-in-ToRight-clause-stopped : goal.returns-in-ToRight-clause-stopped
returns-in-ToRight-clause-stopped g c =
    let tree = g.F.EditedFolder.tree c.args.folder.now in
    let seen = c.args.side.now.seen.now in
    subst (λ (i : Item). IfErr c.to_shared.result (λ _. IsUnrecorded i
    (here tree seen.tree (marks_shown c.args.archive.now)) tree c.args.archive.now
    c.to_shared.new.archive (λ refused. HoldsFor c.args.side.now.shared.now c.args.side.now.user
    seen.position
    tree i refused c.args.pass.now c.to_shared.new.pass))) (sym (ap item_of c.in-ToRight.is))
    (c.to_shared.ensures.stopped seen.tree)

pub returns-in-ToRight-clause-any_mark : goal.returns-in-ToRight-clause-any_mark
returns-in-ToRight-clause-any_mark g c kept keeps =
    let tree = g.F.EditedFolder.tree c.args.folder.now in
    let seen = c.args.side.now.seen.now in
    let old = c.args.archive.now in
    subst (λ (i : Item). LeavesOnly g.A.Disk.moment g.A.Disk.left_since (disk_of old)
    (disk_of c.to_shared.new.archive) (HasEitherHeld (pair_of old) (marks_shown old)
    (after_item (here tree seen.tree (marks_shown old)) i).archive
    (HoldsFor c.args.side.now.shared.now c.args.side.now.user seen.position tree i None
    c.args.pass.now
    c.to_shared.new.pass))) (sym (ap item_of c.in-ToRight.is))
    (c.to_shared.ensures.any_mark kept keeps)

pub returns-in-ToLeft-clause-stopped : goal.returns-in-ToLeft-clause-stopped
returns-in-ToLeft-clause-stopped g c =
    let tree = g.F.EditedFolder.tree in
    let before = tree c.args.folder.now in
    let old = c.args.archive.now in
    left_as (item_of c.args.item.now) (ToLeft c.in-ToLeft.path) (ap item_of c.in-ToLeft.is)
    (λ f. f) (here before c.args.side.now.seen.now.tree (marks_shown old)) before
    (tree c.to_folder.new.folder) old c.to_folder.new.archive c.to_folder.result
    c.args.side.now.shared.now c.args.side.now.user c.args.side.now.seen.now.position
    c.args.pass.now
    c.to_folder.ensures.stopped

pub returns-in-ToLeft-clause-any_mark : goal.returns-in-ToLeft-clause-any_mark
returns-in-ToLeft-clause-any_mark g c kept keeps =
    let tree = g.F.EditedFolder.tree c.args.folder.now in
    let old = c.args.archive.now in
    let trees = here tree c.args.side.now.seen.now.tree (marks_shown old) in
    let is = ap item_of c.in-ToLeft.is in
    marks_held old c.to_folder.new.archive (after_item trees (ToLeft c.in-ToLeft.path)).archive
    (after_item trees (item_of c.args.item.now)).archive
    (ap (λ (i : Item). (after_item trees i).archive) (sym is)) _
    (shared.rests (item_of c.args.item.now) None c.args.pass.now
    (λ it. subst IsForReplica is it)) (c.to_folder.ensures.any_mark kept keeps)

pub returns-in-MarkSame-clause-stopped : goal.returns-in-MarkSame-clause-stopped
returns-in-MarkSame-clause-stopped g c =
    let tree = g.F.EditedFolder.tree c.args.folder.now in
    let old = c.args.archive.now in
    marked_as (item_of c.args.item.now) (MarkSame c.in-MarkSame.path) (ap item_of c.in-MarkSame.is)
    (λ f. f) (here tree c.args.side.now.seen.now.tree (marks_shown old)) refl old
    c.mark_same.new.archive
    c.mark_same.result c.args.side.now.shared.now c.args.side.now.user
    c.args.side.now.seen.now.position c.args.pass.now

pub returns-in-MarkSame-clause-any_mark : goal.returns-in-MarkSame-clause-any_mark
returns-in-MarkSame-clause-any_mark g c kept keeps =
    let tree = g.F.EditedFolder.tree c.args.folder.now in
    let old = c.args.archive.now in
    let path = c.in-MarkSame.path in
    let trees = here tree c.args.side.now.seen.now.tree (marks_shown old) in
    let is = ap item_of c.in-MarkSame.is in
    marks_held old c.mark_same.new.archive
    (replace (marks_shown old) path (mark (subtree c.tree.result.now path)))
    (after_item trees (item_of c.args.item.now)).archive
    (ap (λ (t : Tree). replace (marks_shown old) path (mark (subtree t path))) c.tree.ensures
    ∙ ap (λ (i : Item). (after_item trees i).archive) (sym is)) _
    (shared.rests (item_of c.args.item.now) None c.args.pass.now
    (λ it. subst IsForReplica is it)) (c.mark_same.ensures.any_mark kept keeps)

pub returns-in-MarkDir-clause-stopped : goal.returns-in-MarkDir-clause-stopped
returns-in-MarkDir-clause-stopped g c =
    let tree = g.F.EditedFolder.tree c.args.folder.now in
    let old = c.args.archive.now in
    marked_as (item_of c.args.item.now) (MarkDir c.in-MarkDir.path) (ap item_of c.in-MarkDir.is)
    (λ f. f) (here tree c.args.side.now.seen.now.tree (marks_shown old)) refl old
    c.mark_dir.new.archive
    c.mark_dir.result c.args.side.now.shared.now c.args.side.now.user
    c.args.side.now.seen.now.position c.args.pass.now

pub returns-in-MarkDir-clause-any_mark : goal.returns-in-MarkDir-clause-any_mark
returns-in-MarkDir-clause-any_mark g c kept keeps =
    let tree = g.F.EditedFolder.tree c.args.folder.now in
    let old = c.args.archive.now in
    let trees = here tree c.args.side.now.seen.now.tree (marks_shown old) in
    let is = ap item_of c.in-MarkDir.is in
    marks_held old c.mark_dir.new.archive
    (with_directory (marks_shown old) c.in-MarkDir.path)
    (after_item trees (item_of c.args.item.now)).archive
    (ap (λ (i : Item). (after_item trees i).archive) (sym is)) _
    (shared.rests (item_of c.args.item.now) None c.args.pass.now
    (λ it. subst IsForReplica is it)) (c.mark_dir.ensures.any_mark kept keeps)

pub returns-in-Conflict-clause-any_mark : goal.returns-in-Conflict-clause-any_mark
returns-in-Conflict-clause-any_mark g c kept keeps =
    unwritten g.met.A.Disk.only_now c.args.archive.now kept keeps _ (λ bytes has. inl has)

pub returns-in_err-leaves_alone-clause-stopped : goal.returns-in_err-leaves_alone-clause-stopped
returns-in_err-leaves_alone-clause-stopped g c =
    if_err_any _ _ (shared.IsUnrecorded.undone Memory refl refl
    (shared.rests (item_of c.args.item.now) (Some Memory) c.args.pass.now tt))

pub returns-in_err-leaves_alone-clause-any_mark : goal.returns-in_err-leaves_alone-clause-any_mark
returns-in_err-leaves_alone-clause-any_mark g c kept keeps =
    unwritten g.met.A.Disk.only_now c.args.archive.now kept keeps _ (λ bytes has. inl has)
