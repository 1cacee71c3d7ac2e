use Rattle.std.proofs.Common.{◌++◌, map, refl, subst, sym}
use Rattle.syn_archive.specs.Archive.{marks_shown}
use Rattle.syn_change.specs.Changes.{AreChanges}
use Rattle.syn_disk.specs.Stops.{LeavesOnly}
use Rattle.syn_mark.specs.Marks.{or_absent}
use Rattle.syn_model.specs.Mark.{mark}
use Rattle.syn_model.specs.Tree.{Tree, replace, subtree}
use Rattle.syn_replica.specs.Disks.{DiskStands}
use Rattle.syn_replica.specs.Edits.{event_by}
use Rattle.syn_replica.specs.Replica.{disk_of, pair_of, tree_shown}
use Rattle.syn_tree.specs.Edits.{edit_of}
use Rattle.syn_reconcile.proofs.MarkLemmas.{keeps_with, still, with_marks}
use Rattle.syn_reconcile.proofs.SettleLemmas.{edited, has_then, leaves_either, leaves_still}
use Rattle.syn_reconcile.proofs.SettleLemmas.{left_now, stays}
use Rattle.syn_reconcile.specs.Settlings.{done, trees_of}
use Rattle.syn_reconcile.specs.Stops.{HasEitherTree}
use Rattle.syn_reconcile.proofs.carry.to_replica.Given.{Over}
use Rattle.syn_reconcile.proofs.carry.to_replica.Goals as goal
use Rattle.syn_reconcile.proofs.carry.to_replica.Goals.{After-edit_all_with_room}

pub returns-in-Err-clause-carried : goal.returns-in-Err-clause-carried
returns-in-Err-clause-carried g c history kept stands keeps =
    stays c.args.user history (trees_of c.args.folder.now c.args.replica c.args.archive.now)
    c.args.folder.now c.args.replica c.args.archive.now kept stands keeps refl

pub returns-in-Err-clause-any_moment : goal.returns-in-Err-clause-any_moment
returns-in-Err-clause-any_moment g c history stands =
    leaves_still c.args.replica history stands g.met.R.Disk.only_now c.args.user
    (replace (tree_shown c.args.replica) c.args.path.now
    (subtree c.args.folder.now c.args.path.now))

pub returns-in-Err-clause-any_mark : goal.returns-in-Err-clause-any_mark
returns-in-Err-clause-any_mark g c kept keeps =
    let old = c.args.archive.now in
    still g.met.A.Disk.only_now old kept (replace (marks_shown old) c.args.path.now
    (mark (subtree c.args.folder.now c.args.path.now))) keeps

-- the edits are those that change the replica's tree as the item says
changes : (g : Over) (c : After-edit_all_with_room g) → AreChanges (tree_shown c.args.replica)
    (replace (tree_shown c.args.replica) c.args.path.now
    (subtree c.args.folder.now c.args.path.now)) (map edit_of c.in-Ok.planned.edits.items)
changes g c =
    subst (λ (t : Tree). AreChanges t (replace t c.args.path.now
    (subtree c.args.folder.now c.args.path.now)) (map edit_of c.in-Ok.planned.edits.items))
    c.tree.ensures c.in-Ok.ensures.changes

pub returns-in-Err-edit_all_with_room-clause-any_moment :
    goal.returns-in-Err-edit_all_with_room-clause-any_moment
returns-in-Err-edit_all_with_room-clause-any_moment g c history stands =
    let old = c.args.replica in
    let path = c.args.path.now in
    let part = subtree c.args.folder.now path in
    let edits = c.in-Ok.planned.edits.items in
    let k = goal.at.returns-in-Err-edit_all_with_room-clause-any_moment g c in
    let made = changes g k.After-edit_all_with_room in
    leaves_either old history stands c.args.user (replace (tree_shown old) path part) edits made
    c.in-Err-edit_all_with_room.disk (c.in-Err-edit_all_with_room.ensures.any_moment history stands)

pub returns-in-Err-edit_all_with_room-clause-any_mark :
    goal.returns-in-Err-edit_all_with_room-clause-any_mark
returns-in-Err-edit_all_with_room-clause-any_mark g c kept keeps =
    let old = c.args.archive.now in
    still g.met.A.Disk.only_now old kept (replace (marks_shown old) c.args.path.now
    (mark (subtree c.args.folder.now c.args.path.now))) keeps

pub returns-in-Ok-record-clause-carried : goal.returns-in-Ok-record-clause-carried
returns-in-Ok-record-clause-carried g c history kept stands keeps =
    let old = c.args.replica in
    let path = c.args.path.now in
    let part = subtree c.args.folder.now path in
    let edits = c.in-Ok.planned.edits.items in
    let k = goal.at.returns-in-Ok-record-clause-carried g c in
    let made = changes g k.After-edit_all_with_room in
    edited c.args.user history c.args.folder.now old c.in-Ok-edit_all_with_room.replica
    c.record.new.archive (replace (tree_shown old) path part)
    (replace (marks_shown c.args.archive.now) path (mark part)) edits stands made
    (c.in-Ok-edit_all_with_room.ensures.acknowledged history stands)
    (keeps_with c.args.archive.now c.record.new.archive path (or_absent c.in-Ok.planned.marks)
    (mark part) c.in-Ok.ensures.marks (c.in-Ok-record.ensures.recorded kept keeps))

pub returns-in-Ok-record-clause-any_moment : goal.returns-in-Ok-record-clause-any_moment
returns-in-Ok-record-clause-any_moment g c history stands =
    let old = c.args.replica in
    let path = c.args.path.now in
    let part = subtree c.args.folder.now path in
    let edits = c.in-Ok.planned.edits.items in
    let k = goal.at.returns-in-Ok-record-clause-any_moment g c in
    let made = changes g k.After-edit_all_with_room in
    leaves_either old history stands c.args.user (replace (tree_shown old) path part) edits made
    (disk_of c.in-Ok-edit_all_with_room.replica)
    (c.in-Ok-edit_all_with_room.ensures.any_moment history stands)

pub returns-in-Ok-record-clause-any_mark : goal.returns-in-Ok-record-clause-any_mark
returns-in-Ok-record-clause-any_mark g c kept keeps =
    with_marks c.args.archive.now c.record.new.archive c.args.path.now
    (or_absent c.in-Ok.planned.marks) (mark (subtree c.args.folder.now c.args.path.now))
    c.in-Ok.ensures.marks (c.record.ensures.any_moment kept keeps)

pub returns-in-Err-record-clause-stopped : goal.returns-in-Err-record-clause-stopped
returns-in-Err-record-clause-stopped g c history kept stands keeps =
    let old = c.args.replica in
    let new = c.in-Ok-edit_all_with_room.replica in
    let path = c.args.path.now in
    let part = subtree c.args.folder.now path in
    let edits = c.in-Ok.planned.edits.items in
    let k = goal.at.returns-in-Err-record-clause-stopped g c in
    let made = changes g k.After-edit_all_with_room in
    let wanted = replace (tree_shown old) path part in
    done refl (λ bytes left. has_then old history stands c.args.user wanted edits made
    (pair_of old) bytes (subst (λ n. DiskStands n bytes
    (history ++ map (event_by c.args.user) edits)) c.in-Ok-edit_all_with_room.ensures.pair
    (left_now new (history ++ map (event_by c.args.user) edits)
    (c.in-Ok-edit_all_with_room.ensures.acknowledged history stands) bytes
    (subst (λ d. g.R.Disk.may_leave d bytes) c.into_disk.ensures left))))

pub returns-in-Err-record-clause-any_moment : goal.returns-in-Err-record-clause-any_moment
returns-in-Err-record-clause-any_moment g c history stands =
    let old = c.args.replica in
    let path = c.args.path.now in
    let part = subtree c.args.folder.now path in
    let edits = c.in-Ok.planned.edits.items in
    let k = goal.at.returns-in-Err-record-clause-any_moment g c in
    let made = changes g k.After-edit_all_with_room in
    let wanted = replace (tree_shown old) path part in
    subst (λ d. LeavesOnly g.R.Disk.moment g.R.Disk.left_since (disk_of old) d
    (HasEitherTree (pair_of old) c.args.user history (tree_shown old) wanted))
    (sym c.into_disk.ensures)
    (leaves_either old history stands c.args.user wanted edits made
    (disk_of c.in-Ok-edit_all_with_room.replica)
    (c.in-Ok-edit_all_with_room.ensures.any_moment history stands))

pub returns-in-Err-record-clause-any_mark : goal.returns-in-Err-record-clause-any_mark
returns-in-Err-record-clause-any_mark g c kept keeps =
    with_marks c.args.archive.now c.record.new.archive c.args.path.now
    (or_absent c.in-Ok.planned.marks) (mark (subtree c.args.folder.now c.args.path.now))
    c.in-Ok.ensures.marks (c.record.ensures.any_moment kept keeps)
