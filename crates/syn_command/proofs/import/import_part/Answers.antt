use Rattle.std.proofs.Common.{◌++◌, ap, inr, map, subst, append-nil, ◌∙◌, sym}
use Rattle.std.proofs.lemmas.Result.{IfOk-weaker}
use Rattle.syn_model.specs.Event.{Event}
use Rattle.syn_model.specs.Tree.{Tree, subtree}
use Rattle.syn_replica.proofs.WithRoomLemmas.{still}
use Rattle.syn_replica.specs.Edits.{event_by}
use Rattle.syn_replica.specs.Disks.{DiskStands}
use Rattle.syn_replica.specs.Replica.{Stands, disk_of, pair_of, tree_shown}
use Rattle.syn_command.specs.Imports.{IsPlanRefusal, LeavesImport, disk_left}
use Rattle.syn_command.proofs.ImportLemmas.{Leaves, has_part, is_imported, leaves_before}
use Rattle.syn_command.proofs.ImportLemmas.{leaves_import, planned_over}
use Rattle.syn_tree.specs.declared.edit.Edit.{Edit}
use Rattle.syn_command.proofs.import.import_part.Goals as goal

pub returns-in-Ok-clause-part : goal.returns-in-Ok-clause-part
returns-in-Ok-clause-part g c history stands =
    let old = c.args.replica in
    let path = c.args.path.now in
    let part = c.args.part.now in
    let edits = c.in-Ok.edits.items in
    IfOk-weaker c.make_edits.result _ _
    (λ new stood. has_part old new c.args.user path part edits history
    (planned_over c.tree.result.now (tree_shown old) path part edits c.tree.ensures
    c.in-Ok.ensures.changes) stands stood) (c.make_edits.ensures.made history stands)

pub returns-in-Ok-clause-imported : goal.returns-in-Ok-clause-imported
returns-in-Ok-clause-imported g c history stands =
    let old = c.args.replica in
    let path = c.args.path.now in
    let part = c.args.part.now in
    let edits = c.in-Ok.edits.items in
    IfOk-weaker c.make_edits.result _ _
    (λ new stood. is_imported old new c.args.user path part edits history
    (planned_over c.tree.result.now (tree_shown old) path part edits c.tree.ensures
    c.in-Ok.ensures.changes) stands stood) (c.make_edits.ensures.made history stands)

pub returns-in-Ok-clause-none : goal.returns-in-Ok-clause-none
returns-in-Ok-clause-none g c history stands same =
    let path = c.args.path.now in
    let event : Edit → Event = event_by c.args.user in
    let nothing = c.in-Ok.ensures.none
    (ap (λ (t : Tree). subtree t path) c.tree.ensures ∙ same) in
    IfOk-weaker c.make_edits.result _ _
    (λ new stood. subst (Stands new)
    (ap (λ es. history ++ map event es) nothing ∙ append-nil history) stood)
    (c.make_edits.ensures.made history stands)

pub returns-in-Ok-clause-any_moment : goal.returns-in-Ok-clause-any_moment
returns-in-Ok-clause-any_moment g c history stands =
    let old = c.args.replica in
    let path = c.args.path.now in
    let part = c.args.part.now in
    let edits = c.in-Ok.edits.items in
    leaves_import old (disk_left c.make_edits.result) c.args.user path part history stands edits
    (planned_over c.tree.result.now (tree_shown old) path part edits c.tree.ensures
    c.in-Ok.ensures.changes) (c.make_edits.ensures.any_moment history stands)

pub returns-in-Err-clause-any_moment : goal.returns-in-Err-clause-any_moment
returns-in-Err-clause-any_moment g c history stands =
    let old = c.args.replica in
    let path = c.args.path.now in
    let part = c.args.part.now in
    subst (λ left. Leaves g.D.Disk (disk_of old) left
    (LeavesImport (pair_of old) history c.args.user path part)) (sym c.into_disk.ensures)
    (leaves_before old (disk_of old) c.args.user path part history stands
    (still g.met.D.Disk.only_now old history stands))

pub returns-in-Err-clause-unmade : goal.returns-in-Err-clause-unmade
returns-in-Err-clause-unmade g c history stands =
    let old = c.args.replica in
    inr (subst (λ left. Leaves g.D.Disk (disk_of old) left
    (λ bytes. DiskStands (pair_of old) bytes history)) (sym c.into_disk.ensures)
    (still g.met.D.Disk.only_now old history stands))
