use Rattle.std.proofs.Common.{◌≡◌, ◌∙◌, IfOk, ap, inr, subst, sym}
use Rattle.std.proofs.lemmas.Result.{IfOk-weaker}
use Rattle.syn_folder.specs.Strangers.{directory_at, skipped}
use Rattle.syn_model.specs.Tree.{Tree, subtree}
use Rattle.syn_replica.proofs.WithRoomLemmas.{still}
use Rattle.syn_replica.specs.Disks.{DiskStands}
use Rattle.syn_replica.specs.Replica.{Stands, disk_of, pair_of, tree_shown}
use Rattle.syn_command.specs.Imports.{IsImported, LeavesImport, disk_left}
use Rattle.syn_command.proofs.ImportLemmas.{Leaves, leaves_before}
use Rattle.syn_command.proofs.import.import_folder.Goals as goal

pub returns-in-Ok-clause-part : goal.returns-in-Ok-clause-part
returns-in-Ok-clause-part g c history stands none =
    let path = c.args.import.path.now in
    let tree = g.F.Folder.tree c.args.folder.now in
    let whole = c.in-Ok.ensures.part
    ∙ ap (skipped (directory_at c.tree.result.now path) tree) none in
    IfOk-weaker c.import_part.result _ _ (λ new has. has ∙ whole)
    (c.import_part.ensures.part history stands)

pub returns-in-Ok-clause-any_moment : goal.returns-in-Ok-clause-any_moment
returns-in-Ok-clause-any_moment g c history stands =
    let old = c.args.replica in
    let path = c.args.import.path.now in
    let tree = g.F.Folder.tree c.args.folder.now in
    let strangers = g.F.Folder.strangers c.args.folder.now in
    let whole = c.in-Ok.ensures.part
    ∙ ap (λ (t : Tree). skipped (directory_at t path) tree strangers) c.tree.ensures in
    subst (λ part. Leaves g.D.Disk (disk_of old) (disk_left c.import_part.result)
    (LeavesImport (pair_of old) history c.args.import.user path part))
    whole (c.import_part.ensures.any_moment history stands)

pub returns-in-Ok-clause-none : goal.returns-in-Ok-clause-none
returns-in-Ok-clause-none g c history stands none same =
    let path = c.args.import.path.now in
    let tree = g.F.Folder.tree c.args.folder.now in
    let whole = c.in-Ok.ensures.part
    ∙ ap (skipped (directory_at c.tree.result.now path) tree) none in
    c.import_part.ensures.none history stands (same ∙ sym whole)

pub returns-in-Err-clause-any_moment : goal.returns-in-Err-clause-any_moment
returns-in-Err-clause-any_moment g c history stands =
    let old = c.args.replica in
    let path = c.args.import.path.now in
    let part = skipped (directory_at (tree_shown old) path) (g.F.Folder.tree c.args.folder.now)
    (g.F.Folder.strangers c.args.folder.now) in
    subst (λ left. Leaves g.D.Disk (disk_of old) left
    (LeavesImport (pair_of old) history c.args.import.user path part)) (sym c.into_disk.ensures)
    (leaves_before old (disk_of old) c.args.import.user path part history stands
    (still g.met.D.Disk.only_now old history stands))

pub returns-in-Err-clause-unmade : goal.returns-in-Err-clause-unmade
returns-in-Err-clause-unmade g c history stands =
    let old = c.args.replica in
    inr (subst (λ left. Leaves g.D.Disk (disk_of old) left
    (λ bytes. DiskStands (pair_of old) bytes history)) (sym c.into_disk.ensures)
    (still g.met.D.Disk.only_now old history stands))
