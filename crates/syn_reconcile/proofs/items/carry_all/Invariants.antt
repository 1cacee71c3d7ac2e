use Rattle.std.proofs.Common.{◌≡◌, ◌++◌}
use Rattle.syn_archive.specs.Archive.{Stands as Keeps, disk_of as marks_disk, pair_of as marks_pair}
use Rattle.syn_disk.specs.Stops.{LeavesOnly}
use Rattle.syn_model.specs.Archive.{Archive as Kept}
use Rattle.syn_model.specs.History.{History}
use Rattle.syn_recon.specs.Items.{items_of}
use Rattle.syn_replica.specs.Replica.{Stands, disk_of, pair_of}
use Rattle.syn_reconcile.specs.Settlings.{GoesOn, after_all, items_in, trees_of}
use Rattle.syn_reconcile.specs.UnderWay.{AreApart, ReachesMarks, ReachesTree}
use Rattle.syn_reconcile.proofs.items.carry_all.Given as goal

abbrev pub invariant-loop-item : goal.invariant-loop-item
invariant-loop-item g l =
    let tree = g.F.EditedFolder.tree in
    let beside = g.F.EditedFolder.strangers in
    let first = l.initial.replica in
    let found = trees_of (tree l.initial.folder) first l.initial.archive in
    let planned = items_of l.fn.items.items in
    record {
      whole : l.fn.items.items ≡ l.yielded ++ l.item-iterator.rest.items;
      items : items_in l.settled.items ≡ items_of l.yielded;
      carried : (history : History) (kept : Kept) → Stands first history →
          Keeps l.initial.archive kept → GoesOn l.user history (after_all found l.settled.items)
          (tree l.folder) l.replica l.archive;
      moments : (history : History) (kept : Kept) → Stands first history →
          Keeps l.initial.archive kept → LeavesOnly g.R.Disk.moment g.R.Disk.left_since
          (disk_of first) (disk_of l.replica)
          (ReachesTree planned (pair_of first) l.user history found);
      marks : (history : History) (kept : Kept) → Stands first history →
          Keeps l.initial.archive kept → LeavesOnly g.A.Disk.moment g.A.Disk.left_since
          (marks_disk l.initial.archive) (marks_disk l.archive)
          (ReachesMarks planned (marks_pair l.initial.archive) found);
      pair : pair_of l.replica ≡ pair_of first;
      marked : marks_pair l.archive ≡ marks_pair l.initial.archive;
      strangers : beside l.folder ≡ beside l.initial.folder;
      apart : (history : History) (kept : Kept) → Stands first history →
          Keeps l.initial.archive kept → AreApart (beside l.initial.folder) found
          l.settled.items;
    }
