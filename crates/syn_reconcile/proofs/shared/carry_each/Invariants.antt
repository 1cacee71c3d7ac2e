use Rattle.std.proofs.Common.{◌≡◌, ◌++◌}
use Rattle.syn_archive.specs.Archive.{Stands as Keeps, disk_of, marks_shown, pair_of}
use Rattle.syn_disk.specs.Stops.{LeavesOnly}
use Rattle.syn_model.specs.Archive.{Archive as Kept}
use Rattle.syn_recon.specs.Items.{items_of}
use Rattle.syn_shared.specs.Shared.{IsFor}
use Rattle.syn_reconcile.specs.Settlings.{here, items_in}
use Rattle.syn_reconcile.specs.Shared.{HasSeenMarks, HoldInTurn, IsBeside, LeaveAlone}
use Rattle.syn_reconcile.specs.Shared.{after_all_seen}
use Rattle.syn_reconcile.proofs.shared.carry_each.Given as goal

abbrev pub invariant-loop-item : goal.invariant-loop-item
invariant-loop-item g l =
    let tree = g.F.EditedFolder.tree in
    let strangers = g.F.EditedFolder.strangers in
    let found = here (tree l.initial.folder) l.side.seen.now.tree (marks_shown l.initial.archive) in
    record {
      whole : l.fn.items.items ≡ l.yielded ++ l.item-iterator.rest.items;
      items : items_in l.settled.items ≡ items_of l.yielded;
      of : IsFor l.side.shared.now l.pass;
      carried : (kept : Kept) → Keeps l.initial.archive kept
          → IsBeside (after_all_seen found l.settled.items) (tree l.folder) l.archive;
      holds : (kept : Kept) → Keeps l.initial.archive kept
          → HoldInTurn l.side.shared.now l.side.user l.side.seen.now.position found l.settled.items
          l.initial.pass l.pass;
      marks : (kept : Kept) → Keeps l.initial.archive kept
          → LeavesOnly g.A.Disk.moment g.A.Disk.left_since (disk_of l.initial.archive)
          (disk_of l.archive) (HasSeenMarks l.side.shared.now l.side.user l.side.seen.now.position
          (pair_of l.initial.archive) (items_of l.fn.items.items) found l.initial.pass);
      marked : pair_of l.archive ≡ pair_of l.initial.archive;
      apart : LeaveAlone (strangers l.initial.folder) l.side.seen.now.tree l.settled.items;
      strangers : strangers l.folder ≡ strangers l.initial.folder;
    }
