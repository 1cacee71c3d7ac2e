use Rattle.std.proofs.Common.{◌≡◌, take}
use Rattle.syn_folder.specs.Strangers.{directory_at, skipped}
use Rattle.syn_folder.proofs.import.skipping.Given as goal

abbrev pub invariant-loop-stranger : goal.invariant-loop-stranger
invariant-loop-stranger g l =
    l.tree ≡ skipped (directory_at l.old l.path) (g.F.Folder.tree l.folder)
    (take l.stranger-index l.stranger-items)
