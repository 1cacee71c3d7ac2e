use Rattle.std.proofs.Common.{◌≡◌, ◌≤◌, ◌++◌, ◌+◌, ◌-◌, length, drop, None, option_map}
use Rattle.syn_scan.specs.Found.{scan_of}
use Rattle.syn_dirty.specs.Paths.{paths_at}
use Rattle.syn_recon.specs.Items.{items_of}
use Rattle.syn_recon.specs.inner.Walks.{decided, merged, target}
use Rattle.syn_recon.specs.inner.Decided.{walk}
use Rattle.syn_recon.proofs.walk.items_along.Given as goal
use Rattle.syn_path.specs.Sides.{which_of}

abbrev pub invariant-loop-dirty : goal.invariant-loop-dirty
invariant-loop-dirty l = record {
  left : l.left_at ≤ length l.fn.lefts;
  right : l.right_at ≤ length l.fn.rights;
  items : items_of l.items.items
      ++ walk (decided (option_map which_of l.fn.preference) (scan_of l.fn.left)
      (scan_of l.fn.right) l.fn.archive)
      (merged (paths_at (drop l.left_at l.fn.lefts)) (paths_at (drop l.right_at l.fn.rights)))
      (target l.settled) ≡ walk (decided (option_map which_of l.fn.preference) (scan_of l.fn.left)
      (scan_of l.fn.right) l.fn.archive)
      (merged (paths_at l.fn.lefts) (paths_at l.fn.rights)) None;
}

abbrev pub decreases-loop-dirty : goal.decreases-loop-dirty
decreases-loop-dirty l = (length l.fn.lefts + length l.fn.rights) - (l.left_at + l.right_at)
