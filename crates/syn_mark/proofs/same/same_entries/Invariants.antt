use Rattle.std.proofs.Common.{◌≡◌, length, take}
use Rattle.syn_mark.proofs.same.same_entries.Given as goal

abbrev pub invariant-loop-index : goal.invariant-loop-index
invariant-loop-index l = record {
  so_far : take l.index l.left ≡ take l.index l.right;
  lengths : length l.left ≡ length l.right;
}
