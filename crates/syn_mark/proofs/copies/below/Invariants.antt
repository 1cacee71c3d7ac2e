use Rattle.std.proofs.Common.{◌≡◌, take}
use Rattle.syn_tree.specs.Lists.{stripped}
use Rattle.syn_mark.proofs.copies.below.Given as goal

abbrev pub invariant-loop-entry : goal.invariant-loop-entry
invariant-loop-entry g l = l.copies.items ≡ stripped l.at (take l.entry-index l.list)
