use Rattle.std.proofs.Common.{◌≡◌, ◌++◌, flat_map}
use Rattle.std.specs.FinMap.{entries}
use Rattle.syn_placed.specs.Pairs.{rooted}
use Rattle.syn_wire.specs.Trees.{pair_spelling}
use Rattle.syn_wire.proofs.tree.write_tree.Given as goal

abbrev pub invariant-loop-pair : goal.invariant-loop-pair
invariant-loop-pair l = record {
  whole : rooted (l.yielded ++ l.pair-iterator) ≡ entries l.tree;
  written : l.out.items ≡ l.initial.out.items ++ flat_map (pair_spelling l.tree) l.yielded;
}
