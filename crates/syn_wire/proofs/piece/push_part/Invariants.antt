use Rattle.std.proofs.Common.{◌≡◌, ◌++◌, ℕ, filter, flat_map, length}
use Rattle.std.specs.FinMap.{entries}
use Rattle.syn_model.specs.Path.{Bytes}
use Rattle.syn_model.specs.Limits.{children}
use Rattle.syn_placed.specs.Pairs.{is_below}
use Rattle.syn_tree.specs.Contents.{found_content}
use Rattle.syn_wire.specs.Trees.{pair_spelling, standing_spelling}
use Rattle.syn_wire.specs.inner.Windows.{Shows}
use Rattle.syn_wire.proofs.piece.push_part.Given as goal

abbrev pub invariant-loop-pair : goal.invariant-loop-pair
invariant-loop-pair l = record {
  whole : l.yielded ++ l.pair-iterator ≡ filter (is_below l.path) (entries l.tree);
  shown : (offset : ℕ) (written : Bytes) →
      Shows offset written l.fn.window.kept.items l.fn.window.skip →
      Shows offset (written ++ (standing_spelling (length (children l.tree l.path))
      (found_content l.found) ++ flat_map (pair_spelling l.tree) l.yielded))
      l.window.kept.items l.window.skip;
}
