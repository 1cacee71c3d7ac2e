use Rattle.std.proofs.Common.{◌≡◌, ◌≤◌, ◌*◌, length, take, flat_map}
use Rattle.syn_model.specs.Contents.{digest_spelling}
use Rattle.syn_wire.specs.Trees.{pair_by}
use Rattle.syn_wire.proofs.marks.marks_length.Given as goal

abbrev pub invariant-loop-entry : goal.invariant-loop-entry
invariant-loop-entry l = record {
  so_far : l.length ≡ length
      (flat_map (pair_by digest_spelling l.marks) (take l.entry-index l.list));
  small : l.length ≤ 100 * l.entry-index;
}
