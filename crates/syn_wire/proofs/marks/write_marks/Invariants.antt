use Rattle.std.proofs.Common.{◌≡◌, ◌++◌, take, flat_map}
use Rattle.syn_model.specs.Contents.{digest_spelling}
use Rattle.syn_wire.specs.Trees.{pair_by}
use Rattle.syn_wire.proofs.marks.write_marks.Given as goal

abbrev pub invariant-loop-entry : goal.invariant-loop-entry
invariant-loop-entry l =
    l.out.items ≡ l.initial.out.items
    ++ flat_map (pair_by digest_spelling l.marks) (take l.entry-index l.list)
