use Rattle.std.proofs.Common.{◌≡◌, ◌++◌}
use Rattle.syn_mark.specs.Placings.{marked}
use Rattle.syn_mark.proofs.marking.push_marks.Given as goal

abbrev pub invariant-loop-pair : goal.invariant-loop-pair
invariant-loop-pair l = record {
  whole : l.fn.source ≡ l.yielded ++ l.pair-iterator;
  pushed : l.list.items ≡ l.fn.list.items ++ marked l.yielded;
}
