use Rattle.std.proofs.Common.{◌≡◌, ◌++◌}
use Rattle.syn_wire.proofs.tree_reading.keyed.Given as goal

abbrev pub invariant-loop-placed : goal.invariant-loop-placed
invariant-loop-placed l = record {
  whole : l.fn.list.items ≡ l.yielded ++ l.placed-iterator.rest.items;
  pushed : l.entries.items ≡ l.yielded;
}
