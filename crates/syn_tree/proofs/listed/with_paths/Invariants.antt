use Rattle.std.proofs.Common.{◌≡◌, ◌++◌}
use Rattle.syn_tree.proofs.listed.with_paths.Given as goal

abbrev pub invariant-loop-entry : goal.invariant-loop-entry
invariant-loop-entry l = record {
  whole : l.fn.list.items ≡ l.yielded ++ l.entry-iterator.rest.items;
  pushed : l.entries.items ≡ l.yielded;
}
