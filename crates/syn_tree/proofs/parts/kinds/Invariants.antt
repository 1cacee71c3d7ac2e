use Rattle.std.proofs.Common.{◌≡◌, ◌++◌}
use Rattle.syn_tree.specs.Lists.{kinds_of, contents_at}
use Rattle.syn_tree.proofs.parts.kinds.Given as goal

abbrev pub invariant-loop-name : goal.invariant-loop-name
invariant-loop-name l = record {
  whole : l.fn.children.items ≡ l.yielded ++ l.name-iterator.rest.items;
  pushed : l.names.items ≡ kinds_of (contents_at l.yielded);
}
