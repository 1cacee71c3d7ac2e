use Rattle.std.proofs.Common.{◌≡◌, ◌++◌, map}
use Rattle.std.specs.List.{filter_map}
use Rattle.syn_folder.specs.Looks.{look_of, node_of, placed}
use Rattle.syn_folder.proofs.system.picture.nodes_of.Given as goal

abbrev pub invariant-loop-seen : goal.invariant-loop-seen
invariant-loop-seen l = record {
  whole : l.fn.looks.items ≡ l.yielded ++ l.seen-iterator.rest.items;
  entries : l.entries.items ≡ filter_map node_of l.yielded;
  looked : map placed l.looked.items ≡ filter_map look_of l.yielded;
}
