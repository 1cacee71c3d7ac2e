use Rattle.std.proofs.Common.{◌≡◌, ◌++◌}
use Rattle.syn_tree.specs.Lists.{contents_at}
use Rattle.syn_mark.specs.Marks.{contents_in}
use Rattle.syn_mark.specs.Placings.{marks_of}
use Rattle.syn_recon.proofs.tree_scan.marks_at.Given as goal

abbrev pub invariant-loop-name : goal.invariant-loop-name
invariant-loop-name l = record {
  whole : l.fn.children.items ≡ l.yielded ++ l.name-iterator.rest.items;
  pushed : contents_in l.listed.items ≡ marks_of (contents_at l.yielded);
}
