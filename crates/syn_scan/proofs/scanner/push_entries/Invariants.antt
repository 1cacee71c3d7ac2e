use Rattle.std.proofs.Common.{◌≡◌, ◌++◌}
use Rattle.syn_mark.specs.Marks.{AreMarkPairs}
use Rattle.syn_scan.specs.Asked.{named, contents_in}
use Rattle.syn_scan.proofs.scanner.push_entries.Given as goal

abbrev pub invariant-loop-name : goal.invariant-loop-name
invariant-loop-name l = record {
  whole : l.fn.entries.items ≡ l.yielded ++ l.name-iterator.rest.items;
  pushed : l.list.items ≡ l.fn.list.items ++ named (contents_in l.yielded);
  lawful : AreMarkPairs (named (contents_in l.yielded));
}
