use Rattle.std.proofs.Common.{◌≡◌, ◌++◌}
use Rattle.syn_message.proofs.listing.read_each.Given as goal
use Rattle.syn_message.specs.Listings.{entries_of}
use Rattle.syn_message.specs.inner.Listed.{AreEntries, each_spelling}

abbrev pub invariant-loop-read : goal.invariant-loop-read
invariant-loop-read l = record {
  so_far : AreEntries l._read (entries_of l.entries.items);
  spelled : l.initial.reader ≡ each_spelling (entries_of l.entries.items) ++ l.reader;
}
