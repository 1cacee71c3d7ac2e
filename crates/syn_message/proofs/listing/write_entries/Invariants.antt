use Rattle.std.proofs.Common.{◌≡◌, ◌++◌, take}
use Rattle.syn_message.proofs.listing.write_entries.Given as goal
use Rattle.syn_message.specs.Listings.{entries_of}
use Rattle.syn_message.specs.inner.Listed.{each_spelling}

abbrev pub invariant-loop-name : goal.invariant-loop-name
invariant-loop-name l =
    l.body.items ≡ l.initial.body.items ++ each_spelling (entries_of (take l.name-index l.entries))
