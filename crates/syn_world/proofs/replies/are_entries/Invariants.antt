use Rattle.std.proofs.Common.{take}
use Rattle.std.specs.Prelude.{All}
use Rattle.syn_message.specs.Listings.{IsEntry, entry_of}
use Rattle.syn_world.proofs.replies.are_entries.Given as goal

abbrev pub invariant-loop-name : goal.invariant-loop-name
invariant-loop-name l = All (λ entry. IsEntry (entry_of entry)) (take l.name-index l.entries)
