use Rattle.std.proofs.Common.{◌≡◌, take}
use Rattle.syn_message.proofs.copies.copy_entries.Given as goal

abbrev pub invariant-loop-name : goal.invariant-loop-name
invariant-loop-name l = l.copy.items ≡ take l.name-index l.entries
