use Rattle.std.proofs.Common.{◌≡◌, take}
use Rattle.syn_tree.proofs.listed.with_keys.Given as goal

abbrev pub invariant-loop-entry : goal.invariant-loop-entry
invariant-loop-entry l = l.entries.items ≡ take l.entry-index l.list
