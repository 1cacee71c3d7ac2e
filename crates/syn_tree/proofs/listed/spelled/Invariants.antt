use Rattle.std.proofs.Common.{◌≡◌, take}
use Rattle.syn_placed.specs.Pairs.{spelling_length}
use Rattle.syn_tree.proofs.listed.spelled.Given as goal

abbrev pub invariant-loop-entry : goal.invariant-loop-entry
invariant-loop-entry l = l.size ≡ spelling_length (take l.entry-index l.list)
