use Rattle.std.proofs.Common.{◌≡◌, ◌<◌, ◌≤◌, ℕ, false, true, slice_index_or, ◌-◌, length}
use Rattle.syn_simulate.proofs.notes.next_unset.Given as goal

abbrev pub invariant-loop-number : goal.invariant-loop-number
invariant-loop-number l = (l.from ≤ l.number)
    × ((other : ℕ) → l.from ≤ other → other < l.number → slice_index_or l.flags other false ≡ true)

abbrev pub decreases-loop-number : goal.decreases-loop-number
decreases-loop-number l = length l.flags - l.number
