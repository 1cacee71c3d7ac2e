use Rattle.std.proofs.Common.{◌≡◌, ◌<◌, ℕ, false, take}
use Rattle.syn_history.specs.Index.{is_touched_at as touched_at}
use Rattle.syn_history.proofs.index.is_touched_above.Given as goal

abbrev pub invariant-loop-depth : goal.invariant-loop-depth
invariant-loop-depth l =
    (k : ℕ) → k < l.depth → touched_at l.since l.index (take k l.names) ≡ false
