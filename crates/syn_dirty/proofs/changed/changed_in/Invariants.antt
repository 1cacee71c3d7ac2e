use Rattle.std.proofs.Common.{◌≡◌, ◌++◌, vec_len, reverse}
use Rattle.syn_dirty.specs.Paths.{paths_at}
use Rattle.syn_dirty.specs.inner.Rows.{Rows, changed, rows_at}
use Rattle.syn_dirty.proofs.changed.changed_in.Given as goal

abbrev pub invariant-loop-path : goal.invariant-loop-path
invariant-loop-path l =
    (after : Rows) × (rows_at l.fn.rows.items ≡ rows_at l.rows.items ++ after)
    × (paths_at l.paths.items ≡ reverse (changed after))

abbrev pub decreases-loop-path : goal.decreases-loop-path
decreases-loop-path l = vec_len l.rows
