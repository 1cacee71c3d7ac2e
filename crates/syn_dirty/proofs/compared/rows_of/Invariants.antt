use Rattle.std.proofs.Common.{◌≡◌, ◌++◌, ◌+◌, length}
use Rattle.std.specs.FinMap.{entries}
use Rattle.syn_model.specs.Dirty.{is_unstable}
use Rattle.syn_scan.specs.Found.{scan_of}
use Rattle.syn_dirty.specs.inner.Rows.{compared, with_set, rows_at}
use Rattle.syn_dirty.proofs.compared.rows_of.Given as goal

abbrev pub invariant-loop-path : goal.invariant-loop-path
invariant-loop-path l =
    rows_at l.rows.items ++ with_set (is_unstable (scan_of l.fn.scan)) (compared l.lefts l.rights)
    ≡ with_set (is_unstable (scan_of l.fn.scan))
    (compared (entries l.fn.scan.marks) (entries l.fn.archive))

abbrev pub decreases-loop-path : goal.decreases-loop-path
decreases-loop-path l = length l.lefts + length l.rights
