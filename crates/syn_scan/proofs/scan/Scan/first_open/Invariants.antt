use Rattle.std.proofs.Common.{◌-◌, length}
use Rattle.std.specs.FinMap.{entries}
use Rattle.syn_scan.specs.inner.Kept.{NoneNext}
use Rattle.syn_scan.proofs.scan.Scan.first_open.Given as goal

abbrev pub invariant-loop-at : goal.invariant-loop-at
invariant-loop-at l = NoneNext l.fn.self l.fn.out (entries l.fn.self.marks) l.at

abbrev pub decreases-loop-at : goal.decreases-loop-at
decreases-loop-at l = length (entries l.fn.self.marks) - l.at
