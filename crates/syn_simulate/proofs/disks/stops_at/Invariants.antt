use Rattle.std.proofs.Common.{◌≡◌, take}
use Rattle.syn_simulate.specs.Disks.{stops_at}
use Rattle.syn_simulate.proofs.disks.stops_at.Given as goal

abbrev pub invariant-loop-line : goal.invariant-loop-line
invariant-loop-line l = l.stops.items ≡ stops_at l.machine (take l.line-index l.lines)
