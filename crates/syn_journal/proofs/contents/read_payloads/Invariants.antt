use Rattle.std.proofs.Common.{◌≡◌, ◌+◌, ◌-◌, ◌<◌, ◌≤◌, take, drop}
use Rattle.syn_journal.specs.Layout.{half_size, start_of, records_of}
use Rattle.syn_journal.specs.Opened.{payloads_of}
use Rattle.syn_disk.specs.Calls.{MakesAtLeast}
use Rattle.syn_disk.specs.Stops.{Untouched}
use Rattle.syn_journal.proofs.contents.read_payloads.Given as goal

abbrev pub invariant-loop-payloads : goal.invariant-loop-payloads
invariant-loop-payloads g l = record {
  ordered : l.first ≤ l.gate;
  within : l.gate < half_size;
  so_far : take (l.gate - l.first) (drop (start_of l.half + l.first) (g.D.Disk.seen l.initial.disk))
      ≡ records_of (payloads_of l.payloads);
  untouched : Untouched g.D.Disk.seen g.D.Disk.may_leave g.D.Disk.moment g.D.Disk.left_since
      l.initial.disk l.disk;
  count : g.D.Disk.failures l.disk ≡ g.D.Disk.failures l.initial.disk;
  calls : MakesAtLeast 0 (g.D.Disk.arms l.initial.disk) (g.D.Disk.arms l.disk);
}

abbrev pub decreases-loop-payloads : goal.decreases-loop-payloads
decreases-loop-payloads g l = half_size - l.gate
