use Rattle.std.proofs.Common.{◌∙◌}
use Rattle.syn_disk.specs.Parts.{PartsMayLeave, length-parts}
use Rattle.syn_disk.proofs.Moments.{elapses_noted, only_durable}
use Rattle.syn_disk.proofs.Stopped.{unwritten_stays}
use Rattle.syn_disk.proofs.simulated.memory.MemDiskRestart.restart.Goals as goal

pub returns-clause-left : goal.returns-clause-left
returns-clause-left c =
    let left = c.stop.ensures.each in
    record {
      whole = left.size ∙ length-parts c.args.self.low c.args.self.high;
      kept = unwritten_stays _ _ _ _ _ left;
    }

pub returns-clause-durable : goal.returns-clause-durable
returns-clause-durable c =
    only_durable _ _ (length-parts c.stop.new.self.low c.stop.new.self.high)
    c.stop.ensures.synced.none_written

pub returns-clause-time : goal.returns-clause-time
returns-clause-time c = rw c.stop.ensures.past (elapses_noted PartsMayLeave _ _ _)
