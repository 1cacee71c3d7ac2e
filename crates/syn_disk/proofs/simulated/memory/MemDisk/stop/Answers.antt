use Rattle.std.proofs.Common.{◌∙◌, sym}
use Rattle.syn_disk.specs.SimulatedPart.{content_of}
use Rattle.syn_disk.specs.Parts.{length-part, length-synced, length-written}
use Rattle.syn_disk.proofs.Stopped.{left_joined}
use Rattle.syn_disk.proofs.simulated.memory.MemDisk.stop.Goals as goal

pub returns-clause-each : goal.returns-clause-each
returns-clause-each c =
    let low = c.args.self.now.low in
    rw (sym c.next_leaves-leaves.ensures.now)
    (left_joined _ (content_of low) _ _ _ _ _ _ _ (length-synced low ∙ sym (length-part low))
    (length-written low ∙ sym (length-part low)) c.stop.ensures.each c.stop-2.ensures.each)
