use Rattle.std.proofs.Common.{◌≡◌, ◌∙◌, ap, get_or}
use Rattle.syn_disk.specs.Parts.{PartsMayLeave, both_contents, length-parts}
use Rattle.syn_disk.proofs.Joined.{none_joined}
use Rattle.syn_disk.proofs.Moments.{elapses_noted, only_durable}
use Rattle.syn_disk.proofs.simulated.memory.MemDiskDisk.sync.Goals as goal

pub returns-clause-durable : goal.returns-clause-durable
returns-clause-durable c =
    let disk = c.args.self.now in
    let same : both_contents c.sync.new.self c.sync-2.new.self ≡ both_contents disk.low disk.high =
    cc (c.sync.ensures.content, c.sync-2.ensures.content) in
    λ after left. only_durable _ _ (length-parts c.sync.new.self c.sync-2.new.self)
    (none_joined _ _ c.sync.ensures.clean c.sync-2.ensures.clean) after left ∙ same

pub returns-clause-stop : goal.returns-clause-stop
returns-clause-stop c =
    let disk = c.args.self.now in
    let same : both_contents c.sync.new.self c.sync-2.new.self ≡ both_contents disk.low disk.high =
    cc (c.sync.ensures.content, c.sync-2.ensures.content) in
    λ after left. record {
      whole = left.whole;
      kept =
          λ i none. left.kept i (none_joined _ _ c.sync.ensures.clean c.sync-2.ensures.clean i)
          ∙ ap (λ xs. get_or xs i 0) same;
    }

pub returns-clause-time : goal.returns-clause-time
returns-clause-time c = rw c.note.ensures (elapses_noted PartsMayLeave _ _ _)
