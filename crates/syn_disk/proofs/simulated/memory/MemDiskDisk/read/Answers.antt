use Rattle.std.proofs.Common.{◌≡◌, ◌≤◌, ◌+◌, ◌-◌, min, length, arith}
use Rattle.syn_disk.specs.SimulatedPart.{content_of}
use Rattle.syn_disk.specs.Parts.{PartsMayLeave, length-part}
use Rattle.syn_disk.specs.declared.disk.TheConstants.{PART_SIZE}
use Rattle.syn_disk.proofs.Joined.{joined_read}
use Rattle.syn_disk.proofs.Moments.{elapses_noted}
use Rattle.syn_disk.proofs.simulated.memory.MemDiskDisk.read.Goals as goal

pub returns-clause-bytes : goal.returns-clause-bytes
returns-clause-bytes c =
    let disk = c.args.self.now in
    let at = c.args.at in
    let n = length c.args.into.now in
    let k = c.min-low.result in
    let is_k : k ≡ min (PART_SIZE - at) n =
    omega (arith, c.min-low.ensures, c.saturating_sub.ensures) in
    let fits : at + n ≤ PART_SIZE + length (content_of disk.high) =
    omega (arith, c.requires, length-part disk.high) in
    let parts = c.split_at_mut-front.ensures in
    joined_read (content_of disk.low) (content_of disk.high) PART_SIZE at n
    (length-part disk.low) fits k is_k _ _ _ _ _ _
    (omega (arith, c.min.ensures)) (omega (arith, c.saturating_sub-2.ensures)) parts.front_len
    (omega (arith, parts.back_len)) c.read.ensures.into c.read-2.ensures.into

pub returns-clause-time : goal.returns-clause-time
returns-clause-time c = rw c.note.ensures (elapses_noted PartsMayLeave _ _ _)
