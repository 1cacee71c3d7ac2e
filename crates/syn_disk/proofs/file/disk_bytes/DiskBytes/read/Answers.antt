use Rattle.std.proofs.Common.{◌≡◌, ◌≤◌, ◌+◌, ◌-◌, min, length, arith}
use Rattle.syn_disk.specs.Mirror.{part_of, length-part}
use Rattle.syn_disk.specs.declared.disk.TheConstants.{PART_SIZE}
use Rattle.syn_disk.proofs.Joined.{joined_read}
use Rattle.syn_disk.proofs.file.disk_bytes.DiskBytes.read.Goals as goal

pub returns-clause-into : goal.returns-clause-into
returns-clause-into c =
    let image = c.args.self.now in
    let at = c.args.at in
    let n = length c.args.into.now in
    let k = c.min-low.result in
    let is_k : k ≡ min (PART_SIZE - at) n =
    omega (arith, c.min-low.ensures, c.saturating_sub.ensures) in
    let fits : at + n ≤ PART_SIZE + length (part_of image.high) =
    omega (arith, c.requires, length-part image.high) in
    let parts = c.split_at_mut-front.ensures in
    joined_read (part_of image.low) (part_of image.high) PART_SIZE at n
    (length-part image.low) fits k is_k _ _ _ _ _ _
    (omega (arith, c.min.ensures)) (omega (arith, c.saturating_sub-2.ensures)) parts.front_len
    (omega (arith, parts.back_len)) c.read.ensures.into c.read-2.ensures.into
