use Rattle.std.proofs.Common.{◌≡◌, ◌≤◌, ◌+◌, ◌-◌, min, length, arith}
use Rattle.syn_disk.specs.Mirror.{part_of, length-part}
use Rattle.syn_disk.specs.declared.disk.TheConstants.{PART_SIZE}
use Rattle.syn_disk.proofs.Joined.{joined_write}
use Rattle.syn_disk.proofs.file.disk_bytes.DiskBytes.write.Goals as goal

pub returns : goal.returns
returns c =
    let image = c.args.self.now in
    let bytes = c.args.bytes.now in
    let k = c.min-low.result in
    let is_k : k ≡ min (PART_SIZE - c.args.at) (length bytes) =
    omega (arith, c.min-low.ensures, c.saturating_sub.ensures) in
    let fits : c.args.at + length bytes ≤ PART_SIZE + length (part_of image.high) =
    omega (arith, c.requires, length-part image.high) in
    let parts = c.split_at.ensures in
    joined_write 0 (part_of image.low) (part_of image.high) PART_SIZE c.args.at bytes
    (length-part image.low) fits k is_k _ _ _ _ _ _
    (omega (arith, c.min.ensures)) (omega (arith, c.saturating_sub-2.ensures)) parts.front
    parts.back c.write.ensures c.write-2.ensures
