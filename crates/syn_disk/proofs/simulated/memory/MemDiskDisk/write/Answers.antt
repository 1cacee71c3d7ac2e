use Rattle.std.proofs.Common.{◌≡◌, ◌∙◌, ◌≤◌, ◌+◌, ◌-◌, min, true, false, length, replicate, ap, sym}
use Rattle.std.proofs.Common.{subst, arith}
use Rattle.std.proofs.lemmas.List.{length-replicate, take-replicate, drop-replicate}
use Rattle.syn_disk.specs.Disk.{overwritten}
use Rattle.syn_disk.specs.SimulatedPart.{content_of, written_of}
use Rattle.syn_disk.specs.Parts.{PartsMayLeave, both_contents, both_written, length-part}
use Rattle.syn_disk.specs.Parts.{length-written, length-parts, length-both_written}
use Rattle.syn_disk.specs.Moments.{MayLeave}
use Rattle.syn_disk.specs.Written.{is_written}
use Rattle.syn_disk.specs.declared.disk.TheConstants.{PART_SIZE}
use Rattle.syn_disk.proofs.Flags.{marked-outside}
use Rattle.syn_disk.proofs.Joined.{joined_write}
use Rattle.syn_disk.proofs.Moments.{elapses_noted, left_before_write}
use Rattle.syn_disk.proofs.simulated.memory.MemDiskDisk.write.Goals as goal

pub returns-clause-written : goal.returns-clause-written
returns-clause-written c =
    let disk = c.args.self.now in
    let bytes = c.args.bytes.now in
    let k = c.min-low.result in
    let is_k : k ≡ min (PART_SIZE - c.args.at) (length bytes) =
    omega (arith, c.min-low.ensures, c.saturating_sub.ensures) in
    let fits : c.args.at + length bytes ≤ PART_SIZE + length (content_of disk.high) =
    omega (arith, c.requires, length-part disk.high) in
    let parts = c.split_at.ensures in
    joined_write 0 (content_of disk.low) (content_of disk.high) PART_SIZE c.args.at bytes
    (length-part disk.low) fits k is_k _ _ _ _ _ _
    (omega (arith, c.min.ensures)) (omega (arith, c.saturating_sub-2.ensures)) parts.front
    parts.back c.write.ensures.content c.write-2.ensures.content

pub returns-clause-flags : goal.returns-clause-flags
returns-clause-flags c =
    let disk = c.args.self.now in
    let n = length c.args.bytes.now in
    let k = c.min-low.result in
    let long = length-replicate n true in
    let is_k : k ≡ min (PART_SIZE - c.args.at) (length (replicate n true)) =
    omega (arith, long, c.min-low.ensures, c.saturating_sub.ensures) in
    let fits : c.args.at + length (replicate n true) ≤ PART_SIZE + length (written_of disk.high) =
    omega (arith, long, c.requires, length-written disk.high) in
    let parts = c.split_at.ensures in
    let within : k ≤ n = omega (arith, is_k, long) in
    let others : length c.split_at.result.1.now ≡ n - k = omega (arith, parts.back_len) in
    joined_write false (written_of disk.low) (written_of disk.high) PART_SIZE c.args.at
    (replicate n true) (length-written disk.low) fits k is_k _ _ _ _ _ _
    (omega (arith, c.min.ensures)) (omega (arith, c.saturating_sub-2.ensures))
    (ap (λ m. replicate m true) parts.front_len ∙ sym (take-replicate k n true within))
    (ap (λ m. replicate m true) others ∙ sym (drop-replicate k n true))
    c.write.ensures.written c.write-2.ensures.written

pub returns-clause-stop : goal.returns-clause-stop
returns-clause-stop c =
    let disk = c.args.self.now in
    let bytes = c.args.bytes.now in
    let n = length bytes in
    let low = c.write.new.self in
    let high = c.write-2.new.self in
    let content = both_contents disk.low disk.high in
    let written = both_written disk.low disk.high in
    let fits : c.args.at + n ≤ length content =
    omega (arith, c.requires, length-parts disk.low disk.high) in
    let in_written : c.args.at + n ≤ length written =
    omega (arith, c.requires, length-both_written disk.low disk.high) in
    λ left may. left_before_write content bytes c.args.at (length-parts disk.low disk.high) fits
    (is_written written) (is_written (overwritten written c.args.at (replicate n true)))
    (λ i apart none. marked-outside written c.args.at n in_written true i apart ∙ none) left
    (subst (λ ws. MayLeave (overwritten content c.args.at bytes) (is_written ws) left)
    (returns-clause-flags c)
    (subst (λ xs. MayLeave xs (is_written (both_written low high)) left)
    (returns-clause-written c) may))

pub returns-clause-time : goal.returns-clause-time
returns-clause-time c = rw c.note.ensures (elapses_noted PartsMayLeave _ _ _)
