use Rattle.std.proofs.Common.{◌∙◌, ◌≤◌, ◌+◌, ap, sym, length, replicate, true, false, arith}
use Rattle.std.proofs.lemmas.List.{length-replicate}
use Rattle.syn_disk.specs.Disk.{overwritten}
use Rattle.syn_disk.specs.inner.Memory.{Tracks}
use Rattle.syn_disk.specs.Padded.{padded}
use Rattle.syn_disk.specs.declared.disk.TheConstants.{PART_SIZE}
use Rattle.syn_disk.proofs.Padding.{overwritten-padded}
use Rattle.syn_disk.proofs.Tracking.{tracks_write}
use Rattle.syn_disk.proofs.simulated.part.SimulatedPart.write.Goals as goal

pub invariant_of-self : goal.invariant_of-self
invariant_of-self c =
    let part = c.reach.new.self in
    let tracks : Tracks c.overwrite.new.content.items part.synced.items c.set.new.self PART_SIZE =
    rw (c.overwrite.ensures.items, c.set.ensures)
    (tracks_write _ _ _ _ part.tracks c.args.at c.args.bytes.now c.reach.ensures.kept) in
    record {
      tracks = tracks;
      room = omega (arith, c.overwrite.ensures.room, part.room);
      synced_room = part.synced_room;
    }

pub returns-then-not-is_empty-clause-content : goal.returns-then-not-is_empty-clause-content
returns-then-not-is_empty-clause-content c =
    ap (λ xs. padded xs PART_SIZE 0) c.overwrite.ensures.items
    ∙ sym (overwritten-padded 0 _ PART_SIZE c.args.at c.args.bytes.now c.reach.ensures.kept)
    ∙ ap (λ xs. overwritten xs c.args.at c.args.bytes.now) c.reach.ensures.content

pub returns-then-not-is_empty-clause-written : goal.returns-then-not-is_empty-clause-written
returns-then-not-is_empty-clause-written c =
    let marks = replicate (length c.args.bytes.now) true in
    let part = c.reach.new.self in
    let fits : c.args.at + length marks ≤ length part.written = omega (
      arith,
      length-replicate
          (length c.args.bytes.now) true,
      c.reach.ensures.kept,
      part.tracks.written_size,
    ) in
    ap (λ xs. padded xs PART_SIZE false) c.set.ensures
    ∙ sym (overwritten-padded false _ PART_SIZE c.args.at marks fits)
    ∙ ap (λ xs. overwritten xs c.args.at marks) c.reach.ensures.written
