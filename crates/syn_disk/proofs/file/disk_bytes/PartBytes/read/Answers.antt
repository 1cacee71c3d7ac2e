use Rattle.std.proofs.Common.{◌∙◌, ap, sym, length, take, drop}
use Rattle.syn_disk.specs.declared.disk.TheConstants.{PART_SIZE}
use Rattle.syn_disk.proofs.Padding.{part-padded}
use Rattle.syn_disk.proofs.file.disk_bytes.PartBytes.read.Goals as goal

pub returns-then-not-is_empty-clause-into : goal.returns-then-not-is_empty-clause-into
returns-then-not-is_empty-clause-into c =
    let n = length c.args.into.now in
    c.copy_out.ensures ∙ sym (part-padded 0 _ PART_SIZE c.args.at n c.reach.ensures.kept)
    ∙ ap (λ xs. take n (drop c.args.at xs)) c.reach.ensures.same
