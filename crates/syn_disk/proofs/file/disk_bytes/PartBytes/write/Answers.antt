use Rattle.std.proofs.Common.{◌∙◌, ap, sym}
use Rattle.syn_disk.specs.Disk.{overwritten}
use Rattle.syn_disk.specs.Padded.{padded}
use Rattle.syn_disk.specs.declared.disk.TheConstants.{PART_SIZE}
use Rattle.syn_disk.proofs.Padding.{overwritten-padded}
use Rattle.syn_disk.proofs.file.disk_bytes.PartBytes.write.Goals as goal

pub returns-then-not-is_empty : goal.returns-then-not-is_empty
returns-then-not-is_empty c =
    ap (λ xs. padded xs PART_SIZE 0) c.overwrite.ensures.items
    ∙ sym (overwritten-padded 0 _ PART_SIZE c.args.at c.args.bytes.now c.reach.ensures.kept)
    ∙ ap (λ xs. overwritten xs c.args.at c.args.bytes.now) c.reach.ensures.same
