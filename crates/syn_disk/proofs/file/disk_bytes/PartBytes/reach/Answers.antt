use Rattle.std.proofs.Common.{◌∙◌, ap}
use Rattle.syn_disk.specs.Padded.{padded}
use Rattle.syn_disk.specs.declared.disk.TheConstants.{PART_SIZE}
use Rattle.syn_disk.proofs.Padding.{padded-reach}
use Rattle.syn_disk.proofs.file.disk_bytes.PartBytes.reach.Goals as goal

pub returns-then-len-to-clause-same : goal.returns-then-len-to-clause-same
returns-then-len-to-clause-same c =
    ap (λ xs. padded xs PART_SIZE 0) c.extend.ensures.items
    ∙ padded-reach 0 _ PART_SIZE c.args.to c.args.self.now.fits c.requires
