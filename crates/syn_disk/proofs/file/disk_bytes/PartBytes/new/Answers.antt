use Rattle.syn_disk.specs.declared.disk.TheConstants.{PART_SIZE}
use Rattle.syn_disk.proofs.Zeros.{padded-zeros}
use Rattle.syn_disk.proofs.file.disk_bytes.PartBytes.new.Goals as goal

pub returns : goal.returns
returns c = padded-zeros _ PART_SIZE c.in_ok-with_capacity.ensures.items
