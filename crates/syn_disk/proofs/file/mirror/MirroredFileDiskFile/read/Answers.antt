use Rattle.syn_disk.specs.Mirror.{FileMayLeave}
use Rattle.syn_disk.proofs.Moments.{elapses_noted}
use Rattle.syn_disk.proofs.file.mirror.MirroredFileDiskFile.read.Goals as goal

pub returns-clause-time : goal.returns-clause-time
returns-clause-time g c = rw c.note.ensures (elapses_noted FileMayLeave _ _ _)
