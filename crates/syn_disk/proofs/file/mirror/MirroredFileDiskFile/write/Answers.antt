use Rattle.syn_disk.specs.Mirror.{FileMayLeave}
use Rattle.syn_disk.proofs.Moments.{elapses_noted}
use Rattle.syn_disk.proofs.Written.{file_left_before_write, torn_overwritten}
use Rattle.syn_disk.proofs.file.mirror.MirroredFileDiskFile.write.Goals as goal

pub returns-in-Ok-clause-stop : goal.returns-in-Ok-clause-stop
returns-in-Ok-clause-stop g c =
    file_left_before_write c.args.self.now.bytes c.write.new.self _ c.args.at c.args.bytes.now
    c.requires.fits _ c.note-2.ensures c.write.ensures

pub returns-in-Err-clause-stop : goal.returns-in-Err-clause-stop
returns-in-Err-clause-stop g c =
    file_left_before_write c.args.self.now.bytes c.write.new.self _ c.args.at c.args.bytes.now
    c.requires.fits _ c.note-2.ensures c.write.ensures

pub returns-in-Err-clause-torn : goal.returns-in-Err-clause-torn
returns-in-Err-clause-torn g c =
    rw c.write.ensures
    (torn_overwritten c.args.self.now.bytes c.args.at c.args.bytes.now c.requires.fits)

pub returns-in-Ok-clause-time : goal.returns-in-Ok-clause-time
returns-in-Ok-clause-time g c = rw c.note.ensures (elapses_noted FileMayLeave _ _ _)

pub returns-in-Err-clause-time : goal.returns-in-Err-clause-time
returns-in-Err-clause-time g c = rw c.note.ensures (elapses_noted FileMayLeave _ _ _)
