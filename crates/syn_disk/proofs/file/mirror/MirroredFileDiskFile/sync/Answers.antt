use Rattle.std.proofs.Common.{refl}
use Rattle.syn_disk.specs.Mirror.{FileMayLeave, length-bytes}
use Rattle.syn_disk.proofs.Moments.{elapses_noted, only_durable}
use Rattle.syn_disk.proofs.file.mirror.MirroredFileDiskFile.sync.Goals as goal

pub returns-in-Ok-clause-durable : goal.returns-in-Ok-clause-durable
returns-in-Ok-clause-durable g c =
    only_durable _ _ (length-bytes c.args.self.now.bytes) (λ i. rw c.new-self.ensures refl)

pub returns-in-Ok-clause-time : goal.returns-in-Ok-clause-time
returns-in-Ok-clause-time g c = rw c.note.ensures (elapses_noted FileMayLeave _ _ _)

pub returns-in-Err-clause-time : goal.returns-in-Err-clause-time
returns-in-Err-clause-time g c = rw c.note.ensures (elapses_noted FileMayLeave _ _ _)

pub returns-then-self-clause-durable : goal.returns-then-self-clause-durable
returns-then-self-clause-durable g c =
    only_durable _ _ (length-bytes c.args.self.now.bytes)
    (λ i. rw (c.args.self.now.synced c.if-self.true) refl)

pub returns-then-self-clause-time : goal.returns-then-self-clause-time
returns-then-self-clause-time g c = rw c.note.ensures (elapses_noted FileMayLeave _ _ _)
