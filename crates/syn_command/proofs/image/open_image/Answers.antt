use Rattle.std.proofs.Common.{sym, subst}
use Rattle.syn_replica.specs.Disks as replica
use Rattle.syn_command.proofs.image.open_image.Goals as goal

-- the disk was read as an archive's before, which changed nothing of what a read gives
pub returns-in-Ok-open-clause-replica : goal.returns-in-Ok-open-clause-replica
returns-in-Ok-open-clause-replica g c number history fits stands =
    let same = c.in-Err-Damaged-default.ensures.device.untouched.same in
    c.in-Ok-open.ensures.each number history fits
    (subst (λ bytes. replica.DiskStands number bytes history) (sym same) stands)
