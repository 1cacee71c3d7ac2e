use Rattle.std.proofs.Common.{subst, sym}
use Rattle.syn_replica.proofs.WithRoomLemmas.{Leaves, compacted}
use Rattle.syn_replica.specs.Disks.{DiskStands}
use Rattle.syn_replica.specs.Replica.{disk_of, pair_of}
use Rattle.syn_replica.proofs.replica.with_room.with_room.Goals as goal

pub returns-in-Ok-clause-any_moment : goal.returns-in-Ok-clause-any_moment
returns-in-Ok-clause-any_moment g c history stands =
    compacted c.args.replica (disk_of c.checkpoint.new.self) history
    (c.checkpoint.ensures.any_moment history stands)

pub returns-in-Err-clause-any_moment : goal.returns-in-Err-clause-any_moment
returns-in-Err-clause-any_moment g c history stands =
    let old = c.args.replica in
    subst (λ left. Leaves old left (λ bytes. DiskStands (pair_of old) bytes history))
    (sym c.into_disk.ensures)
    (compacted old (disk_of c.checkpoint.new.self) history
    (c.checkpoint.ensures.any_moment history stands))
