use Rattle.syn_reconcile.proofs.MarkLemmas.{compacted, still}
use Rattle.syn_reconcile.proofs.marks.make_room.Goals as goal

pub returns-then-room-lt-LONGEST_RECORD-clause-any_moment :
    goal.returns-then-room-lt-LONGEST_RECORD-clause-any_moment
returns-then-room-lt-LONGEST_RECORD-clause-any_moment g c kept any stands =
    compacted c.args.archive.now c.checkpoint.new.self kept any stands
    (c.checkpoint.ensures.any_moment kept stands)

pub returns-else-room-lt-LONGEST_RECORD-clause-any_moment :
    goal.returns-else-room-lt-LONGEST_RECORD-clause-any_moment
returns-else-room-lt-LONGEST_RECORD-clause-any_moment g c kept any stands =
    still g.met.A.Disk.only_now c.args.archive.now kept any stands
