use Rattle.std.proofs.Common.{◌+◌, ap, subst}
use Rattle.syn_disk.specs.Stops.{LeavesOnly}
use Rattle.syn_model.specs.Archive.{Session}
use Rattle.syn_archive.specs.Archive.{KeepsBeforeOrAfter, disk_of}
use Rattle.syn_archive.proofs.archive.Archive.next_session.Goals as goal

pub returns-clause-any_moment : goal.returns-clause-any_moment
returns-clause-any_moment g c kept stands =
    subst (λ n. LeavesOnly g.D.Disk.moment g.D.Disk.left_since (disk_of c.args.self.now)
    (disk_of c.keep.new.self) (KeepsBeforeOrAfter c.args.self.now kept (Session (n + 1))))
    (ap (λ a. a.last_session) stands.remembers) (c.in_ok-keep.ensures.any_moment kept stands)

pub returns-in_err-keep-clause-any_moment : goal.returns-in_err-keep-clause-any_moment
returns-in_err-keep-clause-any_moment g c kept stands =
    subst (λ n. LeavesOnly g.D.Disk.moment g.D.Disk.left_since (disk_of c.args.self.now)
    (disk_of c.keep.new.self) (KeepsBeforeOrAfter c.args.self.now kept (Session (n + 1))))
    (ap (λ a. a.last_session) stands.remembers) (c.in_err-keep.ensures.any_moment kept stands)
