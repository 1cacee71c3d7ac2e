use Rattle.syn_journal.proofs.Calls.{reads_of_exit, then_broke, then_some, unread_refusal}
use Rattle.syn_journal.proofs.contents.read_current.Goals as goal

pub returns-in_err-first-clause-calls : goal.returns-in_err-first-clause-calls
returns-in_err-first-clause-calls g c =
    reads_of_exit 0 c.from_residual.result _ (g.D.Disk.arms c.args.disk.now)
    (g.D.Disk.arms c.read_header.new.disk) c.from_residual.ensures.1 c.in_err-first.ensures.calls

pub returns-in_err-second-clause-calls : goal.returns-in_err-second-clause-calls
returns-in_err-second-clause-calls g c =
    let old = g.D.Disk.arms c.args.disk.now in
    let new = g.D.Disk.arms c.read_header-2.new.disk in
    reads_of_exit 0 c.from_residual-in_err-second.result _ old new
    c.from_residual-in_err-second.ensures.1
    (then_broke 0 old (g.D.Disk.arms c.read_header.new.disk) new c.in_ok-first.ensures.calls
    c.in_err-second.ensures.calls)

pub returns-in-Ok-First-clause-calls : goal.returns-in-Ok-First-clause-calls
returns-in-Ok-First-clause-calls g c =
    then_some 0 (g.D.Disk.arms c.args.disk.now) (g.D.Disk.arms c.read_header.new.disk)
    (g.D.Disk.arms c.read_header-2.new.disk) c.in_ok-first.ensures.calls
    c.in_ok-second.ensures.calls

pub returns-in-Ok-Second-clause-calls : goal.returns-in-Ok-Second-clause-calls
returns-in-Ok-Second-clause-calls g c =
    then_some 0 (g.D.Disk.arms c.args.disk.now) (g.D.Disk.arms c.read_header.new.disk)
    (g.D.Disk.arms c.read_header-2.new.disk) c.in_ok-first.ensures.calls
    c.in_ok-second.ensures.calls

pub returns-in-Err-clause-calls : goal.returns-in-Err-clause-calls
returns-in-Err-clause-calls g c =
    let old = g.D.Disk.arms c.args.disk.now in
    let new = g.D.Disk.arms c.read_header-2.new.disk in
    unread_refusal c.in-Err.refusal old new c.in-Err.ensures.no_device
    (then_some 0 old (g.D.Disk.arms c.read_header.new.disk) new c.in_ok-first.ensures.calls
    c.in_ok-second.ensures.calls)
