use Rattle.syn_journal.proofs.Calls.{broke_of_exit, one_broke, one_read}
use Rattle.std.proofs.Common.{arith}
use Rattle.syn_journal.proofs.read.read_u32.Goals as goal

pub returns-in_err-read-clause-calls : goal.returns-in_err-read-clause-calls
returns-in_err-read-clause-calls g c =
    let old = g.D.Disk.arms c.args.disk.now in
    let new = g.D.Disk.arms c.read.new.self in
    broke_of_exit c.from_residual.result _ old new c.from_residual.ensures.1
    (one_broke old new c.read.ensures.arms)

pub returns-clause-calls : goal.returns-clause-calls
returns-clause-calls g c =
    one_read 0 (g.D.Disk.arms c.args.disk.now) (g.D.Disk.arms c.read.new.self) (omega arith)
    c.in_ok-read.ensures.allowed c.read.ensures.arms
