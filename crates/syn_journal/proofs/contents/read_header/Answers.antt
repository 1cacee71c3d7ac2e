use Rattle.syn_journal.proofs.Calls.{broke_of_exit, then_broke, then_some}
use Rattle.syn_journal.proofs.contents.read_header.Goals as goal

pub returns-in_err-generation-clause-calls : goal.returns-in_err-generation-clause-calls
returns-in_err-generation-clause-calls g c =
    let old = g.D.Disk.arms c.args.disk.now in
    let new = g.D.Disk.arms c.read_u64.new.disk in
    broke_of_exit c.from_residual-in_err-generation.result _ old new
    c.from_residual-in_err-generation.ensures.1
    (then_broke 0 old (g.D.Disk.arms c.read_u8.new.disk) new c.in_ok-gate.ensures.calls
    c.in_err-generation.ensures.calls)

pub returns-clause-calls : goal.returns-clause-calls
returns-clause-calls g c =
    then_some 0 (g.D.Disk.arms c.args.disk.now) (g.D.Disk.arms c.read_u8.new.disk)
    (g.D.Disk.arms c.read_u64.new.disk) c.in_ok-gate.ensures.calls c.in_ok-generation.ensures.calls
