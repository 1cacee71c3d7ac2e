use Rattle.std.proofs.Common.{◌∙◌, ◌-◌, ap, refl, sym}
use Rattle.syn_journal.specs.Calls.{armed_at}
use Rattle.syn_replica.specs.Replica.{disk_of}
use Rattle.syn_world.proofs.ArmLemmas.{stands_as, still_runs}
use Rattle.syn_world.proofs.side.UpSide.arm.Goals as goal

pub returns-clause-runs : goal.returns-clause-runs
returns-clause-runs g c goes pair machine runs =
    let old = c.args.self.replica in
    let new = c.arm.new.self in
    let value = machine.journal.value in
    still_runs pair old new c.args.self.agent machine
    (armed_at (g.D.Disk.arms (disk_of new))) 0 runs c.arm.ensures.memory
    (stands_as old new value machine.journal.status (c.arm.ensures.stands value)
    (λ halted. c.arm.ensures.readings.halted ∙ halted) c.arm.ensures.memory runs.is.keeps.stands)
    (λ up. runs.is.keeps.room up ∙ ap (λ n. 4194304 - 1 - n) (sym c.arm.ensures.readings.gate))
    (λ up. runs.is.keeps.generation up ∙ sym c.arm.ensures.readings.generation) refl goes
    c.arm.ensures.tried (λ bytes may. (c.arm.ensures.stop bytes).1 may)
