use Rattle.syn_machine.specs.Coordinator.{coordinator_kind}
use Rattle.syn_machine.specs.MachineSteps.{Does}
use Rattle.syn_machine.specs.MachineSteps as one
use Rattle.syn_runs.specs.World.{Coordinator, Reopen}
use Rattle.syn_world.proofs.OpeningLemmas.{goes_found}
use Rattle.syn_world.proofs.SessionLemmas.{lift_coordinator}
use Rattle.syn_world.proofs.running.Running.reopen_coordinator.Goals as goal

pub returns : goal.returns
returns g c model is =
    let so = c.reopen-opening.ensures model.pair model.coordinator is.machines.coordinator in
    goes_found c.args.self model is c.reopen-opening.result c.opened_with.result
    c.opened_with.ensures c.told.result (Reopen Coordinator) so.next so.is
    (lift_coordinator model (Does (coordinator_kind model.pair) model.coordinator one.Reopen)
    so.next _ _ so.step) so.counts c.told.ensures.disks c.told.ensures.ends
