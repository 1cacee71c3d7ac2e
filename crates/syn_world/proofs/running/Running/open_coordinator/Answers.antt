use Rattle.std.proofs.Common.{subst, sym}
use Rattle.syn_runs.specs.World.{Coordinator, Open}
use Rattle.syn_machine.specs.Coordinator.{coordinator_kind}
use Rattle.syn_machine.specs.MachineSteps.{OpensDown}
use Rattle.syn_world.specs.CoordinatorOpenings.{OpeningIsStep}
use Rattle.syn_world.specs.Coordinators.{IsCoordinator, archive_disk}
use Rattle.syn_world.proofs.OpeningLemmas.{goes_found}
use Rattle.syn_world.proofs.SessionLemmas.{lift_coordinator}
use Rattle.syn_world.proofs.running.Running.open_coordinator.Goals as goal

pub returns : goal.returns
returns g c model is =
    let before = g.D.Disk.failures (archive_disk c.args.self.coordinator) in
    let so = subst (λ p. OpeningIsStep p model.coordinator before
    (OpensDown (coordinator_kind p) model.coordinator) c.open-opening.result) is.machines.pair
    (c.open-opening.ensures model.coordinator (subst (λ p. IsCoordinator p
    c.args.self.coordinator model.coordinator) (sym is.machines.pair) is.machines.coordinator)) in
    goes_found c.args.self model is c.open-opening.result c.opened_with.result
    c.opened_with.ensures c.told.result (Open Coordinator) so.next so.is
    (lift_coordinator model (OpensDown (coordinator_kind model.pair) model.coordinator) so.next _ _
    so.step) so.counts c.told.ensures.disks c.told.ensures.ends
