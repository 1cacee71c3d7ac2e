use Rattle.std.proofs.Common.{refl}
use Rattle.syn_machine.specs.Coordinator.{coordinator_kind}
use Rattle.syn_machine.specs.MachineSteps.{Does, Stop}
use Rattle.syn_world.specs.Coordinators.{archive_disk}
use Rattle.syn_world.specs.Failures.{disks_in}
use Rattle.syn_world.proofs.FailureLemmas.{archive_counts}
use Rattle.syn_world.proofs.CoordinatorLemmas.{coordinator_is, lift_device, stays_coordinator}
use Rattle.syn_world.proofs.running.Running.stop_coordinator.Goals as goal

pub returns : goal.returns
returns g c model is =
    let so = c.stop.ensures model.pair model.coordinator is.machines.coordinator in
    record {
      new = coordinator_is model so.next;
      steps = lift_device model
          (Does (coordinator_kind model.pair) model.coordinator (Stop c.args.calls)) so.next
          so.step;
      is = stays_coordinator c.args.self model is c.stop.result so.next so.is;
      counts = archive_counts g.D.Disk model (coordinator_is model so.next)
          (disks_in c.args.self) (record (disks_in c.args.self) {
            archive = archive_disk c.stop.result;
          }) (archive_disk c.stop.result) refl so.counts refl refl;
    }
