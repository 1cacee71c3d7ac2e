use Rattle.syn_machine.specs.Network.{Left, Right}
use Rattle.syn_runs.specs.World.{At, Coordinator}
use Rattle.syn_world.specs.Failures.{CountAlike, disks_in, failures_on}
use Rattle.syn_world.proofs.HeadlineLemmas.{left_on_disks, world_left}
use Rattle.syn_world.proofs.running.Running.into_disks.Goals as goal

pub returns-clause-stopped : goal.returns-clause-stopped
returns-clause-stopped g c = record {
  back = record {
    left = c.stopped_side.ensures.back;
    right = c.stopped_side-2.ensures.back;
    archive = c.stopped_coordinator.ensures.back;
  };
  count = alike;
}
  where
    alike : CountAlike (failures_on g.D.Disk.failures (record {
      left = c.stopped_side.result;
      right = c.stopped_side-2.result;
      archive = c.stopped_coordinator.result;
    })) (failures_on g.D.Disk.failures (disks_in c.args.self))
    alike (At Left) = c.stopped_side.ensures.count
    alike (At Right) = c.stopped_side-2.ensures.count
    alike Coordinator = c.stopped_coordinator.ensures.count

pub returns-clause-left : goal.returns-clause-left
returns-clause-left g c model is =
    left_on_disks g.D.Disk.may_leave (disks_in c.args.self) _ model (record {
      left = c.stopped_side.ensures.back;
      right = c.stopped_side-2.ensures.back;
      archive = c.stopped_coordinator.ensures.back;
    }) (world_left c.args.self model is)
