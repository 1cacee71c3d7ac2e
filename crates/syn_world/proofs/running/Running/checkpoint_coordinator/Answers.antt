use Rattle.syn_runs.specs.World.{Checkpoint, Coordinator}
use Rattle.syn_machine.specs.Coordinator.{coordinator_kind}
use Rattle.syn_machine.specs.MachineSteps.{Does}
use Rattle.syn_machine.specs.MachineSteps as one
use Rattle.syn_world.proofs.SessionLemmas.{goes_coordinator, lift_coordinator}
use Rattle.syn_world.proofs.running.Running.checkpoint_coordinator.Goals as goal

pub returns : goal.returns
returns g c model is =
    goes_coordinator c.args.self model is
    (Does (coordinator_kind model.pair) model.coordinator one.Checkpoint)
    c.checkpoint-call.result
    (c.checkpoint-call.ensures model.pair model.coordinator is.machines.coordinator)
    c.told.result (Checkpoint Coordinator) (lift_coordinator model
    (Does (coordinator_kind model.pair) model.coordinator one.Checkpoint) _ _ _)
    c.told.ensures.disks c.told.ensures.ends
