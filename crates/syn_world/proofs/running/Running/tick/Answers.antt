use Rattle.syn_machine.specs.Coordinator.{CoordinatorTicks}
use Rattle.syn_runs.specs.World.{Tick}
use Rattle.syn_world.specs.CoordinatorSteps.{Unrefused}
use Rattle.syn_world.proofs.SessionLemmas.{goes_coordinator, lift_tick}
use Rattle.syn_world.proofs.running.Running.tick.Goals as goal

pub returns : goal.returns
returns g c model is =
    goes_coordinator c.args.self model is (Unrefused (CoordinatorTicks model.coordinator))
    c.tick-call.result
    (c.tick-call.ensures model.pair model.coordinator is.machines.coordinator)
    c.told.result Tick (lift_tick model _ _ _) c.told.ensures.disks c.told.ensures.ends
