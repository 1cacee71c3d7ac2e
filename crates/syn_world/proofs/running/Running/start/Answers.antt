use Rattle.syn_runs.specs.World.{Start}
use Rattle.syn_machine.specs.Coordinator.{Starts}
use Rattle.syn_world.proofs.SessionLemmas.{goes_coordinator, lift_coordinator}
use Rattle.syn_world.proofs.running.Running.start.Goals as goal
use Rattle.std.proofs.Common.{option_map}
use Rattle.syn_path.specs.Sides.{which_of}

pub returns : goal.returns
returns g c model is =
    goes_coordinator c.args.self model is (Starts model.pair (option_map which_of c.args.preference)
    model.coordinator)
    c.start-call.result
    (c.start-call.ensures model.pair model.coordinator is.machines.coordinator)
    c.told.result (Start (option_map which_of c.args.preference))
    (lift_coordinator model (Starts model.pair (option_map which_of c.args.preference)
    model.coordinator) _ _ _) c.told.ensures.disks c.told.ensures.ends
