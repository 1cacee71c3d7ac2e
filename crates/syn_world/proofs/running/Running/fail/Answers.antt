use Rattle.std.proofs.Common.{subst, sym}
use Rattle.syn_runs.specs.World.{Fail}
use Rattle.syn_world.specs.Steps.{machine_of}
use Rattle.syn_world.specs.Failures.{failures_in}
use Rattle.syn_world.specs.Worlds.{StaysSo}
use Rattle.syn_world.proofs.running.Running.fail.Goals as goal

pub returns-in-Side : goal.returns-in-Side
returns-in-Side g c model is =
    subst (λ m. StaysSo model (failures_in c.args.self) (Fail (machine_of m) c.args.call)
    c.fail_side.result)
    (sym c.in-Side.is)
    (c.fail_side.ensures model is)

pub returns-in-Coordinator : goal.returns-in-Coordinator
returns-in-Coordinator g c model is =
    subst (λ m. StaysSo model (failures_in c.args.self) (Fail (machine_of m) c.args.call)
    c.fail_coordinator.result)
    (sym c.in-Coordinator.is) (c.fail_coordinator.ensures model is)
