use Rattle.std.proofs.Common.{subst, sym}
use Rattle.syn_runs.specs.World.{Checkpoint}
use Rattle.syn_world.specs.Steps.{machine_of}
use Rattle.syn_world.specs.Failures.{failures_in}
use Rattle.syn_world.specs.Worlds.{GoesSo}
use Rattle.syn_world.proofs.running.Running.checkpoint.Goals as goal

pub returns-in-Side : goal.returns-in-Side
returns-in-Side g c model is =
    subst (λ m. GoesSo model (failures_in c.args.self) (Checkpoint (machine_of m))
    c.checkpoint_side.result)
    (sym c.in-Side.is)
    (c.checkpoint_side.ensures model is)

pub returns-in-Coordinator : goal.returns-in-Coordinator
returns-in-Coordinator g c model is =
    subst (λ m. GoesSo model (failures_in c.args.self) (Checkpoint (machine_of m))
    c.checkpoint_coordinator.result)
    (sym c.in-Coordinator.is) (c.checkpoint_coordinator.ensures model is)
