use Rattle.std.proofs.Common.{subst, sym}
use Rattle.syn_runs.specs.World.{Reopen}
use Rattle.syn_world.specs.Steps.{machine_of}
use Rattle.syn_world.specs.Failures.{failures_in}
use Rattle.syn_world.specs.Worlds.{GoesSo}
use Rattle.syn_world.proofs.running.Running.reopen.Goals as goal

pub returns-in-Side : goal.returns-in-Side
returns-in-Side g c model is =
    subst (λ m. GoesSo model (failures_in c.args.self) (Reopen (machine_of m)) c.reopen_side.result)
    (sym c.in-Side.is)
    (c.reopen_side.ensures model is)

pub returns-in-Coordinator : goal.returns-in-Coordinator
returns-in-Coordinator g c model is =
    subst (λ m. GoesSo model (failures_in c.args.self) (Reopen (machine_of m))
    c.reopen_coordinator.result)
    (sym c.in-Coordinator.is) (c.reopen_coordinator.ensures model is)
