use Rattle.std.proofs.Common.{map, take}
use Rattle.syn_runs.specs.World.{World as ModelWorld}
use Rattle.syn_world.specs.Failures.{failures_in}
use Rattle.syn_world.specs.Runs.{HasRun}
use Rattle.syn_world.specs.Steps.{step_of}
use Rattle.syn_world.specs.Worlds.{IsWorld}
use Rattle.syn_world.proofs.world.World.go_by.Given as goal

abbrev pub invariant-loop-step : goal.invariant-loop-step
invariant-loop-step g l = (model : ModelWorld) (is : IsWorld l.initial.self model)
    → HasRun model (failures_in is.running) (map step_of (take l.step-index l.steps)) l.self
