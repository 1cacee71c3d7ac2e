-- How a world goes by a list of steps.
use Rattle.std.specs.Prelude.{◌≡◌, ◌⊎◌, ◌++◌, List, Result, Ok, Err}
use Rattle.syn_disk.specs.declared.disk.Disk.{Ghosts}
use Rattle.syn_runs.specs.World.{World as ModelWorld, Step, Steps, Runs}
use Rattle.syn_world.specs.Failures.{Counts, FailWithDisks, failures_in}
use Rattle.syn_world.specs.Worlds.{GoesSo, HasMachines, IsWorld, RunsMachines}
use Rattle.syn_world.specs.declared.running.Running.{Running}
use Rattle.syn_world.specs.declared.world.World.{World}

-- A step of what runs is one of the model; or there was no memory to begin it, and the machines are
-- as they were. No machine counts more failures than its disk, which had counted so many before
pub data Attempts {D : Type 0} {disk : Ghosts D} (old : ModelWorld) (before : Counts) (step : Step)
    (result : Result (Running D disk) (Running D disk)) : Type 0 where
  steps : GoesSo old before step result → Attempts old before step result
  no_memory : (running : Running D disk) → result ≡ Err running → RunsMachines running old →
      FailWithDisks old old before (failures_in running) → Attempts old before step result

-- a world that made the step
pub record HasMade {D : Type 0} {disk : Ghosts D} (old : ModelWorld) (before : Counts)
    (step : Step) (world : World D disk) : Type 0 where
  pub new : ModelWorld
  pub steps : Steps old step new
  pub is : IsWorld world new
  pub counts : FailWithDisks old new before (failures_in is.running)

-- the machines made it, or there was no memory to begin it
pub record HasTried {D : Type 0} {disk : Ghosts D} (old : ModelWorld) (before : Counts)
    (step : Step) (world : World D disk) : Type 0 where
  pub new : ModelWorld
  pub steps : Steps old step new ⊎ (new ≡ old)
  pub has : HasMachines world new
  pub counts : FailWithDisks old new before (failures_in has.running)

-- the world after a step that was made, or that was refused 11
abbrev pub StepsSo : {D E : Type 0} → {disk : Ghosts D} → ModelWorld → Counts → Step →
    Result (Unit {0}) E → World D disk → Type 0
StepsSo old before step (Ok made) world = HasMade old before step world
StepsSo old before step (Err refused) world = HasTried old before step world

-- the machines went by a first part of the steps, perhaps none or all of them
pub record EndsWithin {D : Type 0} {disk : Ghosts D} (old : ModelWorld) (before : Counts)
    (steps : List Step) (world : World D disk) : Type 0 where
  pub made : List Step
  pub rest : List Step
  pub all : made ++ rest ≡ steps
  pub new : ModelWorld
  pub runs : Runs old made new
  pub has : HasMachines world new
  pub counts : FailWithDisks old new before (failures_in has.running)

-- a world that went by all of them
pub record HasRun {D : Type 0} {disk : Ghosts D} (old : ModelWorld) (before : Counts)
    (steps : List Step) (world : World D disk) : Type 0 where
  pub new : ModelWorld
  pub runs : Runs old steps new
  pub is : IsWorld world new
  pub counts : FailWithDisks old new before (failures_in is.running)

abbrev pub RunsSo : {D E : Type 0} → {disk : Ghosts D} → ModelWorld → Counts → List Step →
    Result (Unit {0}) E → World D disk → Type 0
RunsSo old before list (Ok made) world = HasRun old before list world
RunsSo old before list (Err refused) world = EndsWithin old before list world
