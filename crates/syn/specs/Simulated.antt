-- What is printed of a script that is run.
use Rattle.std.specs.Io.KnownBytes.{Appends}
use Rattle.std.specs.Prelude.{ℕ, List, Option}
use Rattle.syn_disk.specs.declared.disk.Disk.{Ghosts}
use Rattle.syn_simulate.specs.Words.{Text}
use Rattle.syn_simulate.specs.Shown.{world_shown}
use Rattle.syn_simulate.specs.Simulations.{RunsScript}
use Rattle.syn_world.specs.declared.world.World.{World}

-- the world is the one after the script, and was printed
pub record PrintsRun {D : Type 0} {disk : Ghosts D} (script : Text) (old new : Option (List ℕ))
    (world : World D disk) : Type 0 where
  pub runs : RunsScript script world
  pub printed : Appends old new (world_shown world)
