-- The world after a script.
use Rattle.std.specs.Prelude.{List}
use Rattle.syn_disk.specs.declared.disk.Disk.{Ghosts}
use Rattle.syn_promise.specs.Laws.{told_by}
use Rattle.syn_runs.specs.Headline.{formatted}
use Rattle.syn_runs.specs.World.{Runs, Step}
use Rattle.syn_simulate.specs.Lines.{PlaysAll}
use Rattle.syn_simulate.specs.States.{State, fresh}
use Rattle.syn_simulate.specs.Scripts.{IsFirstFault, SaySteps, lines_of}
use Rattle.syn_simulate.specs.Words.{Text}
use Rattle.syn_simulate.specs.declared.line.Line.{Line}
use Rattle.syn_simulate.specs.Starts.{IsOutside, StartsFormatted}
use Rattle.syn_simulate.specs.declared.error.SimulateError.{SimulateError}
use Rattle.syn_simulate.specs.declared.error.SimulateError.TheVariants.{Script as Fault}
use Rattle.syn_world.specs.Promises.{KeepsPromise}
use Rattle.syn_world.specs.Worlds.{IsWorld}
use Rattle.syn_world.specs.declared.world.World.{World}

-- Playing the lines leads a new world of pair 1 to this one, by a run of the definitions, whose
-- promise it keeps
pub record LeadsTo {D : Type 0} {disk : Ghosts D} (lines : List Line) (world : World D disk)
    : Type 0 where
  pub start : World D disk
  pub starts : StartsFormatted 1 start
  pub steps : List Step
  pub new : State
  pub plays : PlaysAll lines (fresh starts.opens.model) steps new
  pub runs : Runs starts.opens.model steps new.world
  pub ends : IsWorld world new.world
  pub promised : KeepsPromise 1 formatted steps (told_by new.world) world

-- and the lines are the script's
pub record RunsScript {D : Type 0} {disk : Ghosts D} (script : Text) (world : World D disk)
    : Type 0 where
  pub lines : List Line
  pub say : SaySteps (lines_of script) lines
  pub plays : LeadsTo lines world

-- why a script is not run: the first of its lines that says no step, or a cause that lies outside
abbrev pub IsNoRun : Text → SimulateError → Type 0
IsNoRun script (Fault number) = IsFirstFault (lines_of script) number
IsNoRun script e = IsOutside e
