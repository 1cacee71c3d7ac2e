-- The world after a script.
use Rattle.std.proofs.Common.{◌≡◌, List, ℕ, refl}
use Rattle.syn_disk.specs.declared.disk.Disk.{Ghosts}
use Rattle.syn_runs.specs.Acknowledged.{Stores}
use Rattle.syn_promise.specs.Laws.{told_by}
use Rattle.syn_runs.specs.Headline.{formatted}
use Rattle.syn_runs.specs.Runs.{stores_of}
use Rattle.syn_runs.specs.World.{World as ModelWorld, Runs, Step}
use Rattle.syn_world.specs.CrashSafety.{DiskBytes, IsOpenedFrom}
use Rattle.syn_simulate.specs.Players.{HasPlayedAll, world_of}
use Rattle.syn_simulate.specs.States.{fresh}
use Rattle.syn_simulate.specs.declared.player.Player.{Player}
use Rattle.syn_simulate.specs.Scripts.{IsFirstFault, SaySteps, lines_of}
use Rattle.syn_simulate.specs.Words.{Text}
use Rattle.syn_simulate.specs.declared.line.Line.{Line}
use Rattle.syn_simulate.specs.declared.parse_error.ScriptError.{ScriptError}
use Rattle.syn_simulate.specs.declared.parse_error.ScriptError.TheVariants as script
use Rattle.syn_simulate.specs.Faults.{error_of}
use Rattle.syn_simulate.specs.Simulations.{IsNoRun, RunsScript}
use Rattle.syn_simulate.specs.Starts.{IsOutside, StartsFormatted}
use Rattle.syn_simulate.specs.declared.error.SimulateError.{SimulateError}
use Rattle.syn_simulate.specs.declared.error.SimulateError.TheVariants.{Memory, Refused, Script}
use Rattle.syn_world.specs.Openings.{shown_on}
use Rattle.syn_world.specs.Promises.{KeepsPromise}
use Rattle.syn_world.specs.Worlds.{IsWorld}
use Rattle.syn_world.specs.declared.world.World.{World}

-- the world keeps the promise of each run that led to it
abbrev pub AsPromised : {D : Type 0} → {disk : Ghosts D} → World D disk → Type 0
AsPromised world = (pair : ℕ) (before : Stores) (bytes : DiskBytes) (old new : ModelWorld)
    (steps : List Step) → IsOpenedFrom pair bytes old → stores_of old ≡ before
    → Runs old steps new → IsWorld world new
    → KeepsPromise pair before steps (told_by new) world

-- a new world, on which the lines of a script are played
pub runs_script : {D : Type 0} {disk : Ghosts D} (script : Text) (lines : List Line)
    (start : World D disk) (player : Player D disk) → SaySteps (lines_of script) lines
    → (starts : StartsFormatted 1 start) → HasPlayedAll lines (fresh starts.opens.model) player
    → AsPromised (world_of player) → RunsScript script (world_of player)
runs_script {D} {disk} script lines start player say starts played promise = record {
  lines = lines;
  say = say;
  plays = record {
    start = start;
    starts = starts;
    steps = played.steps;
    new = played.new;
    plays = played.plays;
    runs = played.runs;
    ends = played.is.world;
    promised = promise 1 formatted (shown_on disk.seen starts.disks) starts.opens.model
        played.new.world played.steps starts.opens.opened starts.opens.stores_are played.runs
        played.is.world;
  };
}

-- what refuses the lines refuses the run
pub no_lines : (text : Text) (e : ScriptError) → ((number : ℕ) → e ≡ script.Line number
    → IsFirstFault (lines_of text) number) → IsNoRun text (error_of e)
no_lines text (script.Line number) first = first number refl
no_lines text script.Memory first = tt

-- and so does a cause that lies outside
pub no_world : (text : Text) (e : SimulateError) → IsOutside e → IsNoRun text e
no_world text (Script line) outside = absurd outside
no_world text (Refused refusal) outside = outside
no_world text Memory outside = outside
