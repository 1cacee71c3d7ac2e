-- What a world had heard before a step of it.
use Rattle.std.specs.Prelude.{ℕ, Bool, List, Option, Some, None, is_some, length}
use Rattle.syn_disk.specs.declared.disk.Disk.{Ghosts}
use Rattle.syn_path.specs.declared.side.Side.TheVariants.{Left, Right}
use Rattle.syn_world.specs.declared.machine.Machine.{Machine}
use Rattle.syn_world.specs.declared.machine.Machine.TheVariants as place
use Rattle.syn_simulate.specs.declared.player.Player.{Player}
use Rattle.syn_simulate.specs.declared.turn.Moment.{Moment}
use Rattle.syn_simulate.specs.declared.turn.PlayedStep.{PlayedStep}
use Rattle.syn_world.specs.Worlds.{acknowledged_in, archive_in, refusals_in, replica_in}
use Rattle.syn_world.specs.Worlds.{reports_in, sent_in}
use Rattle.syn_world.specs.declared.step.Step.{Step}
use Rattle.syn_world.specs.declared.step.Step.TheVariants.{Deliver}
use Rattle.syn_world.specs.declared.world.World.{World}

-- how long each list of the world is, and which machines are up
abbrev pub moment_of : {D : Type 0} → {disk : Ghosts D} → World D disk → Moment
moment_of world = record {
  sent = length (sent_in world);
  acknowledged = length (acknowledged_in world);
  refusals = length (refusals_in world);
  reports = length (reports_in world);
  is_left_up = is_some (replica_in world Left);
  is_coordinator_up = is_some (archive_in world);
  is_right_up = is_some (replica_in world Right);
}

-- whether a machine was up
abbrev pub is_up : Moment → Machine → Bool
is_up moment (place.Side Left) = moment.is_left_up
is_up moment (place.Side Right) = moment.is_right_up
is_up moment place.Coordinator = moment.is_coordinator_up

-- the message that a step delivers
abbrev pub delivery_of : Step → Option ℕ
delivery_of (Deliver number) = Some number
delivery_of step = None

-- the turn in which the step is made of the world
abbrev pub turn_of : {D : Type 0} → {disk : Ghosts D} → World D disk → Step → PlayedStep
turn_of world step = record { before = moment_of world; delivered = delivery_of step }

-- the steps that were played, in order
abbrev pub turns_of : {D : Type 0} → {disk : Ghosts D} → Player D disk → List PlayedStep
turns_of player = player.turns.items
