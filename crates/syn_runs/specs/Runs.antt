-- Runs of the world, and the picture of a world, of which each promise of a run is said.
use Rattle.std.specs.Prelude.{◌≡◌, false, List, [], None, option_map}
use Rattle.syn_runs.specs.Acknowledged.{Stores}
use Rattle.syn_machine.specs.Machine.{Up, Journaled, unarmed}
use Rattle.syn_machine.specs.SideMachine.{SideMachine, side_now}
use Rattle.syn_machine.specs.Coordinator.{CoordinatorMachine, Running, plan_of}
use Rattle.syn_runs.specs.World.{World, Step, Runs}
use Rattle.syn_runs.specs.Picture.{Picture, SidePicture, CoordinatorPicture, SessionPicture}
use Rattle.syn_runs.specs.Headline.{IsPair, IsRunFrom, StandsFor}

-- The picture of a world: without its rooms, generations, arms and transcripts

abbrev pub side_picture : SideMachine → SidePicture
side_picture machine = record {
  status = machine.journal.status;
  side = side_now machine;
  writing = machine.journal.writing;
}

abbrev pub session_picture : Running → SessionPicture
session_picture running = record {
  session = running.session;
  preference = running.preference;
  left = running.left;
  right = running.right;
  plan = plan_of running;
}

abbrev pub coordinator_picture : CoordinatorMachine → CoordinatorPicture
coordinator_picture machine = record {
  status = machine.journal.status;
  archive = machine.journal.value;
  writing = machine.journal.writing;
  running = option_map session_picture machine.running;
}

abbrev pub picture_of : World → Picture
picture_of world = record {
  pair = world.pair;
  left = side_picture world.left;
  right = side_picture world.right;
  coordinator = coordinator_picture world.coordinator;
  sent = world.sent;
  acknowledged = world.acknowledged;
  reports = world.reports;
  log = world.log;
}

-- Runs

abbrev pub stores_of : World → Stores
stores_of world = record {
  left = world.left.journal.value;
  right = world.right.journal.value;
  archive = world.coordinator.journal.value;
}

-- a journal that has just been opened, with nothing armed at its device, and no failure counted
abbrev pub IsJustOpened : {V W : Type 0} → Journaled V W → Type 0
IsJustOpened machine =
    (machine.status ≡ Up) × (machine.writing ≡ None) × (machine.compacting ≡ false)
    × (machine.arms ≡ unarmed) × (machine.failures ≡ 0)

-- a world that has just been opened
pub record IsStart (world : World) : Type 0 where
  pub pair : IsPair (stores_of world)
  pub left : IsJustOpened world.left.journal × (world.left.staging ≡ None)
  pub right : IsJustOpened world.right.journal × (world.right.staging ≡ None)
  pub coordinator : IsJustOpened world.coordinator.journal × (world.coordinator.running ≡ None)
  pub nothing_yet : (world.sent ≡ []) × (world.acknowledged ≡ []) × (world.reports ≡ [])
      × (world.log ≡ []) × (world.refusals ≡ [])

-- what holds of every run from a world that has just been opened, with stops of any machine and
-- failing devices
abbrev pub OfEachRun : (Stores → Picture → Type 0) → Type 0
OfEachRun Holds = (old new : World) (steps : List Step) → IsStart old → Runs old steps new →
    Holds (stores_of old) (picture_of new)

-- every such run is one of the picture by the same steps, in which users are refused the same
abbrev pub RunsArePictured : Type 0
RunsArePictured = (old new : World) (steps : List Step) → IsStart old → Runs old steps new →
    IsRunFrom (stores_of old) steps new.refusals (picture_of new)

-- the machines stand for what was acknowledged, as every run leaves them, from any world
abbrev pub RunsStand : Type 0
RunsStand = (before : Stores) (old new : World) (steps : List Step) → Runs old steps new →
    StandsFor before (picture_of old) → StandsFor before (picture_of new)
