-- Each run of the world keeps its promise, and the rules allow what it writes.
use Rattle.syn_model.specs.History.{IsAllowed}
use Rattle.syn_model.specs.Archive.{CanKeep}
use Rattle.syn_machine.specs.Network.{Which}
use Rattle.syn_runs.specs.World.{World, Step, Runs}
use Rattle.syn_runs.specs.Runs.{IsStart, picture_of, stores_of}
use Rattle.syn_runs.specs.Picture.{Picture, side_of}
use Rattle.syn_runs.specs.Acknowledged.{Ack, Happened, Kept_by, Stores, history_of, stores_after}
use Rattle.syn_runs.specs.Acknowledged.{Grown, ArchiveGrown}
use Rattle.std.specs.Prelude.{◌≡◌, List, ◌∷◌, ◌++◌}
use Rattle.syn_promise.specs.Told.{Told}
use Rattle.syn_promise.specs.Promise.{Promised}

-- what a world tells
abbrev pub told_by : World → Told
told_by world = record {
  acknowledged = world.acknowledged;
  refused = world.refusals;
  reports = world.reports;
}

-- the disks of the world may stand for this: for what was acknowledged since, or that with the one
-- change that each machine was making
pub record MayStand (before : Stores) (world : Picture) (now : Stores) : Type 0 where
  pub side : (which : Which) → Grown (side_of world which).writing
      (history_of (stores_after before world.acknowledged) which) (history_of now which)
  pub archive : ArchiveGrown world.coordinator.writing
      (stores_after before world.acknowledged).archive now.archive

abbrev pub RunsKeepPromise : Type 0
RunsKeepPromise = (old new : World) (steps : List Step) (now : Stores) → IsStart old →
    Runs old steps new → MayStand (stores_of old) (picture_of new) now →
    Promised (stores_of old) steps (told_by new) now

-- The rules allow the change, where the machines stand for this: an event after the history of its
-- side, and what is kept after the archive. A late session thus adds nothing to a side that has
-- begun a later one
abbrev pub IsAllowedBy : Stores → Ack → Type 0
IsAllowedBy stands (Happened side event) = IsAllowed (history_of stands side) event
IsAllowedBy stands (Kept_by kept) = CanKeep stands.archive kept

-- They allow each change that a run acknowledges, as it is written. Of one that a stop cut off, and
-- that stands all the same, `Grown` and `ArchiveGrown` say so
abbrev pub AllowsEachChange : Stores → Picture → Type 0
AllowsEachChange before world = (earlier later : List Ack) (ack : Ack) →
    world.acknowledged ≡ earlier ++ ack ∷ later → IsAllowedBy (stores_after before earlier) ack
