-- From the bytes of three disks before a run to whatever they may hold after it.
use Rattle.std.specs.Prelude.{ℕ, ◌≡◌, ◌≤◌, List}
use Rattle.syn_model.specs.History.{History, last_session}
use Rattle.syn_model.specs.Path.{Bytes}
use Rattle.syn_machine.specs.Network.{Which, Left, Right}
use Rattle.syn_runs.specs.Acknowledged.{Stores, history_of, stores_after, Grown, ArchiveGrown}
use Rattle.syn_runs.specs.World.{World, Step, Runs}
use Rattle.syn_runs.specs.World as model
use Rattle.syn_runs.specs.Picture.{Picture, side_of}
use Rattle.syn_runs.specs.Runs.{stores_of, picture_of, IsStart}
use Rattle.syn_runs.specs.Headline.{IsPair, unmarked}
use Rattle.syn_journal.specs.Meaning.{IsDiskOf, IsOf, MayBeOf}
use Rattle.syn_archive.specs.Archive.{archive_after}
use Rattle.syn_archive.specs.Keepings.{of_archive}
use Rattle.syn_replica.specs.Keepings.{of_side}

-- what three disks hold
pub record DiskBytes : Type 0 where
  pub left : Bytes
  pub right : Bytes
  pub archive : Bytes

abbrev pub disk_of : DiskBytes → Which → Bytes
disk_of disks Left = disks.left
disk_of disks Right = disks.right

-- Before the run

-- the disks are of one pair, and stand for two histories and their archive
pub record DisksStand (pair : ℕ) (disks : DiskBytes) (stores : Stores) : Type 0 where
  pub side : (which : Which) → IsDiskOf (of_side pair) (disk_of disks which)
      (history_of stores which)
  pub archive : IsDiskOf (of_archive pair) disks.archive stores.archive
  pub is_pair : IsPair stores

-- The disks of two replicas of a pair, whatever their histories, and of its archive without marks
-- are such disks, where the archive goes on after a session that neither replica has passed
abbrev pub UnmarkedStand : Type 0
UnmarkedStand = (pair session : ℕ) (disks : DiskBytes) (left right : History) →
    IsDiskOf (of_side pair) disks.left left → IsDiskOf (of_side pair) disks.right right →
    IsDiskOf (of_archive pair) disks.archive (archive_after session) →
    last_session left ≤ session → last_session right ≤ session →
    DisksStand pair disks (unmarked left right session)

-- the world was just opened from the disks
pub record IsOpenedFrom (pair : ℕ) (disks : DiskBytes) (world : World) : Type 0 where
  pub pair_is : world.pair ≡ pair
  pub start : IsStart world
  pub side : (which : Which) → IsOf (of_side pair)
      (model.side_of world which).journal (disk_of disks which)
  pub archive : IsOf (of_archive pair) world.coordinator.journal disks.archive

-- three such disks are a start of a run
abbrev pub DisksAreStart : Type 0
DisksAreStart = (pair : ℕ) (disks : DiskBytes) (stores : Stores) → DisksStand pair disks stores →
    (world : World) × IsOpenedFrom pair disks world × (stores_of world ≡ stores)

-- After the run

-- Each of the disks may be of its machine. This is the one invariant that a world's code owes
-- beside its steps: at each moment it holds of whatever a stop may then leave on the three disks
pub record MayBeLeft (disks : DiskBytes) (world : World) : Type 0 where
  pub side : (which : Which) → MayBeOf (of_side world.pair)
      (model.side_of world which).journal (disk_of disks which)
  pub archive : MayBeOf (of_archive world.pair) world.coordinator.journal disks.archive

-- What the disks then stand for: on each side the acknowledged events in order, with at most the
-- one that was being written; in the archive its records so; and all three are a pair again
pub record IsRecovered (before : Stores) (world : Picture) (disks : DiskBytes)
    (now : Stores) : Type 0 where
  pub stand : DisksStand world.pair disks now
  pub side : (which : Which) → Grown (side_of world which).writing
      (history_of (stores_after before world.acknowledged) which) (history_of now which)
  pub archive : ArchiveGrown world.coordinator.writing
      (stores_after before world.acknowledged).archive now.archive

-- For every list of steps from three disks, with stops and failing devices at any call of any
-- machine
abbrev pub RunsRecover : Type 0
RunsRecover = (pair : ℕ) (disks later : DiskBytes) (old new : World) (steps : List Step) →
    IsOpenedFrom pair disks old → Runs old steps new → MayBeLeft later new →
    (now : Stores) × IsRecovered (stores_of old) (picture_of new) later now

-- a run is of one pair
abbrev pub RunsKeepPair : Type 0
RunsKeepPair = (old new : World) (steps : List Step) → Runs old steps new → new.pair ≡ old.pair
