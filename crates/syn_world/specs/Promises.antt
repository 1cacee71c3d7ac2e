-- What is promised of a run, of the world that ran and of the one that is opened after it.
use Rattle.std.specs.Prelude.{◌≡◌, ◌++◌, ℕ, List, map, IsSomeAnd}
use Rattle.syn_archive.specs.Archive.{shown}
use Rattle.syn_disk.specs.declared.disk.Disk.{Ghosts}
use Rattle.syn_runs.specs.Acknowledged.{Stores, history_of}
use Rattle.syn_runs.specs.World.{Step}
use Rattle.syn_model.specs.Path.{Bytes}
use Rattle.syn_model.specs.History.{tree_of}
use Rattle.syn_path.specs.Sides.{which_of}
use Rattle.syn_path.specs.declared.side.Side.{Side}
use Rattle.syn_promise.specs.Promise.{Promised, Told}
use Rattle.syn_world.specs.CrashSafety.{DiskBytes, DisksStand}
use Rattle.syn_refusal.specs.Refusals.{cause_of}
use Rattle.syn_replica.specs.Replica.{tree_shown}
use Rattle.syn_world.specs.Openings.{HoldsDisks, MayHold}
use Rattle.syn_world.specs.Worlds.{acknowledged_in, archive_in, pair_in, refusals_in, replica_in}
use Rattle.syn_world.specs.Worlds.{report_in, reports_in, told_by, told_in}
use Rattle.syn_world.specs.declared.world.Disks.{Disks}
use Rattle.syn_world.specs.declared.world.World.{World}

-- what the world shows is what its run told; an event is shown as it is spelled
pub record Shows {D : Type 0} {disk : Ghosts D} (world : World D disk) (told : Told) : Type 0 where
  pub acknowledged : map told_in (acknowledged_in world) ≡ map told_by told.acknowledged
  pub refused : map cause_of (refusals_in world) ≡ told.refused
  pub reports : map report_in (reports_in world) ≡ told.reports

-- these bytes stand for a pair, and for what is promised of the run
pub record StandAsPromised (pair : ℕ) (before : Stores) (steps : List Step) (told : Told)
    (bytes : DiskBytes) : Type 0 where
  pub now : Stores
  pub stand : DisksStand pair bytes now
  pub promised : Promised before steps told now

-- whatever a stop of all machines may now leave on the disks, the promise holds of it
abbrev pub LeavePromised : {D : Type 0} → (D → Bytes → Type 0) → ℕ → Stores → List Step → Told →
    Disks D → Type 0
LeavePromised may_leave pair before steps told disks = (bytes : DiskBytes) →
    MayHold may_leave disks bytes → StandAsPromised pair before steps told bytes

-- A world that ran by these steps, from disks that stood for `before`: it shows what the run told,
-- and the promise holds of what a stop may now leave on its disks
pub record KeepsPromise {D : Type 0} {disk : Ghosts D} (pair : ℕ) (before : Stores)
    (steps : List Step) (told : Told) (world : World D disk) : Type 0 where
  pub shows : Shows world told
  pub left : (disks : Disks D) → HoldsDisks world disks →
      LeavePromised disk.may_leave pair before steps told disks

-- The disks of a run that ended as memory was refused for what its world keeps: the promise holds
-- of a first part of the steps, perhaps none or all of them
pub record KeepPart {D : Type 0} (may_leave : D → Bytes → Type 0) (pair : ℕ) (before : Stores)
    (steps : List Step) (disks : Disks D) : Type 0 where
  pub made : List Step
  pub rest : List Step
  pub all : made ++ rest ≡ steps
  pub told : Told
  pub left : LeavePromised may_leave pair before made told disks

-- All machines of the world are up, its replicas have these trees, and its archive is this one
pub record Holds {D : Type 0} {disk : Ghosts D} (world : World D disk) (stores : Stores) :
    Type 0 where
  pub replica : (side : Side) → IsSomeAnd (replica_in world side)
      (λ replica. tree_shown replica ≡ tree_of (history_of stores (which_of side)))
  pub archive : IsSomeAnd (archive_in world) (λ archive. shown archive ≡ stores.archive)

-- A world that was opened after a run by these steps, which told this, and a stop of all machines:
-- the promise holds of the run and of what the world holds now
pub record HoldsAsPromised {D : Type 0} {disk : Ghosts D} (pair : ℕ) (before : Stores)
    (steps : List Step) (told : Told) (world : World D disk) : Type 0 where
  pub pair_is : pair_in world ≡ pair
  pub now : Stores
  pub promised : Promised before steps told now
  pub holds : Holds world now
