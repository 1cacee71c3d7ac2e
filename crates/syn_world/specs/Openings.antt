-- What three disks stand for, and the world that is opened from them.
use Rattle.std.specs.Prelude.{◌≡◌, ◌+◌, ◌<◌, ◌^◌, ℕ, None, Some, option_map}
use Rattle.syn_disk.specs.Arms.{Arms}
use Rattle.syn_disk.specs.Disk.{NothingNew}
use Rattle.syn_disk.specs.declared.disk.Disk.{Ghosts}
use Rattle.syn_runs.specs.Acknowledged.{Stores}
use Rattle.syn_runs.specs.Runs.{stores_of}
use Rattle.syn_runs.specs.World.{World as ModelWorld}
use Rattle.syn_world.specs.Starts.{HoldsArchive, HoldsReplica, RefusesArchive, RefusesSide}
use Rattle.syn_journal.specs.Calls.{IsFree}
use Rattle.syn_model.specs.Path.{Bytes}
use Rattle.syn_world.specs.CrashSafety.{DiskBytes, DisksStand, IsOpenedFrom}
use Rattle.syn_refusal.specs.declared.refusal.Refusal.{Refusal}
use Rattle.syn_world.specs.Failures.{CountAlike, disks_in, failures_in, failures_on}
use Rattle.syn_world.specs.Worlds.{IsWorld, running_in}
use Rattle.syn_world.specs.declared.running.Running.{Running}
use Rattle.syn_world.specs.declared.world.Disks.{Disks}
use Rattle.syn_world.specs.declared.world.World.{World}

-- what the disks show
abbrev pub shown_on : {D : Type 0} → (D → Bytes) → Disks D → DiskBytes
shown_on seen disks = record {
  left = seen disks.left;
  right = seen disks.right;
  archive = seen disks.archive;
}

-- a stop may now leave these bytes on the disks
pub record MayHold {D : Type 0} (may_leave : D → Bytes → Type 0) (disks : Disks D)
    (shown : DiskBytes) : Type 0 where
  pub left : may_leave disks.left shown.left
  pub right : may_leave disks.right shown.right
  pub archive : may_leave disks.archive shown.archive

-- Three disks of a pair, and what they stand for. None of them was stopped, and nothing is armed at
-- them
pub record StandFor {D : Type 0} (seen : D → Bytes) (arms : D → Arms) (pair : ℕ)
    (disks : Disks D) (stores : Stores) : Type 0 where
  pub fits : pair < 2 ^ 64
  pub left : IsFree (arms disks.left)
  pub right : IsFree (arms disks.right)
  pub archive : IsFree (arms disks.archive)
  pub stand : DisksStand pair (shown_on seen disks) stores

-- The world is one of the model that was just opened from what the disks showed, and stands for the
-- same
pub record OpensFrom {D : Type 0} {disk : Ghosts D} (pair : ℕ) (shown : DiskBytes) (stores : Stores)
    (world : World D disk) : Type 0 where
  pub model : ModelWorld
  pub is : IsWorld world model
  pub opened : IsOpenedFrom pair shown model
  pub stores_are : stores_of model ≡ stores

-- the three disks hold two replicas and an archive, all of one pair
pub record AreOfPair (shown : DiskBytes) (pair : ℕ) : Type 0 where
  pub left : HoldsReplica pair shown.left
  pub right : HoldsReplica pair shown.right
  pub archive : HoldsArchive pair shown.archive

-- Why they are not opened: the first of left, right and archive that is refused has the cause, and
-- those before it hold what they should
pub data RefusesDisks (shown : DiskBytes) (refusal : Refusal) : Type 0 where
  refuses_left : RefusesSide None shown.left refusal → RefusesDisks shown refusal
  refuses_right : (pair : ℕ) → HoldsReplica pair shown.left →
      RefusesSide (Some pair) shown.right refusal → RefusesDisks shown refusal
  refuses_archive : (pair : ℕ) → HoldsReplica pair shown.left → HoldsReplica pair shown.right →
      RefusesArchive (Some pair) shown.archive refusal → RefusesDisks shown refusal

-- how many calls of the three disks failed
abbrev pub failed_calls : {D : Type 0} → (D → ℕ) → Disks D → ℕ
failed_calls failures disks =
    failures disks.left + failures disks.right + failures disks.archive

-- these are the three disks of the world
abbrev pub HoldsDisks : {D : Type 0} → {disk : Ghosts D} → World D disk → Disks D → Type 0
HoldsDisks world disks = option_map disks_in (running_in world) ≡ Some disks

-- each of the world's disks has counted as many failed calls as the one that it was opened from
abbrev pub CountsAsOpened : {D : Type 0} → {disk : Ghosts D} → World D disk → Disks D → Type 0
CountsAsOpened {D} {disk} world disks = (running : Running D disk) →
    running_in world ≡ Some running →
    CountAlike (failures_in running) (failures_on disk.failures disks)

-- a stop leaves on each of the disks only what it might have left before
pub record ComeBack {D : Type 0} (may_leave : D → Bytes → Type 0) (old new : Disks D)
    : Type 0 where
  pub left : NothingNew (may_leave old.left) (may_leave new.left)
  pub right : NothingNew (may_leave old.right) (may_leave new.right)
  pub archive : NothingNew (may_leave old.archive) (may_leave new.archive)

-- the disks as a stop of each machine that was up leaves them, which makes no call
pub record StopsDisks {D : Type 0} (may_leave : D → Bytes → Type 0) (failures : D → ℕ)
    (old new : Disks D) : Type 0 where
  pub back : ComeBack may_leave old new
  pub count : CountAlike (failures_on failures new) (failures_on failures old)

-- none of the disks was stopped, and nothing is armed at them
pub record AreFree {D : Type 0} (arms : D → Arms) (disks : Disks D) : Type 0 where
  pub left : IsFree (arms disks.left)
  pub right : IsFree (arms disks.right)
  pub archive : IsFree (arms disks.archive)
