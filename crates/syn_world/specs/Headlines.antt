-- The exact run beside what is promised of it: from three disks to the world that it leaves, or to
-- the disks.
use Rattle.std.specs.Prelude.{◌≡◌, ◌<◌, ◌^◌, ◌⊎◌, ◌++◌, ℕ, List, Result, Ok, Err}
use Rattle.syn_disk.specs.Arms.{Arms}
use Rattle.syn_disk.specs.declared.disk.Disk.{Ghosts}
use Rattle.syn_promise.specs.Laws.{told_by}
use Rattle.syn_runs.specs.Acknowledged.{Stores}
use Rattle.syn_runs.specs.Runs.{stores_of}
use Rattle.syn_runs.specs.World.{World as ModelWorld, Step, Runs}
use Rattle.syn_world.specs.Starts.{CountsFailure}
use Rattle.syn_model.specs.Path.{Bytes}
use Rattle.syn_model.specs.Refusal as why
use Rattle.syn_world.specs.CrashSafety.{DiskBytes, DisksStand, IsOpenedFrom}
use Rattle.syn_refusal.specs.Refusals.{cause_of}
use Rattle.syn_refusal.specs.declared.refusal.Refusal.{Refusal}
use Rattle.syn_world.specs.Openings.{AreOfPair, ComeBack, OpensFrom, RefusesDisks}
use Rattle.syn_world.specs.Failures.{FailWithDisks, disks_in, failures_on}
use Rattle.syn_world.specs.Openings.{MayHold, StandFor, failed_calls, shown_on}
use Rattle.syn_world.specs.Promises.{LeavePromised}
use Rattle.syn_world.specs.Worlds.{AreLeft, IsWorld}
use Rattle.syn_world.specs.declared.world.Disks.{Disks}
use Rattle.syn_world.specs.declared.world.World.{World}

-- A run by these steps: a world was opened from the disks, which stood for `before`, and went by
-- the steps to this one. No machine counts more failures in them than its disk. Whatever a stop may
-- leave on the later disks may be their machines', and the promise holds of it, with what this
-- world tells
pub record IsRun {D : Type 0} (disk : Ghosts D) (pair : ℕ) (disks later : Disks D)
    (before : Stores) (steps : List Step) (new : ModelWorld) : Type 0 where
  pub old : ModelWorld
  pub opened : IsOpenedFrom pair (shown_on disk.seen disks) old
  pub stood_for : stores_of old ≡ before
  pub runs : Runs old steps new
  pub counts : FailWithDisks old new (failures_on disk.failures disks)
      (failures_on disk.failures later)
  pub left : AreLeft disk.may_leave later new
  pub promised : LeavePromised disk.may_leave pair before steps (told_by new) later

-- the world went by all of the steps
pub record HasRunAll {D : Type 0} {disk : Ghosts D} (pair : ℕ) (disks : Disks D)
    (before : Stores) (steps : List Step) (world : World D disk) : Type 0 where
  pub new : ModelWorld
  pub is : IsWorld world new
  pub run : IsRun disk pair disks (disks_in is.running) before steps new

-- no world was opened, for no cause that lies in the disks' bytes, and the disks come back
pub record IsNotOpened {D : Type 0} (disk : Ghosts D) (disks : Disks D)
    (refused : Refusal × Disks D) : Type 0 where
  pub failures : CountsFailure refused.0 (failed_calls disk.failures disks)
      (failed_calls disk.failures refused.1)
  pub back : ComeBack disk.may_leave disks refused.1

-- memory was refused after a first part of the steps, perhaps none or all of them, and the disks
-- come back as that left them
pub record IsCutShort {D : Type 0} (disk : Ghosts D) (pair : ℕ) (disks : Disks D)
    (before : Stores) (steps : List Step) (refused : Refusal × Disks D) : Type 0 where
  pub memory : cause_of refused.0 ≡ why.Memory
  pub made : List Step
  pub rest : List Step
  pub all : made ++ rest ≡ steps
  pub new : ModelWorld
  pub run : IsRun disk pair disks refused.1 before made new

-- A run from disks of a pair that stand for this
abbrev pub RunsFrom : {D : Type 0} → {disk : Ghosts D} → ℕ → Disks D → Stores → List Step →
    Result (World D disk) (Refusal × Disks D) → Type 0
RunsFrom {D} {disk} pair disks before steps (Ok world) =
    HasRunAll pair disks before steps world
RunsFrom {D} {disk} pair disks before steps (Err refused) =
    IsNotOpened disk disks refused ⊎ IsCutShort disk pair disks before steps refused

-- the disks stand for the pair, with none stopped and nothing armed: a world may run from them
pub record MayRun {D : Type 0} (seen : D → Bytes) (arms : D → Arms) (pair : ℕ)
    (disks : Disks D) : Type 0 where
  pub stores : Stores
  pub stand : StandFor seen arms pair disks stores

-- What was opened after a stop: a stop might have left disks of one pair
pub record FindsPair {D : Type 0} (may_leave : D → Bytes → Type 0) (disks : Disks D)
    (pair : ℕ) : Type 0 where
  pub shown : DiskBytes
  pub might_hold : MayHold may_leave disks shown
  pub holds : AreOfPair shown pair

-- And why it was not: a stop might have left disks that are refused so
pub record FindsCause {D : Type 0} (may_leave : D → Bytes → Type 0) (disks : Disks D)
    (refusal : Refusal) : Type 0 where
  pub shown : DiskBytes
  pub might_hold : MayHold may_leave disks shown
  pub refuses : RefusesDisks shown refusal

-- It was opened from what a stop might have left, whatever that stands for
pub record OpensAgain {D : Type 0} {disk : Ghosts D} (disks : Disks D) (world : World D disk) :
    Type 0 where
  pub shown : DiskBytes
  pub might_hold : MayHold disk.may_leave disks shown
  pub opens : (pair : ℕ) (now : Stores) → pair < 2 ^ 64 → DisksStand pair shown now →
      OpensFrom pair shown now world

-- What comes back where a call is refused: the disks, on which a stop leaves nothing new; or they
-- were of one pair, and a world was opened from them first
abbrev pub RefusedComeBack : {D : Type 0} → (D → Bytes → Type 0) → (D → Bytes) → Disks D →
    Disks D → Type 0
RefusedComeBack may_leave seen disks back = ComeBack may_leave disks back
    ⊎ ((pair : ℕ) × AreOfPair (shown_on seen disks) pair)
