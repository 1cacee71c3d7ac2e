-- A run of a world from three disks, and the opening after it.
use Rattle.std.proofs.Common.{◌≡◌, ◌<◌, ℕ, List, Result, Ok, Err, Some, ap, option_map}
use Rattle.std.proofs.Common.{◌∙◌, refl, subst, sym}
use Rattle.std.specs.Prelude.{◌^◌, IfErr, IfOk, MatchResult}
use Rattle.syn_disk.specs.Arms.{Arms, no_arms}
use Rattle.syn_disk.specs.declared.disk.Disk.{Ghosts}
use Rattle.syn_promise.specs.Told.{Told}
use Rattle.syn_runs.specs.Acknowledged.{Stores}
use Rattle.syn_machine.specs.Coordinator.{CoordinatorMachine}
use Rattle.syn_machine.specs.Network.{Left, Right, Which}
use Rattle.syn_machine.specs.SideMachine.{SideMachine}
use Rattle.syn_runs.specs.World.{World as ModelWorld, Step, side_of}
use Rattle.syn_world.specs.Coordinators.{IsCoordinator, archive_disk}
use Rattle.syn_world.specs.Sides.{IsHost, side_disk}
use Rattle.syn_world.specs.Starts.{CountsFailure}
use Rattle.syn_journal.specs.Calls.{IsFree}
use Rattle.syn_world.specs.declared.coordinator.CoordinatorHost.{CoordinatorHost}
use Rattle.syn_world.specs.declared.coordinator.CoordinatorHost.TheVariants as machine
use Rattle.syn_world.specs.declared.side.SideHost.{SideHost}
use Rattle.syn_world.specs.declared.side.SideHost.TheVariants as host
use Rattle.syn_model.specs.Path.{Bytes}
use Rattle.syn_world.specs.CrashSafety.{DiskBytes, DisksStand, MayBeLeft, disk_of}
use Rattle.syn_archive.specs.Keepings.{of_archive}
use Rattle.syn_replica.specs.Keepings.{of_side}
use Rattle.syn_journal.specs.Meaning.{MayBeOf}
use Rattle.syn_world.specs.Headlines.{MayRun, OpensAgain}
use Rattle.syn_refusal.specs.declared.refusal.Refusal.{Refusal}
use Rattle.syn_world.specs.Failures.{CountAlike, disks_in, failures_on}
use Rattle.syn_world.specs.Openings.{AreFree, ComeBack, CountsAsOpened, HoldsDisks, MayHold}
use Rattle.syn_world.specs.Openings.{OpensFrom, StandFor, failed_calls, shown_on}
use Rattle.syn_world.specs.Promises.{LeavePromised}
use Rattle.syn_world.specs.Worlds.{AreLeft, RunsMachines, running_in}
use Rattle.syn_world.specs.declared.running.Running.{Running}
use Rattle.syn_world.specs.declared.world.Disks.{Disks}
use Rattle.syn_world.specs.declared.world.World.{World}

module _ {D : Type 0} {disk : Ghosts D} (pair : ℕ) where
  -- what a stop may leave on the disk of a machine, up or down, may be the machine's
  side_left : (side : SideHost D disk) (model : SideMachine) → IsHost pair side model
      → (bytes : Bytes) → disk.may_leave (side_disk side) bytes
      → MayBeOf (of_side pair) model.journal bytes
  side_left (host.Up side) model runs bytes left = runs.is.keeps.left bytes left
  side_left (host.Down side) model rests bytes left = rests.rests.leaves bytes left

  archive_left : (coordinator : CoordinatorHost D disk) (model : CoordinatorMachine)
      → IsCoordinator pair coordinator model → (bytes : Bytes)
      → disk.may_leave (archive_disk coordinator) bytes
      → MayBeOf (of_archive pair) model.journal bytes
  archive_left (machine.Up coordinator) model stands bytes left = stands.journal.leaves bytes left
  archive_left (machine.Down rest) model rests bytes left = rests.rests.leaves bytes left

-- and so of all machines
pub world_left : {D : Type 0} {disk : Ghosts D} (world : Running D disk) (model : ModelWorld)
    → RunsMachines world model → AreLeft disk.may_leave (disks_in world) model
world_left world model is = record {
  left = side_left model.pair world.left model.left is.left;
  right = side_left model.pair world.right model.right is.right;
  archive = archive_left model.pair world.coordinator model.coordinator is.coordinator;
}

-- and of disks that come back with nothing new
pub left_on_disks : {D : Type 0} (may_leave : D → Bytes → Type 0) (old new : Disks D)
    (model : ModelWorld) → ComeBack may_leave old new → AreLeft may_leave old model
    → AreLeft may_leave new model
left_on_disks may_leave old new model back are = record {
  left = λ bytes left. are.left bytes (back.left bytes left);
  right = λ bytes left. are.right bytes (back.right bytes left);
  archive = λ bytes left. are.archive bytes (back.archive bytes left);
}

module _ {D : Type 0} (may_leave : D → Bytes → Type 0) (disks : Disks D) (model : ModelWorld)
    (left : AreLeft may_leave disks model) (shown : DiskBytes)
    (holds : MayHold may_leave disks shown) where
  side_may_be : (which : Which) → MayBeOf (of_side model.pair)
      (side_of model which).journal (disk_of shown which)
  side_may_be Left = left.left shown.left holds.left
  side_may_be Right = left.right shown.right holds.right

  pub may_be_left : MayBeLeft shown model
  may_be_left = record {
    side = side_may_be;
    archive = left.archive shown.archive holds.archive;
  }

-- a disk as it is found after a stop
free : (arms : Arms) → arms ≡ no_arms → IsFree arms
free arms none = subst IsFree (sym none) (record { goes = refl; unarmed_is = refl })

-- disks as they are found after a stop
pub record AreStopped {D : Type 0} (disk : Ghosts D) (disks stopped : Disks D) : Type 0 where
  pub back : ComeBack disk.may_leave disks stopped
  pub left : disk.arms stopped.left ≡ no_arms
  pub right : disk.arms stopped.right ≡ no_arms
  pub archive : disk.arms stopped.archive ≡ no_arms

module _ {D : Type 0} (disk : Ghosts D) (disks stopped : Disks D)
    (is : AreStopped disk disks stopped)
    (stays : (one : D) → disk.may_leave one (disk.seen one)) where
  pub might_hold : MayHold disk.may_leave disks (shown_on disk.seen stopped)
  might_hold = record {
    left = is.back.left (disk.seen stopped.left) (stays stopped.left);
    right = is.back.right (disk.seen stopped.right) (stays stopped.right);
    archive = is.back.archive (disk.seen stopped.archive) (stays stopped.archive);
  }

-- disks as they are found after a stop stand for what they show
pub stand_stopped : {D : Type 0} (disk : Ghosts D) (disks stopped : Disks D)
    → AreStopped disk disks stopped → (pair : ℕ) (now : Stores) → pair < 2 ^ 64
    → DisksStand pair (shown_on disk.seen stopped) now
    → StandFor disk.seen disk.arms pair stopped now
stand_stopped disk disks stopped is pair now fits stand = record {
  fits = fits;
  left = free (disk.arms stopped.left) is.left;
  right = free (disk.arms stopped.right) is.right;
  archive = free (disk.arms stopped.archive) is.archive;
  stand = stand;
}

-- and what is opened from them is opened again
pub opens_again : {D : Type 0} {disk : Ghosts D} (disks : Disks D) (shown : DiskBytes)
    → MayHold disk.may_leave disks shown → (result : Result (World D disk) (Refusal × Disks D))
    → ((pair : ℕ) (now : Stores) → pair < 2 ^ 64 → DisksStand pair shown now
    → IfOk result (OpensFrom pair shown now)) → IfOk result (OpensAgain disks)
opens_again disks shown might (Ok world) opens = record {
  shown = shown;
  might_hold = might;
  opens = opens;
}
opens_again disks shown might (Err refused) opens = tt

-- what holds of a value or an error, whatever else does
pub if_ok : {T E : Type 0} {P Q : T → Type 0} (one : Result T E) → IfOk one P
    → ((value : T) → P value → Q value) → IfOk one Q
if_ok (Ok value) was goes = goes value was
if_ok (Err error) was goes = tt

pub if_err : {T E : Type 0} {P Q : E → Type 0} (one : Result T E) → IfErr one P
    → ((error : E) → P error → Q error) → IfErr one Q
if_err (Ok value) was goes = tt
if_err (Err error) was goes = goes error was

-- what a stop may leave on disks whose machines were stopped it might have left before
pub holds_before : {D : Type 0} (may_leave : D → Bytes → Type 0) (old new : Disks D)
    → ComeBack may_leave old new → (shown : DiskBytes) → MayHold may_leave new shown
    → MayHold may_leave old shown
holds_before may_leave old new back shown holds = record {
  left = back.left shown.left holds.left;
  right = back.right shown.right holds.right;
  archive = back.archive shown.archive holds.archive;
}

-- the promise holds of them, too
pub promised_before : {D : Type 0} (may_leave : D → Bytes → Type 0) (old new : Disks D)
    → ComeBack may_leave old new → (pair : ℕ) (before : Stores) (steps : List Step) (told : Told)
    → LeavePromised may_leave pair before steps told old
    → LeavePromised may_leave pair before steps told new
promised_before may_leave old new back pair before steps told leaves bytes holds =
    leaves bytes (holds_before may_leave old new back bytes holds)

-- and a world may run from them again
pub may_run : {D : Type 0} (disk : Ghosts D) (pair : ℕ) (disks : Disks D) (before : Stores)
    (steps : List Step) (told : Told) → pair < 2 ^ 64 → AreFree disk.arms disks
    → ((one : D) → disk.may_leave one (disk.seen one))
    → LeavePromised disk.may_leave pair before steps told disks
    → MayRun disk.seen disk.arms pair disks
may_run disk pair disks before steps told fits free stays leaves =
    let found = leaves (shown_on disk.seen disks) (record {
      left = stays disks.left;
      right = stays disks.right;
      archive = stays disks.archive;
    }) in
    record {
      stores = found.now;
      stand = record {
        fits = fits;
        left = free.left;
        right = free.right;
        archive = free.archive;
        stand = found.stand;
      };
    }

-- the disks of a world are those of what runs
pub holds_in : {D : Type 0} {disk : Ghosts D} (world : World D disk) (running : Running D disk)
    → running_in world ≡ Some running → HoldsDisks world (disks_in running)
holds_in world running there = ap (option_map disks_in) there

-- what an opening of stopped disks counts, as of the disks before the stop
pub recovered_counts : {D : Type 0} (disk : Ghosts D) (disks stopped : Disks D)
    (result : Result (World D disk) (Refusal × Disks D))
    → CountAlike (failures_on disk.failures stopped) (failures_on disk.failures disks)
    → failed_calls disk.failures stopped ≡ failed_calls disk.failures disks
    → MatchResult result (λ world. CountsAsOpened world stopped)
    (λ refused. CountsFailure refused.0 (failed_calls disk.failures stopped)
    (failed_calls disk.failures refused.1))
    → MatchResult result (λ world. CountsAsOpened world disks)
    (λ refused. CountsFailure refused.0 (failed_calls disk.failures disks)
    (failed_calls disk.failures refused.1))
recovered_counts disk disks stopped (Ok world) alike same counts = λ running there machine.
    counts running there machine ∙ alike machine
recovered_counts disk disks stopped (Err refused) alike same counts =
    subst (λ n. CountsFailure refused.0 n (failed_calls disk.failures refused.1)) same counts
