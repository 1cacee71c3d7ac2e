-- What the disk of one machine stands for, and the machine that is opened from it.
use Rattle.std.specs.Prelude.{◌≡◌, ◌≢◌, ◌⊎◌, ◌<◌, ℕ, None, Option}
use Rattle.syn_archive.specs.Disks.{DiskStands}
use Rattle.syn_archive.specs.Disks as archive_disks
use Rattle.syn_archive.specs.Refusals as archives
use Rattle.syn_archive.specs.declared.error.ArchiveError.{ArchiveError}
use Rattle.syn_disk.specs.Arms.{Arms}
use Rattle.syn_disk.specs.declared.disk.Disk.{Ghosts}
use Rattle.syn_runs.specs.Runs.{IsJustOpened}
use Rattle.syn_machine.specs.SideMachine.{SideMachine}
use Rattle.syn_world.specs.Sides.{RunsAs}
use Rattle.syn_world.specs.declared.side.UpSide.{UpSide}
use Rattle.syn_model.specs.Archive.{Archive}
use Rattle.syn_model.specs.History.{History}
use Rattle.syn_model.specs.Path.{Bytes}
use Rattle.syn_model.specs.Refusal as why
use Rattle.syn_model.specs.Standing.{Standing}
use Rattle.syn_journal.specs.Calls.{IsFree}
use Rattle.syn_archive.specs.Keepings.{of_archive}
use Rattle.syn_replica.specs.Keepings.{of_side}
use Rattle.syn_journal.specs.Meaning.{IsDiskOf, IsOf, Keeping}
use Rattle.syn_refusal.specs.Refusals.{cause_of}
use Rattle.syn_refusal.specs.declared.refusal.Refusal.{Refusal}
use Rattle.syn_replica.specs.Disks.{DiskGives, IsOpenRefusal}
use Rattle.syn_replica.specs.ErrorRefusals.{refusal_of}
use Rattle.syn_replica.specs.declared.error.ReplicaError.{ReplicaError}
use Rattle.syn_coordinator.specs.Coordinators.{Stands}
use Rattle.syn_coordinator.specs.Machines.{Journal}
use Rattle.syn_coordinator.specs.declared.coordinator.Coordinator.{Coordinator}

-- The disk is free, and its bytes stand for what its machine keeps
pub record CanStart {V W : Type 0} (keeping : Keeping V W) (arms : Arms) (bytes : Bytes)
    (kept : V) : Type 0 where
  pub free : IsFree arms
  pub is_disk : IsDiskOf keeping bytes kept

-- the causes of a refusal that no bytes of a disk are: a failed device call, and lack of memory
abbrev pub IsFromOutside : Refusal → Type 0
IsFromOutside refusal = (cause_of refusal ≡ why.Device) ⊎ (cause_of refusal ≡ why.Memory)

-- a side was just opened from bytes that stand for the history, and nothing is staged
pub record StartsSide {D : Type 0} {disk : Ghosts D} (pair : ℕ) (bytes : Bytes)
    (history : History) (side : UpSide D disk) : Type 0 where
  pub machine : SideMachine
  pub runs : RunsAs pair side machine
  pub fresh : IsJustOpened machine.journal
  pub unstaged : machine.staging ≡ None
  pub is : IsOf (of_side pair) machine.journal bytes
  pub value_is : machine.journal.value ≡ history

-- and so was a coordinator, from bytes that stand for the archive, with no session
pub record StartsCoordinator {D : Type 0} {disk : Ghosts D} (pair : ℕ) (bytes : Bytes)
    (archive : Archive) (coordinator : Coordinator D disk) : Type 0 where
  pub journal : Journal
  pub stands : Stands coordinator pair (record { journal = journal; running = None })
  pub fresh : IsJustOpened journal
  pub is : IsOf (of_archive pair) journal bytes
  pub value_is : journal.value ≡ archive

-- Why a disk is not opened, and what it holds where it is

-- the disk holds a replica of the pair: an image, with the payloads of events allowed in turn
pub record HoldsReplica (pair : ℕ) (bytes : Bytes) : Type 0 where
  pub standing : Standing
  pub gives : DiskGives pair bytes standing

-- and this one an archive of it
pub record HoldsArchive (pair : ℕ) (bytes : Bytes) : Type 0 where
  pub archive : Archive
  pub stands : DiskStands pair bytes archive

-- the refusal is one of a replica's opening, whose cause lies in the bytes, or outside of them
-- where it is 9 or 11
pub record RefusesSide (wanted : Option ℕ) (bytes : Bytes) (refusal : Refusal) : Type 0 where
  pub error : ReplicaError
  pub is : cause_of refusal ≡ refusal_of error
  pub cause : IsOpenRefusal error wanted bytes

-- and this one of an archive's
pub record RefusesArchive (wanted : Option ℕ) (bytes : Bytes) (refusal : Refusal) : Type 0 where
  pub error : ArchiveError
  pub is : cause_of refusal ≡ archives.refusal_of error
  pub cause : archive_disks.IsOpenRefusal error wanted bytes

-- 9 is answered where the count of failed calls grew, and any other refusal where it did not
pub record CountsFailure (refusal : Refusal) (before after : ℕ) : Type 0 where
  pub grew : cause_of refusal ≡ why.Device → before < after
  pub same : cause_of refusal ≢ why.Device → after ≡ before
