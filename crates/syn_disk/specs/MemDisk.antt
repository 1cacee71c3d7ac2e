-- What a disk in memory shows.
use Rattle.std.specs.Prelude.{◌≡◌, ℕ, Bool, false, List, drop, length}
use Rattle.syn_disk.specs.Disk.{Elapses}
use Rattle.syn_disk.specs.Parts.{PartsMayLeave, both_contents, both_synced, both_written}
use Rattle.syn_disk.specs.Moments.{MayLeave, LeftSince}
use Rattle.syn_disk.specs.Written.{is_written}
use Rattle.syn_disk.specs.declared.simulated.leaves.Leaves.{Leaves}
use Rattle.syn_disk.specs.declared.simulated.memory.MemDisk.{MemDisk}

-- what a read gives
abbrev pub bytes_of : MemDisk → List ℕ
bytes_of disk = both_contents disk.low disk.high

-- what the last sync, or the last restart, kept
abbrev pub synced_of : MemDisk → List ℕ
synced_of disk = both_synced disk.low disk.high

-- which bytes were written since then
abbrev pub written_of : MemDisk → List Bool
written_of disk = both_written disk.low disk.high

-- what the restarts to come leave
abbrev pub leaves_of : MemDisk → List Leaves
leaves_of disk = drop disk.restarts disk.leaves.items

-- a stop leaves what a read gives, and so does one that loses all that was not synced
pub record IsSynced (disk : MemDisk) : Type 0 where
  pub none_written : (i : ℕ) → is_written (written_of disk) i ≡ false
  pub all_synced : synced_of disk ≡ bytes_of disk

-- what a stop at this moment may leave
abbrev pub IsLeft : MemDisk → List ℕ → Type 0
IsLeft disk = MayLeave (bytes_of disk) (is_written (written_of disk))

abbrev pub moment_of : MemDisk → ℕ
moment_of disk = length disk.history

-- what a stop since a moment might have left
abbrev pub WasLeft : MemDisk → ℕ → List ℕ → Type 0
WasLeft disk = LeftSince PartsMayLeave disk.history (disk.low, disk.high)

abbrev pub GoesOn : MemDisk → MemDisk → Type 0
GoesOn old new = Elapses (moment_of old) (moment_of new) (WasLeft old) (WasLeft new) (IsLeft new)
