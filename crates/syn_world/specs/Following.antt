-- An archive that goes on with two replicas.
use Rattle.std.specs.Prelude.{◌≡◌, ◌≤◌, ℕ}
use Rattle.syn_archive.specs.Archive as archives
use Rattle.syn_archive.specs.declared.archive.Archive.{Archive}
use Rattle.syn_disk.specs.declared.disk.Disk.{Ghosts}
use Rattle.syn_model.specs.History.{History}
use Rattle.syn_replica.specs.Replica as replicas
use Rattle.syn_replica.specs.declared.replica.Replica.{Replica}
use Rattle.syn_runs.specs.Acknowledged.{Stores}
use Rattle.syn_world.specs.CrashSafety.{DiskBytes, DisksStand}
use Rattle.syn_world.specs.Openings.{AreFree, MayHold, StandFor}
use Rattle.syn_world.specs.declared.world.Disks.{Disks}

-- the replica is of the pair and stands for the history, and has begun no session after this one
pub record BeganUpTo {D : Type 0} {disk : Ghosts D} (pair session : ℕ) (history : History)
    (replica : Replica D disk) : Type 0 where
  pub of_pair : replicas.pair_of replica ≡ pair
  pub stands : replicas.Stands replica history
  pub begun : (replicas.standing_shown replica).session ≤ session

-- the disks of two replicas and an archive
abbrev pub disks_under : {D : Type 0} → {disk : Ghosts D} → Replica D disk → Replica D disk →
    Archive D disk → Disks D
disks_under left right archive = record {
  left = replicas.disk_of left;
  right = replicas.disk_of right;
  archive = archives.disk_of archive;
}

-- The disks meet the premise of a run, with nothing armed at them, and so does whatever a stop may
-- leave on them
pub record MeetPremise {D : Type 0} (disk : Ghosts D) (pair : ℕ) (disks : Disks D)
    (stores : Stores) : Type 0 where
  pub stand : AreFree disk.arms disks → StandFor disk.seen disk.arms pair disks stores
  pub left : (shown : DiskBytes) → MayHold disk.may_leave disks shown →
      DisksStand pair shown stores
