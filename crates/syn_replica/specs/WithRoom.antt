-- Many edits that a replica makes at once, after a checkpoint where there may be too little room.
use Rattle.std.specs.Prelude.{◌≡◌, ◌⊎◌, ◌++◌, ℕ, List}
use Rattle.syn_disk.specs.Stops.{LeavesOnly}
use Rattle.syn_disk.specs.declared.disk.Disk.{Ghosts}
use Rattle.syn_model.specs.History.{History}
use Rattle.syn_model.specs.Refusal.{Refusal, Device}
use Rattle.syn_replica.specs.Disks.{DiskStands}
use Rattle.syn_replica.specs.Replica.{disk_of, pair_of}
use Rattle.syn_replica.specs.declared.replica.Replica.{Replica}

-- a stop leaves the history, or that with all of the events after it
abbrev pub NoneOrAll : ℕ → History → History → List ℕ → Type 0
NoneOrAll pair history events bytes =
    DiskStands pair bytes history ⊎ DiskStands pair bytes (history ++ events)

-- A call that is refused otherwise than 9 has made no edit: whenever the machine stops, the disk
-- has the history alone. A checkpoint may have been made.
abbrev pub IsUnmade : {D : Type 0} → {disk : Ghosts D} → Replica D disk → History → Refusal → D
    → Type 0
IsUnmade {disk = disk} replica history refusal left = (refusal ≡ Device)
    ⊎ LeavesOnly disk.moment disk.left_since (disk_of replica) left
    (λ bytes. DiskStands (pair_of replica) bytes history)
