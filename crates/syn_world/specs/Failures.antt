-- How many device calls failed: of each machine of the model, and of its disk.
use Rattle.std.specs.Prelude.{◌≡◌, ◌+◌, ◌≤◌, ℕ, Err, Ok, Result}
use Rattle.syn_disk.specs.declared.disk.Disk.{Ghosts}
use Rattle.syn_machine.specs.Network.{Left, Right}
use Rattle.syn_runs.specs.World.{World as ModelWorld, At, Coordinator, Machine, failures_of}
use Rattle.syn_world.specs.Coordinators.{archive_disk}
use Rattle.syn_world.specs.Sides.{side_disk}
use Rattle.syn_world.specs.declared.running.Running.{Running}
use Rattle.syn_world.specs.declared.world.Disks.{Disks}

-- how many failed calls each machine's disk has counted, or each machine
abbrev pub Counts : Type 0
Counts = Machine → ℕ

abbrev pub failures_on : {D : Type 0} → (D → ℕ) → Disks D → Counts
failures_on failures disks (At Left) = failures disks.left
failures_on failures disks (At Right) = failures disks.right
failures_on failures disks Coordinator = failures disks.archive

-- the three disks of what runs
abbrev pub disks_in : {D : Type 0} → {disk : Ghosts D} → Running D disk → Disks D
disks_in running = record {
  left = side_disk running.left;
  right = side_disk running.right;
  archive = archive_disk running.coordinator;
}

-- what they have counted
abbrev pub failures_in : {D : Type 0} → {disk : Ghosts D} → Running D disk → Counts
failures_in {D} {disk} running = failures_on disk.failures (disks_in running)

-- what a step gives back, whether memory was refused for it or not
abbrev pub last_of : {R : Type 0} → Result R R → R
last_of (Ok running) = running
last_of (Err running) = running

-- one has counted as many as the other, machine by machine
abbrev pub CountAlike : Counts → Counts → Type 0
CountAlike one other = (machine : Machine) → one machine ≡ other machine

-- No machine counts more failed calls between the two worlds than its disk, which had counted so
-- many before them and has now: where no call of a disk failed, none of its machine did
abbrev pub FailWithDisks : ModelWorld → ModelWorld → Counts → Counts → Type 0
FailWithDisks old new before now = (machine : Machine) →
    failures_of new machine + before machine ≤ failures_of old machine + now machine
