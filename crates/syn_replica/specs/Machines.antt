-- Which machine of the model a replica is, and what each call is to it.
use Rattle.std.specs.Prelude.{◌≡◌, ◌≢◌, ◌≤◌, ℕ, true, false, List, Option, Some, None}
use Rattle.syn_disk.specs.Arms.{is_stopped}
use Rattle.syn_disk.specs.declared.disk.Disk.{Ghosts}
use Rattle.syn_machine.specs.Machine.{Arms, Journaled, Meets, Opens, Status, Up, Halted, Down}
use Rattle.syn_machine.specs.Machine.{after_device, unarmed, with_image, with_record}
use Rattle.syn_machine.specs.SideMachine.{side_layout}
use Rattle.syn_journal.specs.Calls.{armed_at}
use Rattle.syn_replica.specs.Keepings.{of_side}
use Rattle.syn_journal.specs.Machines.{compacting, writing}
use Rattle.syn_journal.specs.Meaning.{IsOpened, MayBeOf}
use Rattle.syn_model.specs.Event.{Event}
use Rattle.syn_model.specs.History.{History, IsAllowed}
use Rattle.syn_model.specs.Refusal.{Refusal, Device, Memory}
use Rattle.syn_replica.specs.Replica.{IsHalted, Remembers, Stands, disk_of, generation_shown}
use Rattle.syn_replica.specs.Replica.{left_shown, pair_of}
use Rattle.syn_replica.specs.declared.replica.Replica.{Replica}

-- what keeps a history and its events
abbrev pub Journal : Type 0
Journal = Journaled History Event

-- a machine that is up has a replica that stands for its history; of a halted one it remembers it
abbrev pub StandsAs : {D : Type 0} → {disk : Ghosts D} → Status → Replica D disk → History → Type 0
StandsAs Up replica history = Stands replica history
StandsAs Halted replica history = IsHalted replica × Remembers replica history
StandsAs Down replica history = ⊥

module _ {D : Type 0} {disk : Ghosts D} (replica : Replica D disk) (pair : ℕ)
    (machine : Journal) where
  -- each content that a stop may leave now may be the machine's
  abbrev pub LeavesMachine : Type 0
  LeavesMachine = (bytes : List ℕ) → disk.may_leave (disk_of replica) bytes →
      MayBeOf (of_side pair) machine bytes

  -- It is the machine that keeps the history of the pair, which is not down. What its journal shows
  -- is compared where it is up alone: an opening for which memory was refused may have read more
  pub record IsMachine : Type 0 where
    pub pair_is : pair_of replica ≡ pair
    pub stands : StandsAs machine.status replica machine.value
    pub room : machine.status ≡ Up → machine.room ≡ left_shown replica
    pub generation : machine.status ≡ Up → machine.generation ≡ generation_shown replica
    pub armed : machine.arms ≡ armed_at (disk.arms (disk_of replica))
    pub runs : is_stopped (disk.arms (disk_of replica)) ≡ false
    pub left : LeavesMachine

  -- the disk is stopped, and the machine is down
  pub record IsDown : Type 0 where
    pub pair_is : pair_of replica ≡ pair
    pub down : machine.status ≡ Down
    pub stopped : is_stopped (disk.arms (disk_of replica)) ≡ true
    pub left : LeavesMachine

module _ {D : Type 0} {disk : Ghosts D} (new : Replica D disk) (pair : ℕ) (machine : Journal) where
  -- A machine that is up writes the record of an event by four device calls; its device fails at
  -- that; or it stops among them or right after them, and nobody hears whether the event is on the
  -- disk. Where the call is refused otherwise, the machine stays as it was
  pub data WritesRecord (event : Event) : Option Refusal → Type 0 where
    written : (arms : Arms) → machine.status ≡ Up → Meets machine.arms 4 Up arms 0 →
        IsMachine new pair (with_record (side_layout pair) machine event arms) →
        WritesRecord event None
    stopped_after : machine.status ≡ Up → Meets machine.arms 4 Down unarmed 0 →
        IsDown new pair (writing machine event Down unarmed 0) → WritesRecord event None
    failed : (arms : Arms) → machine.status ≡ Up → Meets machine.arms 4 Halted arms 1 →
        IsMachine new pair (writing machine event Halted arms 1) →
        WritesRecord event (Some Device)
    stopped : machine.status ≡ Up → Meets machine.arms 4 Down unarmed 0 →
        IsDown new pair (writing machine event Down unarmed 0) →
        WritesRecord event (Some Device)
    refused : (why : Refusal) → why ≢ Device → IsMachine new pair machine →
        WritesRecord event (Some why)

  -- an event that was done before is not written, and the machine stays
  abbrev pub WritesUnlessDone : Option Event → Option Refusal → Type 0
  WritesUnlessDone None why = IsMachine new pair machine
  WritesUnlessDone (Some event) why = WritesRecord event why

  -- It writes an image by six device calls, and the rest is as of a record
  pub data WritesImage : Option Refusal → Type 0 where
    image_written : (arms : Arms) → machine.status ≡ Up → Meets machine.arms 6 Up arms 0 →
        IsMachine new pair (with_image (side_layout pair) machine arms) → WritesImage None
    stopped_after_image : machine.status ≡ Up → Meets machine.arms 6 Down unarmed 0 →
        IsDown new pair (compacting machine Down unarmed 0) → WritesImage None
    image_failed : (arms : Arms) → machine.status ≡ Up → Meets machine.arms 6 Halted arms 1 →
        IsMachine new pair (compacting machine Halted arms 1) → WritesImage (Some Device)
    image_stopped : machine.status ≡ Up → Meets machine.arms 6 Down unarmed 0 →
        IsDown new pair (compacting machine Down unarmed 0) → WritesImage (Some Device)
    image_refused : (why : Refusal) → why ≢ Device → IsMachine new pair machine →
        WritesImage (Some why)

  -- It is opened again by at least one device call: that gives what the disk may mean; or the
  -- machine stopped in it, its device failed, or memory was refused after the device calls
  pub data ReadsDisk : Option Refusal → Type 0 where
    read : (calls : ℕ) (next : Journal) (events : List Event) → 1 ≤ calls →
        Opens (side_layout pair) IsAllowed machine calls next events → IsOpened next →
        IsMachine new pair next → ReadsDisk None
    stopped_reading : (why : Option Refusal) (calls : ℕ) →
        Meets machine.arms calls Down unarmed 0 →
        IsDown new pair (after_device machine Down unarmed 0) → ReadsDisk why
    failed_reading : (calls : ℕ) (arms : Arms) → Meets machine.arms calls Halted arms 1 →
        IsMachine new pair (after_device machine Halted arms 1) → ReadsDisk (Some Device)
    unread : (calls : ℕ) (arms : Arms) → 1 ≤ calls → Meets machine.arms calls Up arms 0 →
        IsMachine new pair (after_device machine machine.status arms 0) →
        ReadsDisk (Some Memory)

  -- A machine that was down is opened, which gives what its disk may mean, and it runs
  pub record Starts : Type 0 where
    pub calls : ℕ
    pub next : Journal
    pub events : List Event
    pub opens : Opens (side_layout pair) IsAllowed machine calls next events
    pub opened : IsOpened next
    pub is : IsMachine new pair next
