-- Which machine of the model keeps the state of a machine, and what each call is to it.
use Rattle.std.specs.Prelude.{◌≡◌, ◌≢◌, ◌⊎◌, ◌≤◌, ◌<◌, ◌^◌, ◌++◌, ℕ, suc, true, false, List, []}
use Rattle.std.specs.Prelude.{◌∷◌, Option, Some, None}
use Rattle.syn_disk.specs.Arms.{Arms as DiskArms, is_stopped}
use Rattle.syn_disk.specs.declared.disk.Disk.{Ghosts}
use Rattle.syn_machine.specs.Machine.{Arms, IsBefore, Meets, Opens, Status, Up, Halted, Down}
use Rattle.syn_machine.specs.Machine.{after_device, cut, room_after, unarmed, with_image}
use Rattle.syn_machine.specs.Machine.{with_record}
use Rattle.syn_machine.specs.Machine as model
use Rattle.syn_journal.specs.Journal as journal
use Rattle.syn_journal.specs.Layout.{Value}
use Rattle.syn_model.specs.Path.{Bytes}
use Rattle.syn_model.specs.Refusal.{Refusal, Device, Memory}
use Rattle.syn_journal.specs.Calls.{armed_at}
use Rattle.syn_journal.specs.Journaled.{IsHalted, disk_of, generation_of, journal_of, left_of}
use Rattle.syn_journal.specs.Journaled.{state_of}
use Rattle.syn_journal.specs.Meaning.{IsOpened, Keeping, MayBeOf, MeansAsKept}
use Rattle.syn_journal.specs.Refusals.{refusal_of}
use Rattle.syn_journal.specs.declared.error.JournalError.{JournalError}
use Rattle.syn_journal.specs.declared.journaled.Journaled.{Journaled}

-- How the model's machine keeps a state of one pair, and which of its values a state has in memory
pub record KeptAs (S V W : Type 0) : Type 1 where
  pub keeping : Keeping V W
  pub Remembers : S → V → Type 0

-- What a state owes, so that its machine is one of the model
pub record IsLawful {S V W : Type 0} (kept_as : KeptAs S V W) (spelling : S → Bytes) : Type 0 where
  -- its image is that of what it remembers
  pub image : (state : S) (kept : V) → kept_as.Remembers state kept →
      spelling state ≡ kept_as.keeping.layout.image kept
  -- whatever stands for a value, the value's image alone does too
  pub alone : (image : Bytes) (payloads : List Bytes) (kept : V) →
      kept_as.keeping.Stands image payloads kept →
      kept_as.keeping.Stands (kept_as.keeping.layout.image kept) [] kept
  -- and the payload of what may be added leads on
  pub more : (image : Bytes) (payloads : List Bytes) (kept : V) (added : W) →
      kept_as.keeping.Stands image payloads kept → kept_as.keeping.CanAdd kept added →
      kept_as.keeping.Stands image (payloads ++ kept_as.keeping.layout.payload added ∷ [])
      (kept_as.keeping.layout.after kept added)

-- it is kept after that: nothing was added, or one record
abbrev pub GoesOn : {S V W : Type 0} → KeptAs S V W → V → V → Type 0
GoesOn {W = W} kept_as before kept = (kept ≡ before)
    ⊎ ((added : W) × kept_as.keeping.CanAdd before added
    × (kept ≡ kept_as.keeping.layout.after before added))

-- What a state of this pair owes, so that what is read of a disk is what its machine keeps
pub record IsReadAs {S V W E : Type 0} (number : ℕ) (kept_as : KeptAs S V W) (pair : S → ℕ)
    (gives : Bytes → List Bytes → S → Type 0) (follows : S → S → Type 0)
    (unread : E → Option ℕ → Bytes → List Bytes → Type 0)
    (unread_again : E → S → Bytes → List Bytes → Type 0) (of_journal : JournalError → E)
    (why : E → Refusal) : Type 0 where
  pub of_pair : (state : S) (kept : V) → kept_as.Remembers state kept → pair state ≡ number
  pub same_pair : (old new : S) → follows old new → pair new ≡ pair old
  -- some state remembers what stands there, and each that does is given
  pub some : (image : Bytes) (payloads : List Bytes) (kept : V) →
      kept_as.keeping.Stands image payloads kept → (state : S) × kept_as.Remembers state kept
  pub given : (image : Bytes) (payloads : List Bytes) (kept : V) (state : S) →
      kept_as.keeping.Stands image payloads kept → kept_as.Remembers state kept →
      gives image payloads state
  -- lack of memory alone refuses to read what stands there
  pub read : (error : E) (kept : V) (image : Bytes) (payloads : List Bytes) → number < 2 ^ 64 →
      kept_as.keeping.Stands image payloads kept → unread error (Some number) image payloads →
      why error ≡ Memory
  -- or to read what goes on from a state
  pub read_again : (error : E) (state : S) (before kept : V) (image : Bytes)
      (payloads : List Bytes) → kept_as.Remembers state before → GoesOn kept_as before kept →
      kept_as.keeping.Stands image payloads kept → unread_again error state image payloads →
      why error ≡ Memory
  pub by_journal : (error : JournalError) → why (of_journal error) ≡ refusal_of error

module _ {D S V W : Type 0} {disk : Ghosts D} (kept_as : KeptAs S V W)
    (now : Journaled D S disk) (machine : model.Journaled V W) where
  -- each content that a stop may leave now may be the machine's
  abbrev pub LeavesMachine : Type 0
  LeavesMachine = (bytes : Bytes) → disk.may_leave (disk_of now) bytes →
      MayBeOf kept_as.keeping machine bytes

  -- it runs: its disk stands for what the machine keeps, with the room and the generation that the
  -- machine knows
  pub record Runs : Type 0 where
    pub value : Value
    pub runs : journal.Stands (journal_of now) value
    pub means : MeansAsKept kept_as.keeping machine value (generation_of now)

  -- of a machine that is halted the journal is
  abbrev pub StandsAs : Status → Type 0
  StandsAs Up = Runs
  StandsAs Halted = IsHalted now
  StandsAs Down = ⊥

  -- It is the machine, which is not down. How many device calls failed is not compared
  pub record IsMachine : Type 0 where
    pub remembers : kept_as.Remembers (state_of now) machine.value
    pub stands : StandsAs machine.status
    pub armed : machine.arms ≡ armed_at (disk.arms (disk_of now))
    pub goes : is_stopped (disk.arms (disk_of now)) ≡ false
    pub leaves : LeavesMachine

  -- The disk is stopped, and the machine is down
  pub record IsDown : Type 0 where
    pub down : machine.status ≡ Down
    pub stopped : is_stopped (disk.arms (disk_of now)) ≡ true
    pub leaves : LeavesMachine

-- the machine was writing this record, or its checkpoint was under way, as its device failed or it
-- stopped
abbrev pub writing : {V W : Type 0} → model.Journaled V W → W → Status → Arms → ℕ →
    model.Journaled V W
writing machine added status arms failed =
    after_device (record machine { writing = Some added }) status arms failed

abbrev pub compacting : {V W : Type 0} → model.Journaled V W → Status → Arms → ℕ →
    model.Journaled V W
compacting machine status arms failed =
    after_device (record machine { compacting = true }) status arms failed

-- The payload is that of a record that may be added to what the machine keeps, and leads to it in
-- memory
pub record Adds {S V W : Type 0} (kept_as : KeptAs S V W) (machine : model.Journaled V W)
    (added : W) (payload : Bytes) (Leads : S → Type 0) : Type 0 where
  pub can : kept_as.keeping.CanAdd machine.value added
  pub spelled : payload ≡ kept_as.keeping.layout.payload added
  pub leads : (state : S) → Leads state →
      kept_as.Remembers state (kept_as.keeping.layout.after machine.value added)

module _ {D S V W : Type 0} {disk : Ghosts D} (kept_as : KeptAs S V W)
    (new : Journaled D S disk) (machine : model.Journaled V W) where
  -- What the write of a record is to the machine, as it ended
  pub data WritesRecord (added : W) : Option Refusal → Type 0 where
    written : (arms : Arms) → Meets machine.arms 4 Up arms 0 →
        IsMachine kept_as new (with_record kept_as.keeping.layout machine added arms) →
        WritesRecord added None
    -- the stop came right after it, and nobody hears of it
    stopped_after : Meets machine.arms 4 Down unarmed 0 → machine.arms.stop ≡ 4 →
        IsBefore 4 machine.arms.fail →
        IsDown kept_as new (cut (with_record kept_as.keeping.layout machine added unarmed)) →
        WritesRecord added None
    failed : (arms : Arms) → Meets machine.arms 4 Halted arms 1 →
        IsMachine kept_as new (writing machine added Halted arms 1) →
        WritesRecord added (Some Device)
    stopped : Meets machine.arms 4 Down unarmed 0 →
        IsDown kept_as new (writing machine added Down unarmed 0) →
        WritesRecord added (Some Device)
    refused : (why : Refusal) → why ≢ Device → IsMachine kept_as new machine →
        WritesRecord added (Some why)

  -- What a checkpoint is to it
  pub data WritesImage : Option Refusal → Type 0 where
    image_written : (arms : Arms) → Meets machine.arms 6 Up arms 0 →
        IsMachine kept_as new (with_image kept_as.keeping.layout machine arms) → WritesImage None
    -- the stop came right after it, with the image in the journal
    stopped_after_image : Meets machine.arms 6 Down unarmed 0 →
        left_of new ≡ room_after (kept_as.keeping.layout.image machine.value) →
        generation_of new ≡ suc machine.generation →
        IsDown kept_as new (compacting machine Down unarmed 0) → WritesImage None
    image_failed : (arms : Arms) → Meets machine.arms 6 Halted arms 1 →
        IsMachine kept_as new (compacting machine Halted arms 1) → WritesImage (Some Device)
    image_stopped : Meets machine.arms 6 Down unarmed 0 →
        IsDown kept_as new (compacting machine Down unarmed 0) → WritesImage (Some Device)
    image_refused : (why : Refusal) → why ≢ Device → IsMachine kept_as new machine →
        WritesImage (Some why)

  -- What another opening is to it, by at least one device call: it gives what the disk may mean; or
  -- the machine stopped in it, its device failed, or memory was refused after the device calls
  pub data ReadsDisk : Option Refusal → Type 0 where
    read : (calls : ℕ) (next : model.Journaled V W) (added : List W) → 1 ≤ calls →
        Opens kept_as.keeping.layout kept_as.keeping.CanAdd machine calls next added →
        IsOpened next → IsMachine kept_as new next → ReadsDisk None
    stopped_reading : (why : Option Refusal) (calls : ℕ) →
        Meets machine.arms calls Down unarmed 0 →
        IsDown kept_as new (after_device machine Down unarmed 0) → ReadsDisk why
    failed_reading : (calls : ℕ) (arms : Arms) → Meets machine.arms calls Halted arms 1 →
        IsMachine kept_as new (after_device machine Halted arms 1) → ReadsDisk (Some Device)
    unread : (calls : ℕ) (arms : Arms) → 1 ≤ calls → Meets machine.arms calls Up arms 0 →
        IsMachine kept_as new (after_device machine machine.status arms 0) →
        ReadsDisk (Some Memory)

-- ---- a machine that is down

-- Nothing is armed at its device, and each content that a stop may leave there may be the machine's
pub record Rests {D V W : Type 0} (arms : D → DiskArms) (may_leave : D → Bytes → Type 0)
    (keeping : Keeping V W) (device : D) (machine : model.Journaled V W) : Type 0 where
  pub down : machine.status ≡ Down
  pub unarmed_is : machine.arms ≡ unarmed
  pub armed : armed_at (arms device) ≡ unarmed
  pub goes : is_stopped (arms device) ≡ false
  pub leaves : (bytes : Bytes) → may_leave device bytes → MayBeOf keeping machine bytes

-- An opening of that device gives what it may mean, and the machine runs
pub record Starts {D S V W : Type 0} {disk : Ghosts D} (kept_as : KeptAs S V W)
    (new : Journaled D S disk) (machine : model.Journaled V W) : Type 0 where
  pub calls : ℕ
  pub next : model.Journaled V W
  pub added : List W
  pub opens : Opens kept_as.keeping.layout kept_as.keeping.CanAdd machine calls next added
  pub opened : IsOpened next
  pub is : IsMachine kept_as new next

-- or it is refused, since its device failed or for lack of memory: then the machine is still down
pub data RestsStill {D V W : Type 0} (arms : D → DiskArms) (may_leave : D → Bytes → Type 0)
    (keeping : Keeping V W) (device : D) (machine : model.Journaled V W) : Refusal → Type 0 where
  device_failed : (calls : ℕ) (now : Arms) → Meets machine.arms calls Halted now 1 →
      Rests arms may_leave keeping device (after_device machine Down now 1) →
      RestsStill arms may_leave keeping device machine Device
  without_memory : Rests arms may_leave keeping device machine →
      RestsStill arms may_leave keeping device machine Memory
