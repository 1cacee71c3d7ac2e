-- Which machine of the model an archive is, and what each call is to it.
use Rattle.std.specs.Prelude.{◌≡◌, ◌≢◌, ◌⊎◌, ◌≤◌, ℕ, true, false, List, [], ◌∷◌, Option, Some, None}
use Rattle.syn_archive.specs.Archive.{Stands, IsHalted, pair_of, shown, disk_of, left_shown}
use Rattle.syn_archive.specs.Archive.{generation_shown}
use Rattle.syn_archive.specs.declared.archive.Archive.{Archive}
use Rattle.syn_disk.specs.Arms.{is_stopped}
use Rattle.syn_disk.specs.declared.disk.Disk.{Ghosts}
use Rattle.syn_machine.specs.Coordinator.{Keeps, archive_layout}
use Rattle.syn_machine.specs.Machine.{Arms, Compacts, Journaled, Meets, Opens, Status}
use Rattle.syn_machine.specs.Machine.{Up, Halted, Down, after_device, unarmed}
use Rattle.syn_journal.specs.Calls.{armed_at}
use Rattle.syn_archive.specs.Keepings.{of_archive}
use Rattle.syn_journal.specs.Meaning.{MayBeOf}
use Rattle.syn_model.specs.Archive.{CanKeep, Kept}
use Rattle.syn_model.specs.Archive as model
use Rattle.syn_model.specs.Refusal.{Refusal, Device, Memory}

-- what keeps an archive and what is kept in it
abbrev pub Journal : Type 0
Journal = Journaled model.Archive Kept

-- each content that a stop may leave now may be the machine's
abbrev pub LeavesMachine : {D : Type 0} → Ghosts D → D → ℕ → Journal → Type 0
LeavesMachine disk device pair machine = (bytes : List ℕ) → disk.may_leave device bytes
    → MayBeOf (of_archive pair) machine bytes

-- it runs, and makes no change
pub record Runs {D : Type 0} {disk : Ghosts D} (archive : Archive D disk)
    (machine : Journal) : Type 0 where
  pub up : machine.status ≡ Up
  pub stands : Stands archive machine.value
  pub room : left_shown archive ≡ machine.room
  pub generation : generation_shown archive ≡ machine.generation
  pub idle : machine.writing ≡ None
  pub settled : machine.compacting ≡ false

-- its device failed
pub record Fails {D : Type 0} {disk : Ghosts D} (archive : Archive D disk)
    (machine : Journal) : Type 0 where
  pub halted : machine.status ≡ Halted
  pub is_halted : IsHalted archive

-- It is the machine that keeps the archive of the pair, and its disk was not stopped. How many
-- device calls failed is not compared.
pub record IsMachine {D : Type 0} {disk : Ghosts D} (archive : Archive D disk) (pair : ℕ)
    (machine : Journal) : Type 0 where
  pub pair_is : pair_of archive ≡ pair
  pub remembers : shown archive ≡ machine.value
  pub armed : armed_at (disk.arms (disk_of archive)) ≡ machine.arms
  pub goes : is_stopped (disk.arms (disk_of archive)) ≡ false
  pub state : Runs archive machine ⊎ Fails archive machine
  pub leaves : LeavesMachine disk (disk_of archive) pair machine

-- the disk is stopped, and the machine is down
pub record IsDown {D : Type 0} {disk : Ghosts D} (archive : Archive D disk) (pair : ℕ)
    (machine : Journal) : Type 0 where
  pub down : machine.status ≡ Down
  pub stopped : is_stopped (disk.arms (disk_of archive)) ≡ true
  pub leaves : LeavesMachine disk (disk_of archive) pair machine

-- where a record was being written, the archive shows its journal as the machine was left
pub record IsShown {D : Type 0} {disk : Ghosts D} (archive : Archive D disk)
    (journal : Journal) : Type 0 where
  pub exactly : (kept : Kept) → journal.writing ≡ Some kept →
      (left_shown archive ≡ journal.room) × (generation_shown archive ≡ journal.generation)

-- The machine moved so: it goes on with this status, or it is down
pub data Moves {D : Type 0} {disk : Ghosts D} (new : Archive D disk) (pair : ℕ)
    (Moved : Journal → Type 0) (status : Status) : Type 0 where
  moves_on : (journal : Journal) → Moved journal → journal.status ≡ status →
      IsMachine new pair journal → Moves new pair Moved status
  moves_down : (journal : Journal) → Moved journal →
      is_stopped (disk.arms (disk_of new)) ≡ true → journal.status ≡ Down →
      LeavesMachine disk (disk_of new) pair journal → Moves new pair Moved status

-- it kept this in its archive, or tried to
abbrev pub KeepsSo : {D : Type 0} → {disk : Ghosts D} → Archive D disk → ℕ → Journal → Kept →
    List Kept → Status → Type 0
KeepsSo new pair machine kept done =
    Moves new pair (λ journal. Keeps pair machine kept journal done × IsShown new journal)

-- it wrote an image, or tried to
abbrev pub CompactsSo : {D : Type 0} → {disk : Ghosts D} → Archive D disk → ℕ → Journal → Status →
    Type 0
CompactsSo new pair machine = Moves new pair (Compacts (archive_layout pair) machine)

-- It keeps this, its device fails at that, or it stays the machine that it was, as the call ended
pub data KeepsRecord {D : Type 0} {disk : Ghosts D} (new : Archive D disk) (pair : ℕ)
    (machine : Journal) (kept : Kept) : Option Refusal → Type 0 where
  keeps : KeepsSo new pair machine kept (kept ∷ []) Up → KeepsRecord new pair machine kept None
  breaks : KeepsSo new pair machine kept [] Halted →
      KeepsRecord new pair machine kept (Some Device)
  refuses : (why : Refusal) → why ≢ Device → IsMachine new pair machine →
      KeepsRecord new pair machine kept (Some why)

-- and so of a checkpoint
pub data CompactsImage {D : Type 0} {disk : Ghosts D} (new : Archive D disk) (pair : ℕ)
    (machine : Journal) : Option Refusal → Type 0 where
  compacts : CompactsSo new pair machine Up → CompactsImage new pair machine None
  breaks_off : CompactsSo new pair machine Halted → CompactsImage new pair machine (Some Device)
  stays : (why : Refusal) → why ≢ Device → IsMachine new pair machine →
      CompactsImage new pair machine (Some why)

-- It is opened again by at least one device call: that gives what the disk may mean; or the machine
-- stopped in it, its device failed, or memory was refused after the device calls
pub data ReadsDisk {D : Type 0} {disk : Ghosts D} (new : Archive D disk) (pair : ℕ)
    (machine : Journal) : Option Refusal → Type 0 where
  read : (calls : ℕ) (next : Journal) (added : List Kept) → 1 ≤ calls →
      Opens (archive_layout pair) CanKeep machine calls next added → next.status ≡ Up →
      IsMachine new pair next → ReadsDisk new pair machine None
  stopped_reading : (why : Option Refusal) (calls : ℕ) →
      Meets machine.arms calls Down unarmed 0 →
      IsDown new pair (after_device machine Down unarmed 0) → ReadsDisk new pair machine why
  failed_reading : (calls : ℕ) (arms : Arms) → Meets machine.arms calls Halted arms 1 →
      IsMachine new pair (after_device machine Halted arms 1) →
      ReadsDisk new pair machine (Some Device)
  unread : (calls : ℕ) (arms : Arms) → 1 ≤ calls → Meets machine.arms calls Up arms 0 →
      IsMachine new pair (after_device machine machine.status arms 0) →
      ReadsDisk new pair machine (Some Memory)

-- A machine that was down is opened, which gives what its disk may mean, and it runs
pub record Starts {D : Type 0} {disk : Ghosts D} (new : Archive D disk) (pair : ℕ)
    (machine : Journal) : Type 0 where
  pub calls : ℕ
  pub next : Journal
  pub added : List Kept
  pub opens : Opens (archive_layout pair) CanKeep machine calls next added
  pub is : IsMachine new pair next
  pub runs : Runs new next
