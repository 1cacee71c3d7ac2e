-- What a machine shows, and what its calls leave.
use Rattle.std.specs.Prelude.{◌≡◌, ◌≢◌, ◌⊎◌, ◌↔◌, ◌+◌, ◌-◌, ◌<◌, ◌^◌, ℕ, List, length, Ok}
use Rattle.std.specs.Prelude.{Option, Some, None}
use Rattle.syn_disk.specs.Stops.{LeavesOnly}
use Rattle.syn_disk.specs.declared.disk.Disk.{Ghosts}
use Rattle.syn_journal.specs.Journal as journal
use Rattle.syn_journal.specs.Journal.{IsHalted as JournalIsHalted}
use Rattle.syn_journal.specs.Layout.{Value, HasJournal, IsBeforeOrAfter, bytes_left, image_alone}
use Rattle.syn_journal.specs.Layout.{longest_image, meaning, record_size, with_payload}
use Rattle.syn_journal.specs.declared.journal.Journal.{Journal}
use Rattle.syn_model.specs.Refusal.{Refusal, Device, Full, Halted, JournalFull, Memory}
use Rattle.syn_journal.specs.Endings.{Spends}
use Rattle.syn_journal.specs.Openings.{DiskGives}
use Rattle.syn_journal.specs.declared.journaled.Journaled.{Journaled}

module _ {D S : Type 0} {disk : Ghosts D} (machine : Journaled D S disk) where
  abbrev pub journal_of : Journal D disk
  journal_of = machine.journal

  abbrev pub state_of : S
  state_of = machine.state

  abbrev pub disk_of : D
  disk_of = journal.disk_of machine.journal

  -- how many bytes of its journal are left for records
  abbrev pub left_of : ℕ
  left_of = journal.left_of machine.journal

  -- the length of the longest payload that its journal still takes
  abbrev pub room_of : ℕ
  room_of = journal.room_of machine.journal

  abbrev pub generation_of : ℕ
  generation_of = journal.generation_of machine.journal

  -- a device call failed, and the machine was not opened again since
  abbrev pub IsHalted : Type 0
  IsHalted = journal.IsHalted machine.journal

-- what is left where a record of this size was written, or where it was not
abbrev pub left_after : Option Refusal → ℕ → ℕ → ℕ
left_after None left size = left - size
left_after (Some why) left size = left

-- the next generation where a checkpoint was written, or this one
abbrev pub generation_after : Option Refusal → ℕ → ℕ
generation_after None generation = generation + 1
generation_after (Some why) generation = generation

-- the refusals of a write, and of a checkpoint
abbrev pub IsOfWrite : Option Refusal → Type 0
IsOfWrite None = Unit {0}
IsOfWrite (Some Halted) = Unit {0}
IsOfWrite (Some JournalFull) = Unit {0}
IsOfWrite (Some Memory) = Unit {0}
IsOfWrite (Some Device) = Unit {0}
IsOfWrite (Some _) = ⊥

abbrev pub IsOfCheckpoint : Option Refusal → Type 0
IsOfCheckpoint None = Unit {0}
IsOfCheckpoint (Some Halted) = Unit {0}
IsOfCheckpoint (Some Full) = Unit {0}
IsOfCheckpoint (Some Memory) = Unit {0}
IsOfCheckpoint (Some Device) = Unit {0}
IsOfCheckpoint (Some _) = ⊥

-- The payload was appended, or not, as the call ended
pub record Appends {D : Type 0} {disk : Ghosts D} (old new : Journal D disk) (payload : List ℕ)
    (why : Option Refusal) : Type 0 where
  -- it is durable where the call succeeded, and at any moment the value is there without or with it
  pub acknowledged : why ≡ None → (value : Value) → journal.Stands old value →
      journal.Stands new (with_payload value payload)
  pub any_moment : (value : Value) → journal.Stands old value →
      LeavesOnly disk.moment disk.left_since (journal.disk_of old) (journal.disk_of new)
      (IsBeforeOrAfter value (journal.generation_of old) (with_payload value payload)
      (journal.generation_of old))
  -- each refusal has its cause
  pub refusals : IsOfWrite why
  pub halted : (why ≡ Some Halted) ↔ JournalIsHalted old
  pub full : (why ≡ Some JournalFull)
      ↔ (¬ JournalIsHalted old × journal.IsTooLong old (length payload))
  -- and this is what it leaves
  pub halts : why ≡ Some Device → JournalIsHalted new
  pub unchanged : (why ≡ None) ⊎ ((why ≡ Some Device) ⊎ (new ≡ old))
  pub device : Spends disk 4 why (journal.disk_of old) (journal.disk_of new)
  pub left_is : journal.left_of new ≡ left_after why (journal.left_of old) (record_size payload)
  pub generation : journal.generation_of new ≡ journal.generation_of old

-- The image was written alone, or not, as the call ended
pub record Compacts {D : Type 0} {disk : Ghosts D} (old new : Journal D disk) (image : List ℕ)
    (why : Option Refusal) : Type 0 where
  pub acknowledged : why ≡ None → journal.Stands new (image_alone image)
  pub any_moment : (value : Value) → journal.Stands old value →
      LeavesOnly disk.moment disk.left_since (journal.disk_of old) (journal.disk_of new)
      (IsBeforeOrAfter value (journal.generation_of old) (image_alone image)
      (journal.generation_of old + 1))
  -- each refusal has its cause; the generation is looked at before any memory is taken
  pub refusals : IsOfCheckpoint why
  pub halted : (why ≡ Some Halted) ↔ JournalIsHalted old
  pub full : why ≡ Some Full → (journal.generation_of old + 1 ≡ 2 ^ 64)
      ⊎ (longest_image < length image)
  pub greatest : ¬ JournalIsHalted old → journal.generation_of old + 1 ≡ 2 ^ 64 →
      why ≡ Some Full
  -- and this is what it leaves
  pub halts : why ≡ Some Device → JournalIsHalted new
  pub unchanged : (why ≡ None) ⊎ ((why ≡ Some Device) ⊎ (new ≡ old))
  pub device : Spends disk 6 why (journal.disk_of old) (journal.disk_of new)
  pub left_is : why ≢ None → journal.left_of new ≡ journal.left_of old
  pub generation : journal.generation_of new
      ≡ generation_after why (journal.generation_of old)

-- The machine runs over a disk that had these bytes, and has in memory what they give, and nothing
-- else is given by them
pub record Opened {D S : Type 0} {disk : Ghosts D} (pair : S → ℕ)
    (gives : List ℕ → List (List ℕ) → S → Type 0) (bytes : List ℕ) (machine : Journaled D S disk)
    : Type 0 where
  pub value : Value
  pub means : meaning bytes ≡ Ok value
  pub runs : journal.Stands (journal_of machine) value
  pub fits : pair (state_of machine) < 2 ^ 64
  pub given : gives value.image value.payloads (state_of machine)
  pub one : (other : S) → pair other < 2 ^ 64 → DiskGives gives bytes other →
      other ≡ state_of machine

-- its readings stay
pub record KeepsReadings {D S : Type 0} {disk : Ghosts D} (old new : Journaled D S disk) : Type 0
  where
    pub left_is : left_of new ≡ left_of old
    pub generation : generation_of new ≡ generation_of old

-- its journal shows what its disk has
pub record ShowsDisk {D S : Type 0} {disk : Ghosts D} (machine : Journaled D S disk) : Type 0 where
  pub value : Value
  pub journal : HasJournal (disk.seen (disk_of machine)) value (generation_of machine)
  pub left_is : bytes_left value ≡ left_of machine
