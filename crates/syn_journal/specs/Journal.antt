-- What a journal shows.
use Rattle.std.specs.Prelude.{◌≡◌, ◌<◌, ◌≤◌, ◌+◌, ◌-◌, ℕ, true, false}
use Rattle.syn_disk.specs.Disk.{Only}
use Rattle.syn_disk.specs.declared.disk.Disk.{Ghosts}
use Rattle.syn_journal.specs.declared.cursor.JournalCursor.{JournalCursor}
use Rattle.syn_journal.specs.declared.half.Half.{Half}
use Rattle.syn_journal.specs.declared.journal.Journal.{Journal}
use Rattle.syn_journal.specs.declared.layout.TheConstants.{RECORD_OVERHEAD}
use Rattle.syn_journal.specs.Layout.{Value, HasJournal, half_size, meaning, size_of, value_or_empty}

module _ {D : Type 0} {disk : Ghosts D} (journal : Journal D disk) where
  abbrev pub disk_of : D
  disk_of = journal.disk

  abbrev pub half_of : Half
  half_of = journal.cursor.half

  abbrev pub generation_of : ℕ
  generation_of = journal.cursor.generation

  -- where its next gate stands in the half
  abbrev pub gate_of : ℕ
  gate_of = journal.cursor.gate

  -- how many bytes are left for records
  abbrev pub left_of : ℕ
  left_of = half_size - 1 - gate_of

  -- the length of the longest payload that fits, or 0 where none does
  abbrev pub room_of : ℕ
  room_of = half_size - gate_of - RECORD_OVERHEAD

  -- a payload of this length fits, or does not
  abbrev pub Takes : ℕ → Type 0
  Takes size = gate_of + RECORD_OVERHEAD + size ≤ half_size

  abbrev pub IsTooLong : ℕ → Type 0
  IsTooLong size = half_size < gate_of + RECORD_OVERHEAD + size

  -- A device call failed, and the journal was not opened again since.
  abbrev pub IsHalted : Type 0
  IsHalted = journal.halted ≡ true

  -- it shows what the cursor has
  abbrev pub Shows : JournalCursor → Type 0
  Shows cursor = journal.cursor ≡ cursor

  -- the value of its disk
  abbrev pub value_of : Value
  value_of = value_or_empty (meaning (disk.seen journal.disk))

-- The journal runs; its disk has this value and the generation that it shows, and each stop leaves
-- them.
pub record Stands {D : Type 0} {disk : Ghosts D} (journal : Journal D disk)
    (value : Value) : Type 0 where
  pub running : journal.halted ≡ false
  pub holds : HasJournal (disk.seen journal.disk) value (generation_of journal)
  pub durable : Only (disk.seen journal.disk) (disk.may_leave journal.disk)
  pub gate : gate_of journal ≡ size_of value

-- The readings are the same.
pub record SameReadings {D : Type 0} {disk : Ghosts D} (old new : Journal D disk) : Type 0 where
  pub half : half_of new ≡ half_of old
  pub generation : generation_of new ≡ generation_of old
  pub gate : gate_of new ≡ gate_of old
  pub halted : new.halted ≡ old.halted

-- A journal that is as it was, though its disk was read.
pub record IsAsBefore {D : Type 0} {disk : Ghosts D} (old new : Journal D disk) : Type 0 where
  pub readings : SameReadings old new
  pub stands : (value : Value) → Stands old value → Stands new value
