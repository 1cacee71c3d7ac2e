-- What an archive shows, and what it stands for.
use Rattle.std.specs.Prelude.{◌≡◌, ◌⊎◌, ◌+◌, ◌-◌, List, ℕ}
use Rattle.syn_disk.specs.declared.disk.Disk.{Ghosts}
use Rattle.syn_journal.specs.Journal as journal
use Rattle.syn_journal.specs.declared.journal.Journal.{Journal}
use Rattle.syn_journal.specs.Journaled as journaled
use Rattle.syn_journal.specs.Layout.{Value, HasJournal, bytes_left}
use Rattle.syn_model.specs.Tree.{Tree}
use Rattle.syn_model.specs.Archive as model
use Rattle.syn_model.specs.Archive.{Kept, after_kept, new_archive}
use Rattle.syn_model.specs.ArchiveImage.{ArchiveStandsFor}
use Rattle.syn_archive.specs.Disks.{DiskKeeps, DiskCompacted, kept_size}
use Rattle.syn_archive.specs.declared.archive.Archive.{Archive}

-- a new archive that goes on after this session
abbrev pub archive_after : ℕ → model.Archive
archive_after session = record new_archive { last_session = session }

module _ {D : Type 0} {disk : Ghosts D} (archive : Archive D disk) where
  abbrev pub pair_of : ℕ
  pair_of = (journaled.state_of archive.journaled).pair

  abbrev pub marks_shown : Tree
  marks_shown = (journaled.state_of archive.journaled).marks

  abbrev pub session_shown : ℕ
  session_shown = (journaled.state_of archive.journaled).last_session

  -- what it has in memory, as the model has it
  abbrev pub shown : model.Archive
  shown = record { marks = marks_shown; last_session = session_shown }

  abbrev pub journal_of : Journal D disk
  journal_of = journaled.journal_of archive.journaled

  abbrev pub disk_of : D
  disk_of = journal.disk_of journal_of

  -- how many bytes of its journal are left for records
  abbrev pub left_shown : ℕ
  left_shown = journal.left_of journal_of

  -- the length of the longest payload that its journal still takes
  abbrev pub room_shown : ℕ
  room_shown = journal.room_of journal_of

  abbrev pub generation_shown : ℕ
  generation_shown = journal.generation_of journal_of

  -- a device call failed, and the archive was not opened again since
  abbrev pub IsHalted : Type 0
  IsHalted = journal.IsHalted journal_of

-- what it has in memory is the archive, and so is its disk, whatever stop comes
pub record Stands {D : Type 0} {disk : Ghosts D} (archive : Archive D disk)
    (kept : model.Archive) : Type 0 where
  pub remembers : shown archive ≡ kept
  pub value : Value
  pub runs : journal.Stands (journal_of archive) value
  pub means : ArchiveStandsFor (pair_of archive) value.image value.payloads kept

-- What a stop leaves while a record is written: the archive with the bytes that were left, or that
-- with what is kept and as many bytes less as its record takes
abbrev pub KeepsBeforeOrAfter : {D : Type 0} → {disk : Ghosts D} → Archive D disk → model.Archive →
    Kept → List ℕ → Type 0
KeepsBeforeOrAfter archive old kept bytes =
    let left = left_shown archive in let generation = generation_shown archive in
    DiskKeeps (pair_of archive) old left generation bytes
    ⊎ DiskKeeps (pair_of archive) (after_kept old kept) (left - kept_size kept) generation bytes

-- What a stop leaves during a checkpoint: the archive as it was kept, or by its image alone with
-- the next generation
abbrev pub KeepsOrCompacts : {D : Type 0} → {disk : Ghosts D} → Archive D disk → model.Archive →
    List ℕ → Type 0
KeepsOrCompacts archive old bytes =
    DiskKeeps (pair_of archive) old (left_shown archive) (generation_shown archive) bytes
    ⊎ DiskCompacted (pair_of archive) old (generation_shown archive + 1) bytes

-- its journal has the record of what is kept, and is else as it was
pub record HasRecord {D : Type 0} {disk : Ghosts D} (old new : Archive D disk)
    (kept : Kept) : Type 0 where
  pub pair : pair_of new ≡ pair_of old
  pub left_is : left_shown new ≡ left_shown old - kept_size kept
  pub generation : generation_shown new ≡ generation_shown old

-- what it has in memory stays
pub record SameMemory {D : Type 0} {disk : Ghosts D} (old new : Archive D disk) : Type 0 where
  pub pair : pair_of new ≡ pair_of old
  pub archive : shown new ≡ shown old

-- and so do the readings of its journal
pub record KeepsReadings {D : Type 0} {disk : Ghosts D} (old new : Archive D disk) : Type 0 where
  pub memory : SameMemory old new
  pub left_is : left_shown new ≡ left_shown old
  pub generation : generation_shown new ≡ generation_shown old

-- its journal shows what its disk has
pub record ShowsDisk {D : Type 0} {disk : Ghosts D} (archive : Archive D disk) : Type 0 where
  pub value : Value
  pub journal : HasJournal (disk.seen (disk_of archive)) value (generation_shown archive)
  pub left_is : bytes_left value ≡ left_shown archive
