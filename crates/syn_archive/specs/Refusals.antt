-- Why a call of an archive is refused, as a refusal of the product.
use Rattle.std.specs.Prelude.{ℕ, length, nat_lt, if◌then◌else◌, Result, Ok, Err, Option, Some, None}
use Rattle.std.specs.Option.{option_or}
use Rattle.syn_model.specs.Archive.{Archive, Kept, Session, Recorded, RecordedDir, kept_refusal}
use Rattle.syn_model.specs.MarkSpelling.{kept_spelling}
use Rattle.syn_model.specs.Refusal.{Refusal}
use Rattle.syn_model.specs.Refusal as why
use Rattle.syn_model.specs.Tree.{is_directory}
use Rattle.syn_tree.specs.declared.error.TreeError.{TreeError}
use Rattle.syn_tree.specs.declared.error.TreeError.TheVariants as tree
use Rattle.syn_journal.specs.declared.error.JournalError.{JournalError}
use Rattle.syn_journal.specs.declared.error.JournalError.TheVariants as journal
use Rattle.syn_archive.specs.declared.error.ArchiveError.{ArchiveError}
use Rattle.syn_archive.specs.declared.error.ArchiveError.TheVariants.{NoParent, Root, Full}
use Rattle.syn_archive.specs.declared.error.ArchiveError.TheVariants.{JournalFull, Device, Halted}
use Rattle.syn_archive.specs.declared.error.ArchiveError.TheVariants.{Memory, NoImage, Damaged}
use Rattle.syn_archive.specs.declared.error.ArchiveError.TheVariants.{OldVersion, WrongPair}

abbrev pub refusal_of : ArchiveError → Refusal
refusal_of NoParent = why.NoParent
refusal_of Root = why.Root
refusal_of Full = why.Full
refusal_of JournalFull = why.JournalFull
refusal_of Device = why.Device
refusal_of Halted = why.Halted
refusal_of Memory = why.Memory
refusal_of NoImage = why.NoImage
refusal_of Damaged = why.Damaged
refusal_of WrongPair = why.WrongPair
refusal_of OldVersion = why.OldVersion

-- why a call was refused, if it was
abbrev pub refusal_in : {X : Type 0} → Result X ArchiveError → Option Refusal
refusal_in (Ok x) = None
refusal_in (Err e) = Some (refusal_of e)

abbrev pub of_tree : TreeError → ArchiveError
of_tree tree.NoParent = NoParent
of_tree tree.IsDirectory = Full
of_tree tree.Exists = Full
of_tree tree.Absent = Full
of_tree tree.Root = Root
of_tree tree.Full = Full
of_tree tree.Memory = Memory

abbrev pub of_journal : JournalError → ArchiveError
of_journal journal.Full = Full
of_journal journal.JournalFull = JournalFull
of_journal journal.Device = Device
of_journal journal.Halted = Halted
of_journal journal.Memory = Memory
of_journal journal.NoImage = NoImage
of_journal journal.Damaged = Damaged

-- what has to be written so that it is kept; nothing where a directory is recorded already
abbrev pub to_write : Archive → Kept → Option Kept
to_write archive (Session session) = Some (Session session)
to_write archive (Recorded path marks) = Some (Recorded path marks)
to_write archive (RecordedDir path) =
    if is_directory archive.marks path then None else Some (RecordedDir path)

-- it does not fit in the journal, which has so much room
abbrev pub room_refusal : ℕ → Option Kept → Option Refusal
room_refusal room None = None
room_refusal room (Some kept) =
    if nat_lt room (length (kept_spelling kept)) then Some why.JournalFull else None

-- why it is not kept: for the marks, and else for the room in the journal
abbrev pub keep_refusal : ℕ → Archive → Kept → Option Refusal
keep_refusal room archive kept =
    option_or (kept_refusal archive kept) (room_refusal room (to_write archive kept))

-- what neither the marks nor the room are a cause of: a journal that is halted, lack of memory, and
-- a device call that failed
abbrev pub IsOutside : ArchiveError → Type 0
IsOutside Device = Unit {0}
IsOutside Halted = Unit {0}
IsOutside Memory = Unit {0}
IsOutside _ = ⊥

-- the refusals of each call
abbrev pub IsOfFormat : ArchiveError → Type 0
IsOfFormat Device = Unit {0}
IsOfFormat Memory = Unit {0}
IsOfFormat _ = ⊥

abbrev pub IsOfSession : ArchiveError → Type 0
IsOfSession Full = Unit {0}
IsOfSession JournalFull = Unit {0}
IsOfSession Device = Unit {0}
IsOfSession Halted = Unit {0}
IsOfSession Memory = Unit {0}
IsOfSession _ = ⊥

abbrev pub IsOfRecord : ArchiveError → Type 0
IsOfRecord NoParent = Unit {0}
IsOfRecord Root = Unit {0}
IsOfRecord Full = Unit {0}
IsOfRecord JournalFull = Unit {0}
IsOfRecord Device = Unit {0}
IsOfRecord Halted = Unit {0}
IsOfRecord Memory = Unit {0}
IsOfRecord _ = ⊥

abbrev pub IsOfCheckpoint : ArchiveError → Type 0
IsOfCheckpoint Full = Unit {0}
IsOfCheckpoint Device = Unit {0}
IsOfCheckpoint Halted = Unit {0}
IsOfCheckpoint Memory = Unit {0}
IsOfCheckpoint _ = ⊥
