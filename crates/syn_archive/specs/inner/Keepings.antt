-- What is to be kept in an archive, and why it is not.
use Rattle.std.specs.Prelude.{◌≡◌, ◌+◌, ℕ, Bool, true, false, Some, None}
use Rattle.syn_model.specs.Archive.{Archive, Kept, Session, RecordedDir}
use Rattle.syn_model.specs.Tree.{is_directory}
use Rattle.syn_archive.specs.Keepings.{recorded_at}
use Rattle.syn_archive.specs.Refusals.{keep_refusal, refusal_of}
use Rattle.syn_archive.specs.declared.error.ArchiveError.{ArchiveError}
use Rattle.syn_archive.specs.declared.error.ArchiveError.TheVariants.{NoParent, Root, Full}
use Rattle.syn_archive.specs.declared.error.ArchiveError.TheVariants.{JournalFull, Halted, Memory}
use Rattle.syn_archive.specs.declared.new_record.NewRecord.{NewRecord}
use Rattle.syn_archive.specs.declared.new_record.NewRecord.TheVariants as added

-- as the model has it, of an archive with this last session
abbrev pub kept_in : ℕ → NewRecord → Kept
kept_in last added.Session = Session (last + 1)
kept_in last (added.Record path marks) = recorded_at path.now marks
kept_in last (added.Dir path) = RecordedDir path.now

-- a directory is recorded where none is
abbrev pub IsNews : Archive → NewRecord → Type 0
IsNews archive added.Session = Unit {0}
IsNews archive (added.Record path marks) = Unit {0}
IsNews archive (added.Dir path) = is_directory archive.marks path.now ≡ false

-- a refusal of the marks, or of the room
abbrev pub is_inner : ArchiveError → Bool
is_inner NoParent = true
is_inner Root = true
is_inner Full = true
is_inner JournalFull = true
is_inner Memory = true
is_inner _ = false

-- Why it is not kept, before any device call, with so much room in the journal: one cause alone
-- holds, but for lack of memory
pub data NotPrepared (halted : Type 0) (room : ℕ) (archive : Archive) (kept : Kept) : ArchiveError →
    Type 0 where
  not_running : halted → NotPrepared halted room archive kept Halted
  refused : (error : ArchiveError) → ¬ halted →
      keep_refusal room archive kept ≡ Some (refusal_of error) → is_inner error ≡ true →
      NotPrepared halted room archive kept error
  no_memory : ¬ halted → keep_refusal room archive kept ≡ None →
      NotPrepared halted room archive kept Memory
