-- What an archive keeps, its image, and which of them are read.
use Rattle.std.specs.Prelude.{◌<◌, ◌^◌, ℕ, Result}
use Rattle.syn_model.specs.Path.{Bytes, IsPath}
use Rattle.syn_model.specs.Archive.{Archive, Session, Recorded, RecordedDir}
use Rattle.syn_model.specs.Archive as model
use Rattle.syn_model.specs.ArchiveImage.{IsArchiveIn}
use Rattle.syn_model.specs.Version.{Version}
use Rattle.syn_model.specs.MarkSpelling.{kept_spelling_in, archive_spelling_in}
use Rattle.syn_mark.specs.Marks.{or_absent}
use Rattle.syn_wire.specs.Marks.{IsOptionalMarkTreeIn}
use Rattle.syn_wire.specs.Reads.{NoneBeginsAnother, Reads}
use Rattle.syn_wire.specs.declared.error.ReadError.{ReadError}
use Rattle.syn_image.specs.declared.kept.ArchiveImage.{ArchiveImage}
use Rattle.syn_image.specs.declared.kept.Kept.{Kept}
use Rattle.syn_image.specs.declared.kept.Kept.TheVariants as has
use Rattle.syn_image.specs.declared.kept.ItemRecord.{ItemRecord}
use Rattle.syn_image.specs.declared.kept.ItemRecord.TheVariants as item

-- what is kept for an item, as the model has it
abbrev pub kept_for : ItemRecord → model.Kept
kept_for (item.Record path marks) = Recorded path (or_absent marks)
kept_for (item.Dir path) = RecordedDir path

-- what is kept
abbrev pub kept_of : Kept → model.Kept
kept_of (has.Session session) = Session session
kept_of (has.Record path marks) = Recorded path (or_absent marks)
kept_of (has.Dir path) = RecordedDir path

-- what the spelling of a record may be of
abbrev pub IsSpelledKept : Version → model.Kept → Type 0
IsSpelledKept version (Session session) = session < 2 ^ 64
IsSpelledKept version (Recorded path marks) = IsPath path × IsOptionalMarkTreeIn version marks
IsSpelledKept version (RecordedDir path) = IsPath path

-- what a reader did at a record that is spelled alike in each version
abbrev pub ReadsKeptInEach : Bytes → Bytes → Result Kept ReadError → Type 0
ReadsKeptInEach old new read =
    (version : Version) → Reads (IsSpelledKept version) (kept_spelling_in version) kept_of old new
    read

-- a pair with the archive of an image
abbrev pub archive_in : ArchiveImage → ℕ × Archive
archive_in image =
    (image.pair, record { marks = image.marks; last_session = image.last_session })

abbrev pub IsSpelledArchive : Version → ℕ × Archive → Type 0
IsSpelledArchive version image = (image.0 < 2 ^ 64) × IsArchiveIn version image.1

abbrev pub spelled_archive : Version → ℕ × Archive → Bytes
spelled_archive version image = archive_spelling_in version image.0 image.1

-- in no version does the spelling of a record or of an archive begin that of another
abbrev pub NoKeptBeginsAnother : Type 0
NoKeptBeginsAnother =
    (version : Version) → NoneBeginsAnother (IsSpelledKept version) (kept_spelling_in version)

abbrev pub NoArchiveBeginsAnother : Type 0
NoArchiveBeginsAnother =
    (version : Version) → NoneBeginsAnother (IsSpelledArchive version) (spelled_archive version)
