-- What an archive's disk means: the image of an archive, and payloads that are records kept in
-- turn.
use Rattle.std.specs.Prelude.{ℕ, ◌≡◌, ◌≤◌, true, List, [], ◌∷◌, ◌++◌, length, map}
use Rattle.syn_model.specs.Path.{Bytes}
use Rattle.syn_model.specs.Version.{Version, current_version}
use Rattle.syn_model.specs.Tree.{IsTreeIn}
use Rattle.syn_model.specs.Mark.{IsMarksIn}
use Rattle.syn_model.specs.Limits.{greatest, greatest_image, fits_archive}
use Rattle.syn_model.specs.Archive.{Archive, Kept, CanKeep, CanKeepIn, after_kept, archive_of}
use Rattle.syn_model.specs.Archive.{new_archive}
use Rattle.syn_model.specs.MarkSpelling.{kept_spelling, kept_spelling_in}
use Rattle.syn_model.specs.MarkSpelling.{archive_spelling, archive_spelling_in}

-- what an image may hold
pub record IsArchiveIn (version : Version) (archive : Archive) : Type 0 where
  pub tree : IsTreeIn version archive.marks
  pub marks : IsMarksIn version archive.marks
  pub fits : fits_archive archive.marks ≡ true
  pub session : archive.last_session ≤ greatest

abbrev pub IsArchive : Archive → Type 0
IsArchive archive = IsArchiveIn current_version archive

-- each of the records can be kept in turn
abbrev pub AllKeptIn : Version → Archive → List Kept → Type 0
AllKeptIn version archive [] = Unit {0}
AllKeptIn version archive (kept ∷ more) =
    CanKeepIn version archive kept × AllKeptIn version (after_kept archive kept) more

abbrev pub AllKept : Archive → List Kept → Type 0
AllKept archive kept = AllKeptIn current_version archive kept

-- The image is that of an archive, the payloads are records that are kept in turn after it,
-- and this is the archive after them.
pub record ArchiveStandsForIn (version : Version) (pair : ℕ) (image : Bytes) (payloads : List Bytes)
    (archive : Archive) : Type 0 where
  pub first : Archive
  pub kept : List Kept
  pub sound : IsArchiveIn version first
  pub image_is : image ≡ archive_spelling_in version pair first
  pub payloads_are : payloads ≡ map (kept_spelling_in version) kept
  pub allowed : AllKeptIn version first kept
  pub last : archive ≡ archive_of first kept

abbrev pub ArchiveStandsFor : ℕ → Bytes → List Bytes → Archive → Type 0
ArchiveStandsFor pair image payloads archive =
    ArchiveStandsForIn current_version pair image payloads archive

-- What follows

-- a record that can be kept leaves what an image may hold
abbrev pub KeepingStaysSound : Type 0
KeepingStaysSound = (archive : Archive) (kept : Kept) →
    IsArchive archive → CanKeep archive kept → IsArchive (after_kept archive kept)

-- so each archive that a disk stands for is one
abbrev pub StandsForSound : Type 0
StandsForSound = (version : Version) (pair : ℕ) (image : Bytes) (payloads : List Bytes)
    (archive : Archive) → ArchiveStandsForIn version pair image payloads archive → IsArchive archive

-- the image of an archive, with no payload, stands for it; so a formatted disk does for a new one
abbrev pub ArchiveImageStands : Type 0
ArchiveImageStands = (pair : ℕ) (archive : Archive) → IsArchive archive →
    ArchiveStandsFor pair (archive_spelling pair archive) [] archive

abbrev pub NewArchiveStands : Type 0
NewArchiveStands = (pair : ℕ) →
    ArchiveStandsFor pair (archive_spelling pair new_archive) [] new_archive

-- each lawful image fits a half of a journal's disk
abbrev pub ArchiveImagesFit : Type 0
ArchiveImagesFit = (pair : ℕ) (archive : Archive) → IsArchive archive →
    length (archive_spelling pair archive) ≤ greatest_image

-- and with the payload of a record that can be kept it stands for the archive with that record
abbrev pub RecordGoesOn : Type 0
RecordGoesOn = (pair : ℕ) (image : Bytes) (payloads : List Bytes) (archive : Archive)
    (kept : Kept) →
    ArchiveStandsFor pair image payloads archive → CanKeep archive kept →
    ArchiveStandsFor pair image (payloads ++ kept_spelling kept ∷ []) (after_kept archive kept)
