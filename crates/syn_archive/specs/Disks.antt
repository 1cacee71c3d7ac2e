-- What the bytes of an archive's disk stand for.
use Rattle.std.specs.Prelude.{◌≡◌, ◌≢◌, ◌⊎◌, ◌+◌, ◌<◌, ◌^◌, ℕ, List, [], Ok, Err, Option, Some}
use Rattle.std.specs.Prelude.{None}
use Rattle.syn_journal.specs.Layout.{Value, HasJournal, meaning, bytes_left, record_size}
use Rattle.syn_journal.specs.Layout.{image_alone, no_image, damaged}
use Rattle.syn_model.specs.Path.{Bytes}
use Rattle.syn_model.specs.Archive.{Archive, Kept}
use Rattle.syn_model.specs.Limits.{greatest}
use Rattle.syn_model.specs.MarkSpelling.{IsOldArchiveImage, archive_spelling, kept_spelling}
use Rattle.syn_model.specs.ArchiveImage.{ArchiveStandsFor, ArchiveStandsForIn}
use Rattle.syn_model.specs.Version.{Version, One, current_version}
use Rattle.syn_archive.specs.declared.error.ArchiveError.{ArchiveError}
use Rattle.syn_archive.specs.declared.error.ArchiveError.TheVariants.{Device, Full, Memory}
use Rattle.syn_archive.specs.declared.error.ArchiveError.TheVariants.{NoImage, Damaged, WrongPair}
use Rattle.syn_archive.specs.declared.error.ArchiveError.TheVariants.{OldVersion}

-- a disk of the pair stands for the archive, in a version
pub record DiskStandsIn (version : Version) (pair : ℕ) (bytes : List ℕ) (archive : Archive)
    : Type 0 where
  pub value : Value
  pub means : meaning bytes ≡ Ok value
  pub stands : ArchiveStandsForIn version pair value.image value.payloads archive

-- and in the one that is written
abbrev pub DiskStands : ℕ → List ℕ → Archive → Type 0
DiskStands pair bytes archive = DiskStandsIn current_version pair bytes archive

-- how many bytes the record of what is kept takes
abbrev pub kept_size : Kept → ℕ
kept_size kept = record_size (kept_spelling kept)

-- it stands for the archive; so many bytes of its journal are left for records, and this is its
-- generation
pub record DiskKeepsIn (version : Version) (pair : ℕ) (archive : Archive) (left generation : ℕ)
    (bytes : List ℕ) : Type 0 where
  pub value : Value
  pub journal : HasJournal bytes value generation
  pub stands : ArchiveStandsForIn version pair value.image value.payloads archive
  pub left_is : bytes_left value ≡ left

abbrev pub DiskKeeps : ℕ → Archive → ℕ → ℕ → List ℕ → Type 0
DiskKeeps pair archive left generation bytes =
    DiskKeepsIn current_version pair archive left generation bytes

-- it stands for the archive by its image alone
pub record DiskCompacted (pair : ℕ) (archive : Archive) (generation : ℕ)
    (bytes : List ℕ) : Type 0 where
  pub journal : HasJournal bytes (image_alone (archive_spelling pair archive)) generation
  pub stands : ArchiveStandsFor pair (archive_spelling pair archive) [] archive

-- the image with the payloads stands for no archive, of whatever pair
abbrev pub StandsForNoneIn : Version → Bytes → List Bytes → Type 0
StandsForNoneIn version image payloads = (pair : ℕ) (archive : Archive) → pair < 2 ^ 64
    → ¬ ArchiveStandsForIn version pair image payloads archive

abbrev pub StandsForNone : Bytes → List Bytes → Type 0
StandsForNone image payloads = StandsForNoneIn current_version image payloads

-- it stands for one of another pair than the wanted one
pub record StandsForOther (wanted : Option ℕ) (image : Bytes) (payloads : List Bytes)
    : Type 0 where
  pub pair : ℕ
  pub fits : pair < 2 ^ 64
  pub archive : Archive
  pub stands : ArchiveStandsFor pair image payloads archive
  pub asked : ℕ
  pub wanted_is : wanted ≡ Some asked
  pub differ : asked ≢ pair

-- the image that it has begins as one of the first version does, whatever follows
abbrev pub IsOldDisk : List ℕ → Type 0
IsOldDisk bytes = (value : Value) × (meaning bytes ≡ Ok value) × IsOldArchiveImage value.image

-- the disk's layout is broken, or what it has is no archive, and not old
abbrev pub IsDamaged : List ℕ → Type 0
IsDamaged bytes = (meaning bytes ≡ Err damaged)
    ⊎ ((value : Value) × (meaning bytes ≡ Ok value) × (¬ IsOldArchiveImage value.image)
    × StandsForNone value.image value.payloads)

-- the disk's layout is broken, or what it has is no archive of this pair
abbrev pub IsNoneOf : ℕ → List ℕ → Type 0
IsNoneOf pair bytes = (meaning bytes ≡ Err damaged)
    ⊎ ((value : Value) × (meaning bytes ≡ Ok value)
    × ((archive : Archive) → ¬ ArchiveStandsFor pair value.image value.payloads archive))

-- it has an archive of another pair than the wanted one
abbrev pub IsOfOtherPair : Option ℕ → List ℕ → Type 0
IsOfOtherPair wanted bytes = (value : Value) × (meaning bytes ≡ Ok value)
    × StandsForOther wanted value.image value.payloads

-- Why a disk is not opened, and what that says of its bytes. No two of these hold at once, and none
-- of a disk that stands for an archive of the wanted pair.
abbrev pub IsOpenRefusal : ArchiveError → Option ℕ → List ℕ → Type 0
IsOpenRefusal Device wanted bytes = Unit {0}
IsOpenRefusal Memory wanted bytes = Unit {0}
IsOpenRefusal NoImage wanted bytes = meaning bytes ≡ Err no_image
IsOpenRefusal Damaged wanted bytes = IsDamaged bytes
IsOpenRefusal WrongPair wanted bytes = IsOfOtherPair wanted bytes
IsOpenRefusal OldVersion wanted bytes = IsOldDisk bytes
IsOpenRefusal _ wanted bytes = ⊥

-- this pair is wanted, or any
abbrev pub IsWanted : Option ℕ → ℕ → Type 0
IsWanted wanted pair = (wanted ≡ None) ⊎ (wanted ≡ Some pair)

-- and why an archive's own disk is not opened again
abbrev pub IsReopenRefusal : ArchiveError → ℕ → List ℕ → Type 0
IsReopenRefusal Device pair bytes = Unit {0}
IsReopenRefusal Memory pair bytes = Unit {0}
IsReopenRefusal NoImage pair bytes = meaning bytes ≡ Err no_image
IsReopenRefusal Damaged pair bytes = IsNoneOf pair bytes
IsReopenRefusal _ pair bytes = ⊥

-- the disk's layout is broken, or what it has is no archive in any version
abbrev pub IsBroken : List ℕ → Type 0
IsBroken bytes = (meaning bytes ≡ Err damaged)
    ⊎ ((value : Value) × (meaning bytes ≡ Ok value)
    × ((version : Version) → StandsForNoneIn version value.image value.payloads))

-- it keeps an archive in the first version, with the greatest generation
pub record IsAtGreatest (bytes : List ℕ) : Type 0 where
  pub pair : ℕ
  pub fits : pair < 2 ^ 64
  pub archive : Archive
  pub left : ℕ
  pub keeps : DiskKeepsIn One pair archive left greatest bytes

-- and why a disk is not migrated; no two of these hold at once
abbrev pub IsMigrateRefusal : ArchiveError → List ℕ → Type 0
IsMigrateRefusal Device bytes = Unit {0}
IsMigrateRefusal Memory bytes = Unit {0}
IsMigrateRefusal NoImage bytes = meaning bytes ≡ Err no_image
IsMigrateRefusal Damaged bytes = IsBroken bytes
IsMigrateRefusal Full bytes = IsAtGreatest bytes
IsMigrateRefusal _ bytes = ⊥

-- what a migration leaves: the archive as it was kept in the first version, or its image of the
-- second alone with the next generation
abbrev pub KeepsOrMigrates : ℕ → Archive → ℕ → ℕ → List ℕ → Type 0
KeepsOrMigrates pair archive left generation bytes =
    DiskKeepsIn One pair archive left generation bytes
    ⊎ DiskCompacted pair archive (generation + 1) bytes
