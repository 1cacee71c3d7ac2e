-- What the payloads of a disk leave of an archive.
use Rattle.std.specs.Prelude.{◌≡◌, ◌≢◌, ◌<◌, ◌^◌, ℕ, List, map, Option, Some, None}
use Rattle.std.specs.Global.{Vec}
use Rattle.syn_model.specs.Path.{Bytes}
use Rattle.syn_model.specs.Archive.{Archive, Kept, CanKeep, CanKeepIn, after_kept, archive_of}
use Rattle.syn_model.specs.ArchiveImage.{ArchiveStandsForIn, AllKeptIn, IsArchive, IsArchiveIn}
use Rattle.syn_model.specs.MarkSpelling.{archive_spelling_in, kept_spelling_in}
use Rattle.syn_model.specs.Version.{Version}
use Rattle.syn_image.specs.Archives.{IsSpelledKept, archive_in}
use Rattle.syn_image.specs.declared.kept.ArchiveImage.{ArchiveImage}
use Rattle.syn_archive.specs.declared.error.ArchiveError.{ArchiveError}
use Rattle.syn_archive.specs.declared.error.ArchiveError.TheVariants.{Memory, Damaged}

abbrev pub bytes_of_each : List (Vec ℕ) → List Bytes
bytes_of_each payloads = map (λ payload. payload.items) payloads

abbrev pub archive_read : ArchiveImage → Archive
archive_read image = (archive_in image).1

-- it can be kept, and this is left
pub record Keeps (old : Archive) (kept : Kept) (new : Archive) : Type 0 where
  pub can : CanKeep old kept
  pub gives : new ≡ after_kept old kept

-- one more payload is of what can be kept, which leaves this archive
pub record AddsKept (version : Version) (old : Archive) (payload : Bytes) (new : Archive)
    : Type 0 where
  pub kept : Kept
  pub spelled : payload ≡ kept_spelling_in version kept
  pub can : CanKeepIn version old kept
  pub gives : new ≡ after_kept old kept

-- the payloads are of what can be kept in turn, and leave this archive
pub record Replays (version : Version) (old : Archive) (payloads : List Bytes) (new : Archive)
    : Type 0 where
  pub kept : List Kept
  pub spelled : payloads ≡ map (kept_spelling_in version) kept
  pub allowed : AllKeptIn version old kept
  pub gives : new ≡ archive_of old kept

-- what a payload is read as: what it spells, or nothing where it spells nothing that is kept
abbrev pub IsKeptOf : Version → Bytes → Option Kept → Type 0
IsKeptOf version payload (Some kept) =
    IsSpelledKept version kept × (payload ≡ kept_spelling_in version kept)
IsKeptOf version payload None =
    (kept : Kept) → IsSpelledKept version kept → payload ≢ kept_spelling_in version kept

-- the image is that of the pair with the archive
pub record IsImageOf (version : Version) (image : Bytes) (pair : ℕ) (archive : Archive)
    : Type 0 where
  pub fits : pair < 2 ^ 64
  pub sound : IsArchiveIn version archive
  pub spelled : image ≡ archive_spelling_in version pair archive

-- in each version an image and payloads stand for one archive of one pair at most
abbrev pub OneStands : Type 0
OneStands = (version : Version) (image : Bytes) (payloads : List Bytes) (p q : ℕ) (a b : Archive)
    → p < 2 ^ 64 → q < 2 ^ 64 → ArchiveStandsForIn version p image payloads a
    → ArchiveStandsForIn version q image payloads b → (p ≡ q) × (a ≡ b)

-- what an archive can keep has a spelling,
abbrev pub KeptIsSpelled : Type 0
KeptIsSpelled = (version : Version) (archive : Archive) (kept : Kept) → IsArchive archive
    → CanKeepIn version archive kept → IsSpelledKept version kept

-- which tells it
abbrev pub KeptIsTold : Type 0
KeptIsTold = (version : Version) (kept other : Kept) → IsSpelledKept version kept
    → IsSpelledKept version other → kept_spelling_in version kept ≡ kept_spelling_in version other →
    kept ≡ other

-- memory is refused, or it cannot be kept
abbrev pub CannotKeep : ArchiveError → Archive → Kept → Type 0
CannotKeep Memory archive kept = Unit {0}
CannotKeep Damaged archive kept = ¬ CanKeep archive kept
CannotKeep _ archive kept = ⊥

-- the refusals of an image and of a payload
abbrev pub IsOfPayload : ArchiveError → Type 0
IsOfPayload Damaged = Unit {0}
IsOfPayload Memory = Unit {0}
IsOfPayload _ = ⊥
