-- What a migration leaves of a disk of version 1, and why a disk is not migrated.
use Rattle.std.specs.Prelude.{◌≡◌, ◌⊎◌, ◌+◌, ◌^◌, ◌<◌, ℕ, List, None}
use Rattle.syn_disk.specs.declared.disk.Disk.{Ghosts}
use Rattle.syn_journal.specs.Layout.{Value, HasJournal, image_alone}
use Rattle.syn_journal.specs.Journal as journal
use Rattle.syn_journal.specs.declared.error.JournalError.TheVariants as journal_error
use Rattle.syn_model.specs.History.{History, standing_of}
use Rattle.syn_model.specs.Image.{GivesIn, IsOldImage, image_spelling}
use Rattle.syn_model.specs.Standing.{Standing}
use Rattle.syn_model.specs.Version.{One}
use Rattle.syn_replica.specs.declared.error.ReplicaError.{ReplicaError}
use Rattle.syn_replica.specs.declared.error.ReplicaError.TheVariants.{Journal, Damaged, WrongPair}
use Rattle.syn_replica.specs.declared.error.ReplicaError.TheVariants.{OldVersion}
use Rattle.syn_replica.specs.Disks.{DiskGives, DiskGivesIn, DiskKeepsIn, DiskCompacted}
use Rattle.syn_replica.specs.Disks.{MeansNothingIn, IsOldDisk, IsUnlawful, IsOpenRefusal}
use Rattle.syn_replica.specs.Replica.{pair_of, standing_shown, journal_of, generation_shown}
use Rattle.syn_replica.specs.declared.replica.Replica.{Replica}

-- in version 1 or in version 2 a disk of the pair gives this standing
abbrev pub GivesInEither : ℕ → List ℕ → Standing → Type 0
GivesInEither pair bytes standing =
    DiskGivesIn One pair bytes standing ⊎ DiskGives pair bytes standing

-- What a stop leaves of a disk of version 1: the history as it was kept, or in version 2 by its
-- image alone with the next generation
abbrev pub KeepsOrMigrates : ℕ → History → ℕ → ℕ → List ℕ → Type 0
KeepsOrMigrates pair history left generation bytes =
    DiskKeepsIn One pair history left generation bytes
    ⊎ DiskCompacted pair history (standing_of history) (generation + 1) bytes

-- what a stop might have left before, or one of these
abbrev pub OrBefore : (List ℕ → Type 0) → (List ℕ → Type 0) → List ℕ → Type 0
OrBefore before after bytes = before bytes ⊎ after bytes

-- its journal has the image of what it shows alone, in version 2 and with the generation next to
-- this one
pub record IsRenewed {D : Type 0} {disk : Ghosts D} (replica : Replica D disk) (generation : ℕ)
    : Type 0 where
  pub stands : journal.Stands (journal_of replica)
      (image_alone (image_spelling (pair_of replica) (standing_shown replica)))
  pub generation_is : generation_shown replica ≡ generation + 1

-- a disk of version 1 whose generation is the greatest
pub record IsOldAndFull (bytes : List ℕ) : Type 0 where
  pub value : Value
  pub generation : ℕ
  pub journal : HasJournal bytes value generation
  pub old : IsOldImage value.image
  pub greatest : generation + 1 ≡ 2 ^ 64

-- in version 1 the disk gives a standing, and its generation is the greatest
pub record IsAtGreatest (bytes : List ℕ) : Type 0 where
  pub pair : ℕ
  pub fits : pair < 2 ^ 64
  pub standing : Standing
  pub value : Value
  pub generation : ℕ
  pub journal : HasJournal bytes value generation
  pub gives : GivesIn One pair value.image value.payloads standing
  pub greatest : generation + 1 ≡ 2 ^ 64

-- a disk of version 1 that gives nothing in it
abbrev pub IsOldUnlawful : List ℕ → Type 0
IsOldUnlawful bytes = IsOldDisk bytes × MeansNothingIn One bytes

-- why a disk is not migrated, and what that says of its bytes
abbrev pub IsMigrateRefusal : ReplicaError → List ℕ → Type 0
IsMigrateRefusal (Journal journal_error.Full) bytes = IsAtGreatest bytes
IsMigrateRefusal Damaged bytes = IsUnlawful bytes ⊎ IsOldUnlawful bytes
IsMigrateRefusal WrongPair bytes = ⊥
IsMigrateRefusal OldVersion bytes = ⊥
IsMigrateRefusal error bytes = IsOpenRefusal error None bytes
