-- What an opened image says of the disk that it is on.
use Rattle.std.specs.Prelude.{◌≡◌, ◌≢◌, ◌⊎◌, ℕ, List, [], None, codes}
use Rattle.syn_disk.specs.declared.disk.Disk.{Ghosts}
use Rattle.syn_model.specs.Archive as model
use Rattle.syn_model.specs.Archive.{new_archive}
use Rattle.syn_model.specs.History.{History}
use Rattle.syn_replica.specs.Replica as replica
use Rattle.syn_replica.specs.Disks as replica_disk
use Rattle.syn_replica.specs.Migrating.{IsMigrateRefusal}
use Rattle.syn_replica.specs.Refusals.{IsOneOf, format_refusals}
use Rattle.syn_archive.specs.Archive as archive
use Rattle.syn_archive.specs.Disks as archive_disk
use Rattle.syn_archive.specs.Refusals.{IsOfFormat}
use Rattle.syn_archive.specs.declared.error.ArchiveError.TheVariants.{Damaged}
use Rattle.syn_command.specs.declared.error.CommandError.{CommandError}
use Rattle.syn_command.specs.declared.error.CommandError.TheVariants as error
use Rattle.syn_command.specs.declared.image.OpenedImage.{OpenedImage}
use Rattle.syn_command.specs.declared.image.OpenedImage.TheVariants.{Replica, Archive}
use Rattle.syn_cli.specs.declared.command.ImageKind.{ImageKind}
use Rattle.syn_cli.specs.declared.command.ImageKind.TheVariants as kind

-- the bytes of the disk give what the image has
abbrev pub IsOn : {D : Type 0} → {disk : Ghosts D} → List ℕ → OpenedImage D disk → Type 0
IsOn bytes (Replica r) =
    replica_disk.DiskGives (replica.pair_of r) bytes (replica.standing_shown r)
IsOn bytes (Archive a) = archive_disk.DiskStands (archive.pair_of a) bytes (archive.shown a)

-- the disk that an image is on
abbrev pub disk_under : {D : Type 0} → {disk : Ghosts D} → OpenedImage D disk → D
disk_under (Replica r) = replica.disk_of r
disk_under (Archive a) = archive.disk_of a

-- the letters that an image of its kind begins with
abbrev pub letters_of : {D : Type 0} → {disk : Ghosts D} → OpenedImage D disk → List ℕ
letters_of (Replica r) = codes "SYNR"
letters_of (Archive a) = codes "SYNA"

-- it is an archive of this pair, and stands for this one
abbrev pub StandsForArchive : {D : Type 0} → {disk : Ghosts D} → ℕ → model.Archive →
    OpenedImage D disk → Type 0
StandsForArchive pair kept (Replica r) = ⊥
StandsForArchive pair kept (Archive a) = (pair ≡ archive.pair_of a) × archive.Stands a kept

-- it is a replica of this pair, and stands for this history
abbrev pub StandsForHistory : {D : Type 0} → {disk : Ghosts D} → ℕ → History →
    OpenedImage D disk → Type 0
StandsForHistory pair history (Replica r) =
    (pair ≡ replica.pair_of r) × replica.Stands r history
StandsForHistory pair history (Archive a) = ⊥

-- it is a new image of the kind, of this pair
abbrev pub IsFormatted : {D : Type 0} → {disk : Ghosts D} → ImageKind → ℕ → OpenedImage D disk →
    Type 0
IsFormatted kind.Replica pair image = StandsForHistory pair [] image
IsFormatted kind.Archive pair image = StandsForArchive pair new_archive image

-- Why no image of the kind is made: its replica or its archive is not, for lack of memory or for a
-- device call that failed.
abbrev pub IsFormatRefusal : ImageKind → CommandError → Type 0
IsFormatRefusal kind.Replica (error.Replica e) = IsOneOf format_refusals e
IsFormatRefusal kind.Archive (error.Archive e) = IsOfFormat e
IsFormatRefusal _ _ = ⊥

-- a disk whose image is of version 1: an archive's, or else a replica's
abbrev pub IsOldDisk : List ℕ → Type 0
IsOldDisk bytes = archive_disk.IsOldDisk bytes ⊎ replica_disk.IsOldDisk bytes

-- Why no image is opened, and what that says of the bytes. Damage says that they hold neither an
-- archive nor a replica.
abbrev pub IsImageRefusal : List ℕ → CommandError → Type 0
IsImageRefusal bytes (error.Archive e) = (e ≢ Damaged) × archive_disk.IsOpenRefusal e None bytes
IsImageRefusal bytes (error.Replica e) =
    archive_disk.IsDamaged bytes × replica_disk.IsOpenRefusal e None bytes
IsImageRefusal bytes _ = ⊥

-- Why no image is migrated, and what that says of the bytes. Damage says that in no version they
-- hold an archive or a replica.
abbrev pub IsMigrationRefusal : List ℕ → CommandError → Type 0
IsMigrationRefusal bytes (error.Archive e) =
    (e ≢ Damaged) × archive_disk.IsMigrateRefusal e bytes
IsMigrationRefusal bytes (error.Replica e) =
    archive_disk.IsBroken bytes × IsMigrateRefusal e bytes
IsMigrationRefusal bytes _ = ⊥
