-- What is printed of an image.
use Rattle.std.specs.Prelude.{List, ℕ}
use Rattle.syn_disk.specs.declared.disk.Disk.{Ghosts}
use Rattle.syn_replica.specs.Replica as replica
use Rattle.syn_archive.specs.Archive as archive
use Rattle.syn_print.specs.Images.{replica_shown, archive_shown}
use Rattle.syn_command.specs.declared.image.OpenedImage.{OpenedImage}
use Rattle.syn_command.specs.declared.image.OpenedImage.TheVariants as image
use Rattle.syn_command.specs.Printed.{replica_numbers, archive_numbers}

abbrev pub image_shown : {D : Type 0} → {disk : Ghosts D} → OpenedImage D disk → List ℕ
image_shown (image.Replica r) = replica_shown r
image_shown (image.Archive a) = archive_shown a

-- the line of numbers of an image
abbrev pub numbers_shown : {D : Type 0} → {disk : Ghosts D} → OpenedImage D disk → List ℕ
numbers_shown (image.Replica r) =
    replica_numbers (replica.pair_of r) (replica.generation_shown r) (replica.position_shown r)
    (replica.standing_shown r).floor (replica.standing_shown r).session
numbers_shown (image.Archive a) =
    archive_numbers (archive.pair_of a) (archive.generation_shown a) (archive.session_shown a)
