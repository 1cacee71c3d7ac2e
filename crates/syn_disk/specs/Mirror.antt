-- The bytes of a file in memory, and what a stop may leave of the file.
use Rattle.std.specs.Prelude.{◌≡◌, ℕ, List, ◌++◌, length}
use Rattle.std.proofs.Common.{arith, length-append}
use Rattle.syn_disk.specs.Moments.{MayLeave}
use Rattle.syn_disk.specs.Padded.{padded}
use Rattle.syn_disk.specs.Extent.{is_in_some}
use Rattle.syn_disk.specs.PaddedLaws.{length-padded}
use Rattle.syn_disk.specs.declared.disk.TheConstants.{DISK_SIZE, PART_SIZE}
use Rattle.syn_disk.specs.declared.file.disk_bytes.DiskBytes.{DiskBytes}
use Rattle.syn_disk.specs.declared.file.disk_bytes.PartBytes.{PartBytes}

-- the bytes of a part of a disk
abbrev pub part_of : PartBytes → List ℕ
part_of part = padded part.used.items PART_SIZE 0

abbrev pub bytes_of : DiskBytes → List ℕ
bytes_of image = part_of image.low ++ part_of image.high

-- of a file with these bytes, of which the ranges were written since the last sync
abbrev pub FileMayLeave : DiskBytes × List (ℕ × ℕ) → List ℕ → Type 0
FileMayLeave moment = MayLeave (bytes_of moment.0) (is_in_some moment.1)

pub length-part : (part : PartBytes) → length (part_of part) ≡ PART_SIZE
length-part part = length-padded 0 part.used.items PART_SIZE part.fits

pub length-bytes : (image : DiskBytes) → length (bytes_of image) ≡ DISK_SIZE
length-bytes image =
    omega (
      arith,
      length-append (part_of image.low)
          (part_of image.high),
      length-part image.low,
      length-part image.high,
    )
