-- A file in memory after a write.
use Rattle.std.proofs.Common.{◌≡◌, ◌∙◌, ℕ, ◌+◌, ◌≤◌, List, [], ◌∷◌, ◌++◌, length, refl, ap, subst}
use Rattle.std.proofs.Common.{arith}
use Rattle.syn_disk.specs.Disk.{overwritten, Torn, Follows}
use Rattle.syn_disk.specs.Moments.{MayLeave}
use Rattle.syn_disk.specs.Extent.{is_in_some}
use Rattle.syn_disk.specs.Mirror.{FileMayLeave, bytes_of, length-bytes}
use Rattle.syn_disk.specs.declared.disk.TheConstants.{DISK_SIZE}
use Rattle.syn_disk.specs.declared.file.disk_bytes.DiskBytes.{DiskBytes}
use Rattle.syn_disk.proofs.Extents.{is_in_some-push, outside}
use Rattle.syn_disk.proofs.Moments.{left_before_write}
use Rattle.syn_disk.proofs.Overwritten.{length-overwritten, overwritten-below, overwritten-after}

in_bytes : (image : DiskBytes) (at : ℕ) (bytes : List ℕ) → at + length bytes ≤ DISK_SIZE →
    at + length bytes ≤ length (bytes_of image)
in_bytes image at bytes fits = omega (arith, length-bytes image)

-- a write is also one that was torn
pub torn_overwritten : (image : DiskBytes) (at : ℕ) (bytes : List ℕ) →
    at + length bytes ≤ DISK_SIZE →
    Torn at (length bytes) (bytes_of image) (overwritten (bytes_of image) at bytes)
torn_overwritten image at bytes fits = record {
  size = length-overwritten (bytes_of image) at bytes (in_bytes image at bytes fits);
  before =
      λ i less. overwritten-below (bytes_of image) at bytes (in_bytes image at bytes fits) i 0 less;
  after =
      λ i past. overwritten-after (bytes_of image) at bytes
      (in_bytes image at bytes fits) i 0 past;
}

-- once its range is marked, a stop leaves what it might have left before, with any bytes in the
-- range
pub file_left_before_write : (old new : DiskBytes) (ranges : List (ℕ × ℕ)) (at : ℕ)
    (bytes : List ℕ) →
    at + length bytes ≤ DISK_SIZE → (marked : List (ℕ × ℕ)) →
    marked ≡ ranges ++ (at, length bytes) ∷ [] →
    bytes_of new ≡ overwritten (bytes_of old) at bytes →
    Follows (Torn at (length bytes)) (FileMayLeave (old, ranges)) (FileMayLeave (new, marked))
file_left_before_write old new ranges at bytes fits marked is_marked written = λ c left.
    left_before_write (bytes_of old) bytes at (length-bytes old) (in_bytes old at bytes fits)
    (is_in_some ranges) (is_in_some marked)
    (λ i apart none. ap (λ rs. is_in_some rs i) is_marked ∙ is_in_some-push ranges
    (at, length bytes) i ∙ rw (none, outside at (length bytes) i apart) refl) c
    (subst (λ xs. MayLeave xs (is_in_some marked) c) written left)
