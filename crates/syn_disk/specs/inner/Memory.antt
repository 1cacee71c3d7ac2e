-- A part of a disk in memory: its bytes, its synced copy and its flags, as far as they are kept.
use Rattle.std.specs.Prelude.{◌≡◌, ◌≤◌, ℕ, Bool, false, List, length, slice_index}
use Rattle.syn_disk.specs.Written.{is_written}

-- all three have one length, and where nothing was written the copy is the same
pub record Tracks (content synced : List ℕ) (written : List Bool) (size : ℕ) : Type 0 where
  pub fits : length content ≤ size
  pub synced_size : length synced ≡ length content
  pub written_size : length written ≡ length content
  pub same : (i : ℕ) → is_written written i ≡ false → slice_index synced i ≡ slice_index content i
