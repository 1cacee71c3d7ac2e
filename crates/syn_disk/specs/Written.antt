-- Flags for the bytes that were written since the last sync.
use Rattle.std.specs.Prelude.{◌≡◌, ◌<◌, ◌≤◌, ℕ, Bool, false, List, length, slice_index_or}

abbrev pub is_written : List Bool → ℕ → Bool
is_written written i = slice_index_or written i false

-- all that was written lies in the range
pub record IsHull (written : List Bool) (from to : ℕ) : Type 0 where
  pub ordered : from ≤ to
  pub within : to ≤ length written
  pub below : (i : ℕ) → i < from → is_written written i ≡ false
  pub above : (i : ℕ) → to ≤ i → is_written written i ≡ false
