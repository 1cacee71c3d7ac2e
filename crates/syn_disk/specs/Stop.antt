-- What a stop makes of a disk in memory.
use Rattle.std.specs.Prelude.{◌≡◌, ◌<◌, ◌-◌, ℕ, Bool, if◌then◌else◌, List, length, slice_index}
use Rattle.syn_disk.specs.Written.{is_written}
use Rattle.syn_disk.specs.declared.simulated.leaves.Leaves.{Leaves}
use Rattle.syn_disk.specs.declared.simulated.leaves.Leaves.TheVariants.{Lose, Keep, Noise}

-- of a byte that was written since the last sync: the one before, the one written, or its
-- complement
abbrev pub left_byte : Leaves → ℕ → ℕ → ℕ
left_byte Lose synced byte = synced
left_byte Keep synced byte = byte
left_byte Noise synced byte = 255 - byte

-- the content after a stop
pub record Left (leaves : Leaves) (content synced : List ℕ) (written : List Bool)
    (after : List ℕ) : Type 0 where
  pub size : length after ≡ length content
  pub each : (i : ℕ) → i < length content
      → slice_index after i
      ≡ (if is_written written i
      then left_byte leaves (slice_index synced i) (slice_index content i)
      else slice_index content i)
