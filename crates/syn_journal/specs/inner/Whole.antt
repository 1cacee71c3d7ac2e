-- When the cursor of a journal is in step with the bytes of its disk.
use Rattle.std.specs.Prelude.{◌≡◌, ◌≢◌, ◌<◌, ◌+◌, ◌-◌, ℕ, List, length, take, drop}
use Rattle.std.specs.Prelude.{slice_index, Ok}
use Rattle.syn_disk.specs.Disk.{Only}
use Rattle.syn_disk.specs.declared.disk.TheConstants.{DISK_SIZE}
use Rattle.syn_journal.specs.declared.cursor.JournalCursor.{JournalCursor}
use Rattle.syn_journal.specs.declared.half.Half.{Half}
use Rattle.syn_journal.specs.declared.layout.TheConstants.{IMAGE_LENGTH_AT}
use Rattle.syn_journal.specs.Layout.{half_size, open_gate, start_of, other_half, is_open, Value}
use Rattle.syn_journal.specs.Layout.{current, generation_at, meaning, spelled, value_or_empty}

-- The current half has this generation and value, and its next gate, which is closed, stands here.
pub record IsWhole (disk : List ℕ) (half : Half) (generation gate : ℕ)
    (value : Value) : Type 0 where
  pub size : length disk ≡ DISK_SIZE
  pub is_current : current disk ≡ Ok half
  pub numbered : generation_at disk half ≡ generation
  pub front : take (gate - IMAGE_LENGTH_AT) (drop (start_of half + IMAGE_LENGTH_AT) disk)
      ≡ spelled value.image value.payloads
  pub closed : slice_index disk (start_of half + gate) ≢ open_gate
  pub within : gate < half_size

-- The half is whole, the other one is open or not, and each stop leaves what the disk gives.
pub record IsInStep (seen : List ℕ) (may_leave : List ℕ → Type 0) (cursor : JournalCursor)
    : Type 0 where
  pub whole : IsWhole seen cursor.half cursor.generation cursor.gate
      (value_or_empty (meaning seen))
  pub other : is_open seen (other_half cursor.half) ≡ cursor.other_is_open
  pub durable : Only seen may_leave
