-- What a stop may leave of a disk that keeps its bytes in memory, now and at earlier moments.
use Rattle.std.specs.Prelude.{◌≡◌, ◌≤◌, ℕ, Bool, false, List, length, slice_index, slice_index_or}
use Rattle.syn_disk.specs.declared.disk.TheConstants.{DISK_SIZE}

-- A whole disk, with the same bytes where nothing was written since the last sync.
pub record MayLeave (content : List ℕ) (is_written : ℕ → Bool) (c : List ℕ) : Type 0 where
  pub whole : length c ≡ DISK_SIZE
  pub kept : (i : ℕ) → is_written i ≡ false → slice_index c i ≡ slice_index content i

-- A stop at the k-th moment, for some k from t on, may leave it; the last moment is now.
abbrev pub LeftSince : {S : Type 0} → (S → List ℕ → Type 0) → List S → S → ℕ → List ℕ → Type 0
LeftSince may_leave past now t c = (k : ℕ) × (t ≤ k) × may_leave (slice_index_or past k now) c
