-- Values at paths, in path order.
use Rattle.std.specs.Prelude.{◌≡◌, ℕ, ◌<◌, ◌≤◌, Bool, true, List, None, length, filter}
use Rattle.std.specs.Prelude.{slice_index_or}
use Rattle.std.specs.Ordering.{is_lt}
use Rattle.std.specs.FinMap.{find, is_sorted}
use Rattle.syn_model.specs.Path.{Path, path_cmp, is_prefix}

-- the paths strictly rise
abbrev pub IsRising : {V : Type 0} → List (Path × V) → Type 0
IsRising entries = is_sorted path_cmp entries ≡ true

-- the entry stands before the path
abbrev pub comes_before : {V : Type 0} → Path → Path × V → Bool
comes_before at entry = is_lt (path_cmp entry.0 at)

-- the entry stands at or below the path
abbrev pub stands_within : {V : Type 0} → Path → Path × V → Bool
stands_within at entry = is_prefix at entry.0

-- entries in path order, in a list that has this room
pub record HasRoom {V : Type 0} (room : ℕ) (entries : List (Path × V)) (capacity : ℕ) : Type 0 where
  pub rising : IsRising entries
  pub room_there : room ≤ capacity

-- so many entries stand before the path, and the next one is at it
pub record StandsAt {V : Type 0} (at : Path) (place : ℕ) (entries : List (Path × V)) : Type 0 where
  pub before : place ≡ length (filter (comes_before at) entries)
  pub within : place < length entries
  pub same : (d : Path × V) → (slice_index_or entries place d).0 ≡ at

-- so many entries stand before the path, and none at it
pub record WouldStandAt {V : Type 0} (at : Path) (place : ℕ) (entries : List (Path × V)) : Type 0
  where
    pub before : place ≡ length (filter (comes_before at) entries)
    pub absent : find path_cmp at entries ≡ None
