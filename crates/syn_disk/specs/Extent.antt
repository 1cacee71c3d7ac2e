-- Ranges of a disk.
use Rattle.std.specs.Prelude.{ℕ, ◌+◌, Bool, false, ◌&&◌, ◌||◌, nat_le, nat_lt, List, [], ◌∷◌}

abbrev pub is_between : ℕ → ℕ → ℕ → Bool
is_between start len i = nat_le start i && nat_lt i (start + len)

-- some of these ranges, each a start and a length, has the byte
abbrev pub is_in_some : List (ℕ × ℕ) → ℕ → Bool
is_in_some [] i = false
is_in_some (range ∷ ranges) i = is_between range.0 range.1 i || is_in_some ranges i
