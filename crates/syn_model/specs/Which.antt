-- The two sides of a synchronization.
use Rattle.std.specs.Prelude.{Bool, true, false}

pub data Which : Type 0 where
  Left : Which
  Right : Which

abbrev pub other : Which → Which
other Left = Right
other Right = Left

abbrev pub is_side : Which → Which → Bool
is_side Left Left = true
is_side Right Right = true
is_side _ _ = false
