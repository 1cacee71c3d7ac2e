-- What a window on written bytes keeps.
use Rattle.std.specs.Prelude.{◌≡◌, ℕ, ◌-◌, length, take, drop}
use Rattle.syn_model.specs.Path.{Bytes}
use Rattle.syn_model.specs.Limits.{greatest_piece}

-- of what was written, the piece from the offset on is kept, and so many bytes come before that
pub record Shows (offset : ℕ) (written kept : Bytes) (skip : ℕ) : Type 0 where
  pub piece : kept ≡ take greatest_piece (drop offset written)
  pub to_come : skip ≡ offset - length written
