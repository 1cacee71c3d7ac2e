-- Why what was listed may be another now.
use Rattle.std.specs.Prelude.{ℕ, not, ◌||◌, nat_lt, List, [], ◌∷◌, length}
use Rattle.syn_model.specs.Path.{Path}
use Rattle.syn_model.specs.Refusal.{BelowFloor, Touched, Cause}
use Rattle.syn_model.specs.History.{History, floor, is_quiet}

-- the path was touched since, or the position does not tell
abbrev pub since_causes : History → Path → ℕ → List Cause
since_causes history path since =
    (nat_lt since (floor history) || nat_lt (length history) since, BelowFloor)
    ∷ (not (is_quiet history since (length history) path), Touched) ∷ []
