-- What a tree keeps.
use Rattle.std.specs.Prelude.{◌≡◌, ◌≤◌, ℕ, true}
use Rattle.syn_model.specs.Tree.{IsTree}
use Rattle.syn_model.specs.Limits.{fits_replica}
use Rattle.syn_placed.specs.Pairs.{Pairs, rooted, tree_with, AreRising, spelling_length}

-- the pairs make a tree within all limits, the length of its spelling is known, and there is room
-- for the most nodes
pub record IsKept (pairs : Pairs) (spelled capacity : ℕ) : Type 0 where
  pub rising : AreRising (rooted pairs)
  pub tree : IsTree (tree_with pairs)
  pub fits : fits_replica (tree_with pairs) ≡ true
  pub counted : spelled ≡ spelling_length (rooted pairs)
  pub room : 1023 ≤ capacity
