-- A change that was prepared: a place, and what will stand there.
use Rattle.std.specs.Prelude.{◌≡◌, ℕ, true, false, refl}
use Rattle.std.specs.Coded.{Coded, code_by, coded×, coded_ℕ, coded_list}
use Rattle.std.specs.FinMap.{from_sorted, entries}
use Rattle.syn_model.specs.Path.{Path, IsPath, is_root, parent}
use Rattle.syn_model.specs.Tree.{Tree, IsPart, subtree, replace, is_directory, coded_tree}
use Rattle.syn_model.specs.Limits.{fits_replica}
use Rattle.syn_placed.specs.Pairs.{Pairs, under, spelling_length}

pub record Replacement : Type 0 where
  pub at : Path
  pub new : Tree

-- what the pairs at and below the path are, with the path taken off
abbrev pub taken_from : Path → Pairs → Tree
taken_from at pairs = subtree (from_sorted pairs) at

-- pairs that stand at and below the path, and how long they are spelled
pub record ArePlaced (at : Path) (pairs : Pairs) (size : ℕ) : Type 0 where
  pub path : IsPath at
  pub part : IsPart (taken_from at pairs)
  pub placed : pairs ≡ under at (entries (taken_from at pairs))
  pub spelled : size ≡ spelling_length pairs

-- it may be made in the tree, and keeps the limits there
pub record IsPreparedFor (tree : Tree) (change : Replacement) : Type 0 where
  pub below : is_root change.at ≡ false
  pub parent : is_directory tree (parent change.at) ≡ true
  pub fits : fits_replica (replace tree change.at change.new) ≡ true

-- the tree with the change made
abbrev pub after_change : Tree → Replacement → Tree
after_change tree change = replace tree change.at change.new

-- a replacement is stored as the pair of its fields
abbrev pub coded_replacement : Coded Replacement
coded_replacement = code_by (Path × Tree) (coded× (coded_list (coded_list coded_ℕ)) coded_tree)
    (λ c. (c.at, c.new)) (λ p. record { at = p.0; new = p.1 }) (λ _. refl)
