-- A set of paths as a list in path order.
use Rattle.std.specs.Prelude.{◌≡◌, Bool, List, map}
use Rattle.std.specs.Borrow.{Bor}
use Rattle.std.specs.Ordering.{eq_by_cmp}
use Rattle.std.specs.List.{list_any}
use Rattle.std.specs.List.Sorted.{IsStrictlySortedBy}
use Rattle.syn_model.specs.Path.{Path, path_cmp}
use Rattle.syn_model.specs.Dirty.{Paths}

-- the path is one of these
abbrev pub is_among : List Path → Path → Bool
is_among paths path = list_any (eq_by_cmp path_cmp path) paths

-- the paths of the set, each once, in path order
pub record AreInOrder (set : Paths) (paths : List Path) : Type 0 where
  pub rising : IsStrictlySortedBy path_cmp paths
  pub exact : (path : Path) → is_among paths path ≡ set path

-- what the references point to
abbrev pub paths_at : List (Bor Path) → List Path
paths_at references = map (λ (path : Bor Path). path.now) references
