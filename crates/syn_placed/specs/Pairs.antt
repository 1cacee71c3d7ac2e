-- A tree below its root directory as a list of pairs in path order, and where the pairs lie to a
-- path.
use Rattle.std.specs.Prelude.{◌≡◌, ℕ, ◌+◌, Bool, true, not, ◌&&◌, ◌||◌, List, ◌∷◌, ◌++◌, map}
use Rattle.std.specs.Prelude.{filter, is_some, sum_by, option_and_then}
use Rattle.std.specs.Ordering.{is_lt}
use Rattle.std.specs.FinMap.{from_sorted, is_sorted}
use Rattle.syn_model.specs.Path.{Path, path_cmp, root, strip_prefix, is_prefix}
use Rattle.syn_model.specs.Tree.{Tree, Pair, Directory}
use Rattle.syn_model.specs.Limits.{only_name, last_name_spelling_length, content_spelling_length}

abbrev pub Pairs : Type 0
Pairs = List Pair

-- with the root
abbrev pub rooted : Pairs → Pairs
rooted pairs = (root, Directory) ∷ pairs

abbrev pub tree_with : Pairs → Tree
tree_with pairs = from_sorted (rooted pairs)

-- the paths strictly rise
abbrev pub AreRising : Pairs → Type 0
AreRising pairs = is_sorted path_cmp pairs ≡ true

-- the pairs before a path, those at and below it, and those after these
abbrev pub is_before : Path → Pair → Bool
is_before at pair = is_lt (path_cmp pair.0 at)

abbrev pub is_within : Path → Pair → Bool
is_within at pair = is_prefix at pair.0

abbrev pub is_beyond : Path → Pair → Bool
is_beyond at pair = not (is_before at pair || is_within at pair)

-- it stands below the path, and not at it
abbrev pub is_below : Path → Pair → Bool
is_below path pair = is_prefix path pair.0 && not (is_prefix pair.0 path)

abbrev pub before : Path → Pairs → Pairs
before at pairs = filter (is_before at) pairs

abbrev pub within : Path → Pairs → Pairs
within at pairs = filter (is_within at) pairs

abbrev pub beyond : Path → Pairs → Pairs
beyond at pairs = filter (is_beyond at) pairs

-- each pair with the path put before its own
abbrev pub under : Path → Pairs → Pairs
under at pairs = map (λ pair. (at ++ pair.0, pair.1)) pairs

-- the path is one name longer than the parent, which it begins with
abbrev pub is_child : Path → Path → Bool
is_child parent path = is_some (option_and_then only_name (strip_prefix parent path))

-- the length and bytes of the last name, and what stands there
abbrev pub pair_spelling_length : Pair → ℕ
pair_spelling_length pair = last_name_spelling_length pair.0 + content_spelling_length pair.1

abbrev pub spelling_length : Pairs → ℕ
spelling_length pairs = sum_by pair_spelling_length pairs
