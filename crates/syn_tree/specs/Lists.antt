-- What a tree shows of a directory, and what is measured before a change.
use Rattle.std.specs.Prelude.{◌≡◌, ℕ, Bool, true, false, List, ◌++◌, map, Option, Some, None}
use Rattle.std.specs.Prelude.{option_map, option_and_then, filter_map, if◌then◌else◌}
use Rattle.std.specs.List.{list_all}
use Rattle.std.specs.FinMap.{entries, len}
use Rattle.syn_model.specs.Path.{Name, Path, IsPath, strip_prefix, is_root}
use Rattle.syn_model.specs.Tree.{Tree, Pair, Content, HasParents, IsPart, is_directory_content}
use Rattle.syn_model.specs.Limits.{only_name, children, fits_part, fits_path, fits_replica}
use Rattle.syn_model.specs.Refusal.{Refusal, first_cause}
use Rattle.syn_model.specs.Standing.{place_causes, full_causes}
use Rattle.syn_model.specs.Tree as model
use Rattle.syn_placed.specs.Pairs.{Pairs, under, spelling_length}
use Rattle.syn_tree.specs.Contents.{found_content}
use Rattle.syn_tree.specs.declared.content.Found.{Found}

-- names, each with whether it is a directory
abbrev pub kinds_of : List (Name × Content) → List (Name × Bool)
kinds_of children = map (λ child. (child.0, is_directory_content (Some child.1))) children

-- the names in a directory
abbrev pub listing : Tree → Path → List (Name × Bool)
listing tree path = kinds_of (children tree path)

-- why a tree refuses a replacement
abbrev pub replace_refusal : Tree → Path → Tree → Option Refusal
replace_refusal tree path new = first_cause
    (place_causes tree path ++ full_causes (model.replace tree path new))

-- what is measured of a part that is to stand at a path: its nodes and its size, where it keeps the
-- other limits
pub record IsMeasured (at : Path) (new : Tree) (nodes size : ℕ) : Type 0 where
  pub parents : HasParents new
  pub count : len new ≡ nodes
  pub spelled : spelling_length (under at (entries new)) ≡ size
  pub limits : fits_part new ≡ true
  pub paths : list_all (λ pair. fits_path pair.0) (under at (entries new)) ≡ true

-- the pairs are those of a part below the path, which keeps its own limits there
pub record IsPlaceable (at : Path) (new : Tree) (pairs : Pairs) : Type 0 where
  pub path : IsPath at
  pub part : IsPart new
  pub placed : pairs ≡ under at (entries new)
  pub limits : fits_part new ≡ true
  pub paths : list_all (λ pair. fits_path pair.0) (under at (entries new)) ≡ true

-- no tree keeps its limits with the part at the path
abbrev pub FitsNowhere : Path → Tree → Type 0
FitsNowhere at new = (tree : Tree) → fits_replica (model.replace tree at new) ≡ false

-- the names among the pairs that are children of the path, each with what it is
abbrev pub child_contents : Path → Pairs → List (Name × Content)
child_contents path pairs =
    filter_map (λ pair. option_map (λ name. (name, pair.1))
    (option_and_then only_name (strip_prefix path pair.0))) pairs

-- names with what was found there
abbrev pub contents_at : List (Name × Found) → List (Name × Content)
contents_at children = map (λ (child : Name × Found). (child.0, found_content child.1)) children

-- a pair below the path, without the path before its own
abbrev pub below_off : Path → Pair → Option Pair
below_off at pair = option_and_then (λ rest. if is_root rest then None else Some (rest, pair.1))
    (strip_prefix at pair.0)

abbrev pub stripped : Path → Pairs → Pairs
stripped at pairs = filter_map (below_off at) pairs
