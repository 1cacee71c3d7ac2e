-- What positions and a scanner keep.
use Rattle.std.specs.Prelude.{◌≡◌, ◌<◌, ℕ, Bool, true, false, not, ◌&&◌, List, ◌∷◌, Some, None}
use Rattle.std.specs.Prelude.{All, filter, slice_index_or}
use Rattle.std.specs.Ordering.{is_lt}
use Rattle.std.specs.FinMap.{is_sorted, from_sorted, entries, get, insert}
use Rattle.syn_model.specs.Path.{Path, Name, path_cmp, root}
use Rattle.syn_model.specs.Tree.{Tree, Pair, Directory, is_directory_content, replace}
use Rattle.syn_scan.specs.Found.{Found, Positions, is_open, was_listed, was_no_directory}
use Rattle.syn_scan.specs.Asked.{Asked, is_out}

abbrev pub AreSorted : List (Path × ℕ) → Type 0
AreSorted list = is_sorted path_cmp list ≡ true

-- the answers for paths before a path
abbrev pub earlier : Path → List (Path × ℕ) → List (Path × ℕ)
earlier path list = filter (λ entry. is_lt (path_cmp entry.0 path)) list

abbrev pub positions_with : List (Path × ℕ) → Positions
positions_with list = from_sorted {R = path_cmp} list

-- a directory with files and directories that show nothing below
pub record IsFlat (tree : Tree) : Type 0 where
  pub rooted : get tree root ≡ Some Directory
  pub nothing_below : (name next : Name) (rest : Path) → get tree (name ∷ next ∷ rest) ≡ None

-- with the listing of a directory, as a tree
abbrev pub with_tree : Found → Path → ℕ → Tree → Found
with_tree found path position tree = record found {
  marks = replace found.marks path tree;
  listed = insert found.listed path position;
}

-- an entry of the marks is a directory that is open
abbrev pub is_open_entry : Found → Pair → Bool
is_open_entry found entry = is_directory_content (Some entry.1) && not (was_listed found entry.0)
    && not (was_no_directory found entry.0)

-- and was not handed out
abbrev pub is_next_entry : Found → List Path → Pair → Bool
is_next_entry found out entry = is_open_entry found entry && not (is_out out entry.0)

-- none of so many in front is open without being out
abbrev pub NoneNext : Found → List Path → List Pair → ℕ → Type 0
NoneNext found out pairs count = (at : ℕ) (pair : Pair) → at < count →
    is_next_entry found out (slice_index_or pairs at pair) ≡ false

-- each path that is out is of a directory that is still open
abbrev pub AreOpen : Asked → Type 0
AreOpen asked = All (λ path. is_open asked.found path ≡ true) asked.out

-- and none of so many entries in front is to be handed out
pub record IsKept (asked : Asked) (passed : ℕ) : Type 0 where
  pub out_open : AreOpen asked
  pub none_next : NoneNext asked.found asked.out (entries asked.found.marks) passed
