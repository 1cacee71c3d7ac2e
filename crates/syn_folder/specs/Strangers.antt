-- What stands in a folder beside its tree, and what is kept in its place.
use Rattle.std.specs.Prelude.{◌≡◌, List, Contains, Option, Some, None, fold, if◌then◌else◌}
use Rattle.std.specs.FinMap.{get}
use Rattle.syn_model.specs.Path.{Path}
use Rattle.syn_model.specs.Tree.{Tree, empty_directory, is_directory, replace, subtree}
use Rattle.syn_folder.specs.declared.stranger.Stranger.{Stranger}

-- nothing is wanted where one of them stands
abbrev pub IsApart : List Stranger → Tree → Type 0
IsApart strangers wanted = (stranger : Stranger) (path : Path) → Contains strangers stranger
    → stranger.path ≡ Some path → get wanted path ≡ None

-- what the directory at the path has; nothing where none is there
abbrev pub directory_at : Tree → Path → Tree
directory_at tree path = if is_directory tree path then subtree tree path else empty_directory

-- at the path is what the part has there
abbrev pub put_back : Tree → Tree → Option Path → Tree
put_back part tree None = tree
put_back part tree (Some path) = replace tree path (subtree part path)

-- in the place of each of them is what the part has there
abbrev pub skipped : Tree → Tree → List Stranger → Tree
skipped part tree strangers = fold (λ t stranger. put_back part t stranger.path) tree strangers
