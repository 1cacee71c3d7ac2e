-- When what stands at and below a path is what was read there.
use Rattle.std.specs.Prelude.{◌≡◌, ◌++◌, List, All, Some, filter, length, suc}
use Rattle.std.specs.FinMap.{entries, get}
use Rattle.syn_model.specs.Path.{Path}
use Rattle.syn_model.specs.Tree.{Content, Tree}
use Rattle.syn_placed.specs.Pairs.{is_below}
use Rattle.syn_folder.specs.Looks.{content_in}
use Rattle.syn_folder.specs.declared.system.looks.Seen.{Seen}
use Rattle.syn_folder.specs.declared.system.looks.Shown.{Shown}

-- a file or a directory is shown, which the tree has at the path
abbrev pub HasContent : Tree → Path → Shown → Type 0
HasContent tree path shown =
    (content : Content) × (content_in shown ≡ Some content) × (get tree path ≡ Some content)

-- what was seen so far below the path is what the tree has there
abbrev pub IsOneAsRead : Tree → Path → Seen → Type 0
IsOneAsRead tree path seen = HasContent tree (path ++ seen.path) seen.shown

-- all that was seen at and below the path is what the tree has there, and it is as much
pub record IsAsRead (tree : Tree) (path : Path) (seen : List Seen) : Type 0 where
  pub each : All (IsOneAsRead tree path) seen
  pub count : length seen ≡ suc (length (filter (is_below path) (entries tree)))
