-- What a session decides at a path, by what the two scans and the archive have there.
use Rattle.std.specs.Prelude.{◌≡◌, Bool, true, false, not, ◌||◌, if◌then◌else◌, ◌∷◌, ◌++◌, Option}
use Rattle.std.specs.Prelude.{Some, None}
use Rattle.syn_model.specs.Path.{Path, Name}
use Rattle.syn_model.specs.Tree.{Tree, subtree, is_directory}
use Rattle.syn_model.specs.Which.{Which, Left, Right}
use Rattle.syn_model.specs.Dirty.{Scan, is_unstable, dirty, is_same_tree}
use Rattle.syn_model.specs.Reconcile.{is_directory_in_both}

pub data Item : Type 0 where
  ToLeft : (path : Path) → Item
  ToRight : (path : Path) → Item
  MarkSame : (path : Path) → Item
  MarkDir : (path : Path) → Item
  Conflict : (path : Path) → Item

-- what is done at a relevant path: nothing there or below, an item, or one and the names of the
-- directory
pub data Decision : Type 0 where
  Clean : Decision
  Do : (item : Item) → Decision
  DoAndGoOn : (item : Item) → Decision
  GoOn : Decision

-- What is done where both sides changed: nothing without a preference, or where the path is
-- unstable itself; else the preferred side is carried over to the other
abbrev pub contested : Option Which → Bool → Path → Item
contested None unstable path = Conflict path
contested (Some side) true path = Conflict path
contested (Some Left) false path = ToRight path
contested (Some Right) false path = ToLeft path

abbrev pub decision : Option Which → Scan → Scan → Tree → Path → Decision
decision preference left right archive path =
    if not (dirty left archive path || dirty right archive path) then Clean
    else if is_directory_in_both left.marks right.marks path then
    (if is_unstable left path || is_unstable right path then Do (Conflict path)
    else if is_directory archive path then GoOn else DoAndGoOn (MarkDir path))
    else if is_same_tree (subtree left.marks path) (subtree right.marks path)
    then Do (MarkSame path)
    else if not (dirty right archive path) then Do (ToRight path)
    else if not (dirty left archive path) then Do (ToLeft path)
    else Do (contested preference (is_unstable left path || is_unstable right path) path)

abbrev pub path_of : Item → Path
path_of (ToLeft path) = path
path_of (ToRight path) = path
path_of (MarkSame path) = path
path_of (MarkDir path) = path
path_of (Conflict path) = path

-- a plan goes on below a path that is decided so
abbrev pub GoesOn : Decision → Type 0
GoesOn Clean = ⊥
GoesOn (Do item) = ⊥
GoesOn (DoAndGoOn item) = Unit {0}
GoesOn GoOn = Unit {0}

-- by what is decided at each path, it goes on at each above
abbrev pub IsReached : (Path → Decision) → Path → Type 0
IsReached decide path = (above : Path) (name : Name) (rest : Path) → path ≡ above ++ name ∷ rest →
    GoesOn (decide above)
