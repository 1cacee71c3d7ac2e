-- A plan as a walk over the paths that are dirty on a side, in path order.
use Rattle.std.specs.Prelude.{Bool, true, false, not, ◌||◌, if◌then◌else◌, List, [], ◌∷◌, map}
use Rattle.std.specs.Prelude.{Option, Some, None}
use Rattle.std.specs.Borrow.{Bor}
use Rattle.std.specs.FinMap.Entries.{by_order}
use Rattle.syn_model.specs.Path.{Path, path_cmp, is_prefix}
use Rattle.syn_model.specs.Tree.{Tree, subtree, is_directory}
use Rattle.syn_model.specs.Dirty.{Scan, is_unstable, is_same_tree}
use Rattle.syn_model.specs.Reconcile.{is_directory_in_both}
use Rattle.syn_model.specs.Decision.{Item, ToLeft, ToRight, MarkSame, MarkDir, Conflict, Decision}
use Rattle.syn_model.specs.Decision.{Clean, Do, DoAndGoOn, GoOn, contested}
use Rattle.syn_model.specs.Which.{Which}

-- a path, whether it is dirty on the left, and whether on the right
abbrev pub Row : Type 0
Row = Path × Bool × Bool

abbrev pub Rows : Type 0
Rows = List Row

abbrev pub on_left : Path → Row
on_left path = (path, true, false)

abbrev pub on_right : Path → Row
on_right path = (path, false, true)

abbrev pub on_both : Path → Row
on_both path = (path, true, true)

-- a path of the left among those of the right, with what is after it
abbrev pub among : Path → (List Path → Rows) → List Path → Rows
among left later [] = on_left left ∷ later []
among left later (right ∷ rights) = by_order (path_cmp left right)
    (on_left left ∷ later (right ∷ rights))
    (on_both left ∷ later rights)
    (on_right right ∷ among left later rights)

-- the paths of both lists, in order, each once
abbrev pub merged : List Path → List Path → Rows
merged [] rights = map on_right rights
merged (left ∷ lefts) rights = among left (merged lefts) rights

-- what is decided at a path, by where it is dirty
abbrev pub decided : Option Which → Scan → Scan → Tree → Row → Decision
decided preference left right archive row =
    let path = row.0 in
    if not (row.1 || row.2) then Clean
    else if is_directory_in_both left.marks right.marks path then
    (if is_unstable left path || is_unstable right path then Do (Conflict path)
    else if is_directory archive path then GoOn else DoAndGoOn (MarkDir path))
    else if is_same_tree (subtree left.marks path) (subtree right.marks path)
    then Do (MarkSame path)
    else if not row.2 then Do (ToRight path)
    else if not row.1 then Do (ToLeft path)
    else Do (contested preference (is_unstable left path || is_unstable right path) path)

-- at or below the path nothing more is decided
abbrev pub is_settled : Option Path → Path → Bool
is_settled None path = false
is_settled (Some above) path = is_prefix above path

-- the path below which nothing is decided, once this is decided at a path
abbrev pub settled_by : Decision → Path → Option Path → Option Path
settled_by Clean path settled = Some path
settled_by (Do item) path settled = Some path
settled_by (DoAndGoOn item) path settled = settled
settled_by GoOn path settled = settled

abbrev pub item_in : Decision → List Item
item_in Clean = []
item_in (Do item) = item ∷ []
item_in (DoAndGoOn item) = item ∷ []
item_in GoOn = []

-- what the references point to
abbrev pub target : Option (Bor Path) → Option Path
target None = None
target (Some path) = Some path.now

abbrev pub row_at : Bor Path × Bool × Bool → Row
row_at dirty = (dirty.0.now, dirty.1, dirty.2)
