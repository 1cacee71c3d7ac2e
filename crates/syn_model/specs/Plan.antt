-- The plan of a session: what is decided from the root down, and what carrying it out gives.
use Rattle.std.specs.Ordering.{eq_by_cmp}
use Rattle.std.specs.List.{list_any}
use Rattle.std.specs.List.Sorted.{IsStrictlySortedBy}
use Rattle.std.specs.Prelude.{ℕ, ◌≢◌, ◌↔◌, Bool, map, ◌||◌, zero, suc, ◌≡◌, ◌⊎◌, ◌≤◌, true, false}
use Rattle.std.specs.Prelude.{if◌then◌else◌, List, [], ◌∷◌, ◌++◌, length, fold, flat_map, All}
use Rattle.std.specs.Prelude.{AllPairs, Contains, Option, Some, None}
use Rattle.std.specs.FinMap.{get, keys, from_entries}
use Rattle.syn_model.specs.Path.{Path, Name, name_cmp, root, child, is_prefix, comparable}
use Rattle.syn_model.specs.Tree.{Tree, Content, HasParents, subtree, replace, is_directory}
use Rattle.syn_model.specs.Tree.{empty_directory}
use Rattle.syn_model.specs.Limits.{children}
use Rattle.syn_model.specs.Mark.{mark, AreApart}
use Rattle.syn_model.specs.Dirty.{Scan, dirty, is_unstable}
use Rattle.syn_model.specs.Which.{Which, Left, Right}
use Rattle.syn_model.specs.Reconcile.{IsSynchronization, IsReconciledArchive, is_relevant}
use Rattle.syn_model.specs.Reconcile.{is_directory_in_both, is_alike}
use Rattle.syn_model.specs.Decision.{Item, ToLeft, ToRight, MarkSame, MarkDir, Conflict, Decision}
use Rattle.syn_model.specs.Decision.{Clean, Do, DoAndGoOn, GoOn, decision, path_of, IsReached}

-- the names below a path on the left, on the right or in the archive, in byte order
abbrev pub names_below : Scan → Scan → Tree → Path → List Name
names_below left right archive path =
    keys (from_entries {X = Content} {R = name_cmp}
    (children left.marks path ++ (children right.marks path ++ children archive path)))

-- what is decided at a path, before the items below it
abbrev pub with_items_below : Decision → List Item → List Item
with_items_below Clean below = []
with_items_below (Do item) below = item ∷ []
with_items_below (DoAndGoOn item) below = item ∷ below
with_items_below GoOn below = below

-- the items at and below a path, down so many levels, by what is decided at each path and which
-- names are below each
abbrev pub items_from : (Path → Decision) → (Path → List Name) → ℕ → Path → List Item
items_from decide names zero path = []
items_from decide names (suc levels) path =
    with_items_below (decide path)
    (flat_map (λ name. items_from decide names levels (child path name)) (names path))

-- a path has 16 names at most
abbrev pub most_names : ℕ
most_names = 16

-- the plan for two scans and an archive, where a session prefers a side or none
abbrev pub plan : Option Which → Scan → Scan → Tree → List Item
plan preference left right archive = items_from (decision preference left right archive)
    (names_below left right archive) (suc most_names) root

-- an item that is carried out later is neither at nor above the path of an earlier one, and below
-- it only where that marks a directory
pub record StandsBefore (earlier later : Item) : Type 0 where
  pub not_above : is_prefix (path_of later) (path_of earlier) ≡ false
  pub below_directory : is_prefix (path_of earlier) (path_of later) ≡ true →
      earlier ≡ MarkDir (path_of earlier)

-- each item is reached from the root and decided at its path
pub record IsDecided (decide : Path → Decision) (item : Item) : Type 0 where
  pub reached : IsReached decide (path_of item)
  pub decided : (decide (path_of item) ≡ Do item) ⊎ (decide (path_of item) ≡ DoAndGoOn item)

-- the two sides and the archive
pub record Trees : Type 0 where
  pub left : Tree
  pub right : Tree
  pub archive : Tree

abbrev pub with_directory : Tree → Path → Tree
with_directory archive path = if is_directory archive path then archive
    else replace archive path empty_directory

-- what an item changes: a side and the archive, or the archive alone, or nothing
abbrev pub after_item : Trees → Item → Trees
after_item trees (ToLeft path) =
    record trees {
      left = replace trees.left path (subtree trees.right path);
      archive = replace trees.archive path (mark (subtree trees.right path));
    }
after_item trees (ToRight path) =
    record trees {
      right = replace trees.right path (subtree trees.left path);
      archive = replace trees.archive path (mark (subtree trees.left path));
    }
after_item trees (MarkSame path) =
    record trees { archive = replace trees.archive path (mark (subtree trees.left path)) }
after_item trees (MarkDir path) = record trees { archive = with_directory trees.archive path }
after_item trees (Conflict path) = trees

abbrev pub carried_out : Trees → List Item → Trees
carried_out trees items = fold after_item trees items

-- an archive after an item may have its record, with some marks, or be as it was
abbrev pub IsRecordedFor : Item → Tree → Tree → Type 0
IsRecordedFor (ToLeft path) old new = (new ≡ old)
    ⊎ ((marks : Tree) × (new ≡ replace old path marks))
IsRecordedFor (ToRight path) old new = (new ≡ old)
    ⊎ ((marks : Tree) × (new ≡ replace old path marks))
IsRecordedFor (MarkSame path) old new = (new ≡ old)
    ⊎ ((marks : Tree) × (new ≡ replace old path marks))
IsRecordedFor (MarkDir path) old new = (new ≡ old) ⊎ (new ≡ with_directory old path)
IsRecordedFor (Conflict path) old new = new ≡ old

abbrev pub IsRecordedForEach : List Item → Tree → Tree → Type 0
IsRecordedForEach [] old new = new ≡ old
IsRecordedForEach (item ∷ items) old new = (next : Tree) × IsRecordedFor item old next
    × IsRecordedForEach items next new

-- both sides changed at the path, and it is unstable itself on neither
pub record IsContested (left right : Scan) (archive : Tree) (path : Path) : Type 0 where
  pub left_dirty : dirty left archive path ≡ true
  pub right_dirty : dirty right archive path ≡ true
  pub left_stable : is_unstable left path ≡ false
  pub right_stable : is_unstable right path ≡ false

-- a side is written where it was clean; and where both changed, if the other side is preferred
abbrev pub OverwritesLawfully : Option Which → Scan → Scan → Tree → Item → Type 0
OverwritesLawfully preference left right archive (ToLeft path) = (dirty left archive path ≡ false)
    ⊎ ((preference ≡ Some Right) × IsContested left right archive path)
OverwritesLawfully preference left right archive (ToRight path) = (dirty right archive path ≡ false)
    ⊎ ((preference ≡ Some Left) × IsContested left right archive path)
OverwritesLawfully preference left right archive (MarkSame path) = Unit {0}
OverwritesLawfully preference left right archive (MarkDir path) = Unit {0}
OverwritesLawfully preference left right archive (Conflict path) = Unit {0}

-- what a scan finds of a tree that does not change
abbrev pub scan_of : Tree → Scan
scan_of tree = record { marks = mark tree; unstable = [] }

-- no path in the tree has more names
abbrev pub HasDepth : ℕ → Tree → Type 0
HasDepth names tree = (path : Path) → suc names ≤ length path → get tree path ≡ None

-- a tree, or the marks of one, as far as a plan depends on it
pub record CanBePlanned (tree : Tree) : Type 0 where
  pub parents : HasParents tree
  pub depth : HasDepth most_names tree

-- the sides are a synchronization of what was found, by what was dirty
abbrev pub IsSynchronized : Option Which → Trees → Trees → Type 0
IsSynchronized preference found after =
    IsSynchronization preference found.left found.right (dirty (scan_of found.left) found.archive)
    (dirty (scan_of found.right) found.archive) after.left after.right

-- and the archive is the archive of that
abbrev pub IsReconciled : Option Which → Trees → Trees → Type 0
IsReconciled preference found after =
    IsReconciledArchive preference found.left found.right (dirty (scan_of found.left) found.archive)
    (dirty (scan_of found.right) found.archive) after.left after.right found.archive after.archive

abbrev pub stands_among : Name → List (Name × Content) → Bool
stands_among name entries = list_any (eq_by_cmp name_cmp name) (map (λ entry. entry.0) entries)

-- a list in byte order with the names of the three is that of the names below a path
abbrev pub NamesAreOnly : Type 0
NamesAreOnly = (left right : Scan) (archive : Tree) (path : Path) (names : List Name) →
    IsStrictlySortedBy name_cmp names →
    ((name : Name) → list_any (eq_by_cmp name_cmp name) names ≡
    (stands_among name (children left.marks path)
    || (stands_among name (children right.marks path)
    || stands_among name (children archive path)))) →
    names ≡ names_below left right archive path

abbrev pub PlanIsInOrder : Type 0
PlanIsInOrder = (preference : Option Which) (left right : Scan) (archive : Tree) →
    AllPairs StandsBefore (plan preference left right archive)

abbrev pub is_mark_dir : Item → Bool
is_mark_dir (ToLeft path) = false
is_mark_dir (ToRight path) = false
is_mark_dir (MarkSame path) = false
is_mark_dir (MarkDir path) = true
is_mark_dir (Conflict path) = false

-- that is, no path is named twice, items other than directories are not comparable, and none comes
-- after one below it
pub record IsOrderly (items : List Item) : Type 0 where
  pub named_once : AllPairs (λ earlier later. path_of earlier ≢ path_of later) items
  pub incomparable : AllPairs (λ earlier later. is_mark_dir earlier ≡ false →
      comparable (path_of earlier) (path_of later) ≡ false) items
  pub above_first : AllPairs
      (λ earlier later. is_prefix (path_of later) (path_of earlier) ≡ false) items

abbrev pub PlanIsOrderly : Type 0
PlanIsOrderly = (preference : Option Which) (left right : Scan) (archive : Tree) →
    IsOrderly (plan preference left right archive)

abbrev pub PlanIsDecided : Type 0
PlanIsDecided = (preference : Option Which) (left right : Scan) (archive : Tree) →
    All (IsDecided (decision preference left right archive)) (plan preference left right archive)

abbrev pub PlanOverwritesLawfully : Type 0
PlanOverwritesLawfully = (preference : Option Which) (left right : Scan) (archive : Tree) →
    All (OverwritesLawfully preference left right archive) (plan preference left right archive)

-- an item finds in the archive at its path what was there when it was planned, whatever was
-- recorded for items before it
abbrev pub ItemFindsArchive : Type 0
ItemFindsArchive = (preference : Option Which) (left right : Scan) (archive : Tree)
    (before after : List Item) (item : Item) (now : Tree) → HasParents archive →
    plan preference left right archive ≡ before ++ item ∷ after → IsRecordedForEach before archive
    now →
    subtree now (path_of item) ≡ subtree archive (path_of item)

-- at a path and above it both sides have what they had
pub record SidesStay (old new : Trees) (path : Path) : Type 0 where
  pub left : subtree new.left path ≡ subtree old.left path
  pub right : subtree new.right path ≡ subtree old.right path
  pub left_above : (above rest : Path) → path ≡ above ++ rest →
      get new.left above ≡ get old.left above
  pub right_above : (above rest : Path) → path ≡ above ++ rest →
      get new.right above ≡ get old.right above

-- and what the sides had at its path and above it, which no item before it changes
abbrev pub ItemFindsSides : Type 0
ItemFindsSides = (preference : Option Which) (left right : Scan) (archive : Tree)
    (before after : List Item) (item : Item) (trees : Trees) →
    plan preference left right archive ≡ before ++ item ∷ after → SidesStay trees
    (carried_out trees before)
    (path_of item)

-- what is reached and decided is in the plan
abbrev pub PlanHasDecided : Type 0
PlanHasDecided = (preference : Option Which) (left right archive : Tree) → CanBePlanned left →
    CanBePlanned right → CanBePlanned archive →
    (item : Item) → IsDecided (decision preference (scan_of left) (scan_of right) archive) item →
    Contains (plan preference (scan_of left) (scan_of right) archive) item

-- a relevant path is in conflict: dirty on both sides, not a directory in both, and not equal by
-- mark, where no side is preferred
pub record IsConflict (preference : Option Which) (left right archive : Tree)
    (path : Path) : Type 0 where
  pub undecided : preference ≡ None
  pub relevant : is_relevant left right path ≡ true
  pub left_dirty : dirty (scan_of left) archive path ≡ true
  pub right_dirty : dirty (scan_of right) archive path ≡ true
  pub no_directory : is_directory_in_both left right path ≡ false
  pub unlike : is_alike left right path ≡ false

abbrev pub ConflictsArePlanned : Type 0
ConflictsArePlanned = (preference : Option Which) (left right archive : Tree) →
    CanBePlanned left → CanBePlanned right → CanBePlanned archive → (path : Path) →
    Contains (plan preference (scan_of left) (scan_of right) archive) (Conflict path)
    ↔ IsConflict preference left right archive path

-- what the plan of the three leaves
abbrev pub after_plan : Option Which → Trees → Trees
after_plan preference found =
    carried_out found (plan preference (scan_of found.left) (scan_of found.right) found.archive)

-- the sides are synchronized, if no two files that they have at one path differ with one digest
abbrev pub PlanSynchronizes : Type 0
PlanSynchronizes = (preference : Option Which) (found : Trees) → CanBePlanned found.left →
    CanBePlanned found.right → CanBePlanned found.archive →
    AreApart found.left found.right → IsSynchronized preference found (after_plan preference found)

-- and the archive is that of it, without this premise, since it speaks of marks alone
abbrev pub PlanReconciles : Type 0
PlanReconciles = (preference : Option Which) (found : Trees) → CanBePlanned found.left →
    CanBePlanned found.right → CanBePlanned found.archive →
    IsReconciled preference found (after_plan preference found)

-- with a preference both sides are equal after it, and the archive has their marks
pub record AreEqual (after : Trees) : Type 0 where
  pub sides : after.left ≡ after.right
  pub archive : after.archive ≡ mark after.left

abbrev pub PreferenceSettles : Type 0
PreferenceSettles = (side : Which) (found after : Trees) → IsSynchronized (Some side) found after →
    IsReconciled (Some side) found after → AreEqual after
