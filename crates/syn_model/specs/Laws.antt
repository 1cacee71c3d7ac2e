-- What follows from the definitions, for the other crates to use.
use Rattle.std.specs.Prelude.{ℕ, ◌≤◌, List, ◌↔◌, ◌≡◌, true, false, not, ◌&&◌, nat_le, [], ◌∷◌, ◌++◌}
use Rattle.std.specs.Prelude.{length, Some, All, Option}
use Rattle.std.specs.List.{list_any}
use Rattle.std.specs.Option.{option_map_or, option_map}
use Rattle.syn_model.specs.Mark.{mark, mark_of}
use Rattle.std.specs.FinMap.{get}
use Rattle.syn_model.specs.Path.{Bytes, Path, path_cmp, path_key, key_cmp, root, comparable}
use Rattle.syn_model.specs.Path.{strip_prefix, IsName, IsPath}
use Rattle.syn_model.specs.Contents.{Contents, HasDigest}
use Rattle.syn_model.specs.Tree.{Tree, File, IsPart, IsPartIn, IsTree, StandsIn, subtree, replace}
use Rattle.syn_model.specs.Limits.{greatest_file, greatest_image, fits_part, fits_paths}
use Rattle.syn_model.specs.Limits.{fits_replica}
use Rattle.syn_model.specs.Standing.{Standing, new_standing, standing_after, AllAllowedAt}
use Rattle.syn_model.specs.History.{History, IsHistory, IsAllowed, AllAllowed, tree_of, standing_of}
use Rattle.syn_model.specs.History.{floor, last_touches, is_quiet}
use Rattle.syn_model.specs.Event.{Event, Put, after_edit}
use Rattle.syn_model.specs.Version.{Version}
use Rattle.syn_model.specs.Spelling.{content_spelling, spelling_in, spelling_by, event_spelling}
use Rattle.syn_model.specs.Image.{image_spelling, IsStanding, StandsFor}
use Rattle.syn_model.specs.Dirty.{Scan, Paths, dirty, IsClosedUpward, IsSafeEstimate}
use Rattle.syn_model.specs.Which.{Which}
use Rattle.syn_model.specs.Reconcile.{IsSynchronization}

-- trees with the same at each path are one
abbrev pub SameAtEachPath : Type 0
SameAtEachPath = (t u : Tree) → ((path : Path) → get t path ≡ get u path) → t ≡ u

-- a subtree has at a path what the tree has there below its root
abbrev pub SubtreeHas : Type 0
SubtreeHas = (tree : Tree) (at path : Path) → get (subtree tree at) path ≡ get tree (at ++ path)

-- a replaced tree has below the place what the new part has, and elsewhere what it had
abbrev pub ReplacedHas : Type 0
ReplacedHas = (tree : Tree) (at : Path) (new : Tree) (path : Path) →
    get (replace tree at new) path ≡ option_map_or (λ rest. get new rest) (strip_prefix at path)
    (get tree path)

-- what is put somewhere is there
abbrev pub ReplacedIsThere : Type 0
ReplacedIsThere = (tree : Tree) (at : Path) (new : Tree) → subtree (replace tree at new) at ≡ new

-- and every subtree that is not touched stays
abbrev pub OthersStay : Type 0
OthersStay = (tree : Tree) (at : Path) (new : Tree) (path : Path) → comparable at path ≡ false →
    subtree (replace tree at new) path ≡ subtree tree path

-- a part put where it may stand leaves a part
abbrev pub ReplacedIsPart : Type 0
ReplacedIsPart = (tree : Tree) (at : Path) (new : Tree) → IsPart tree → IsPart new →
    StandsIn tree at → All IsName at → IsPart (replace tree at new)

-- a subtree of a part is a part, and keeps its limits
abbrev pub SubtreeIsPart : Type 0
SubtreeIsPart = (tree : Tree) (at : Path) → IsPart tree → IsPart (subtree tree at)

abbrev pub SubtreeFits : Type 0
SubtreeFits = (tree : Tree) (at : Path) → fits_part tree ≡ true → fits_part (subtree tree at) ≡ true

abbrev pub SubtreeFitsPaths : Type 0
SubtreeFitsPaths = (tree : Tree) (at : Path) → fits_paths tree ≡ true →
    fits_paths (subtree tree at) ≡ true

-- The spelling of a part is made of what stands at its root and the spellings of the parts below,
-- and so is that of marks.
abbrev pub SpellingUnfolds : Type 0
SpellingUnfolds = (file : Contents → Bytes) (t : Tree) →
    spelling_by file t ≡ content_spelling file (spelling_by file) t (get t root)

-- In no version does the spelling of a part begin that of another, so that it tells its part.
abbrev pub NoSpellingBeginsAnother : Type 0
NoSpellingBeginsAnother = (version : Version) (t u : Tree) (r s : Bytes) → IsPartIn version t →
    IsPartIn version u → fits_part t ≡ true → fits_part u ≡ true →
    spelling_in version t ++ r ≡ spelling_in version u ++ s → (t ≡ u) × (r ≡ s)

-- the paths that a scan shows as dirty are a safe estimate, closed upward
abbrev pub DirtyIsClosed : Type 0
DirtyIsClosed = (scan : Scan) (archive : Tree) → IsClosedUpward (dirty scan archive)

abbrev pub DirtyIsSafe : Type 0
DirtyIsSafe = (scan : Scan) (archive : Tree) →
    IsSafeEstimate (dirty scan archive) archive scan.marks

-- two trees with what is dirty on each side have one synchronization at most
abbrev pub OneSynchronization : Type 0
OneSynchronization = (preference : Option Which) (left right : Tree)
    (dirty_left dirty_right : Paths) (a b c d : Tree) →
    IsSynchronization preference left right dirty_left dirty_right a b →
    IsSynchronization preference left right dirty_left dirty_right c d → (a ≡ c) × (b ≡ d)

-- where nothing is dirty, both sides were equal and stay
abbrev pub NothingToDo : Type 0
NothingToDo = (preference : Option Which) (left right : Tree) (dirty_left dirty_right : Paths)
    (left' right' : Tree) →
    IsSynchronization preference left right dirty_left dirty_right left' right' →
    dirty_left root ≡ false → dirty_right root ≡ false →
    (left' ≡ left) × (left' ≡ right) × (right' ≡ left) × (right' ≡ right)

-- what allowed events leave is a tree
abbrev pub HistoryIsTree : Type 0
HistoryIsTree = (history : History) → IsHistory history → IsTree (tree_of history)

-- within the limits of a replica
abbrev pub HistoryFits : Type 0
HistoryFits = (history : History) → IsHistory history → fits_replica (tree_of history) ≡ true

-- where a put that fits is no longer than a file may be
abbrev pub PutFits : Type 0
PutFits = (tree : Tree) (path : Path) (bytes : Bytes) →
    fits_replica (after_edit tree (Put path bytes)) ≡ true → length bytes ≤ greatest_file

-- and a history with an allowed event is one
abbrev pub AllowedGoesOn : Type 0
AllowedGoesOn = (history : History) (event : Event) → IsHistory history → IsAllowed history event →
    IsHistory (history ++ event ∷ [])

-- marks are taken path by path, and so of each subtree
abbrev pub MarkHas : Type 0
MarkHas = (tree : Tree) (path : Path) → get (mark tree) path ≡ option_map mark_of (get tree path)

abbrev pub MarkOfSubtree : Type 0
MarkOfSubtree = (tree : Tree) (path : Path) → mark (subtree tree path) ≡ subtree (mark tree) path

-- and each of its files is a digest
abbrev pub MarkIsDigests : Type 0
MarkIsDigests = (tree : Tree) (path : Path) (contents : Contents) →
    get (mark tree) path ≡ Some (File contents) → HasDigest contents

-- one more event takes what an image keeps of a history one step on
abbrev pub StandingSteps : Type 0
StandingSteps = (history : History) (event : Event) →
    standing_of (history ++ event ∷ []) ≡ standing_after (standing_of history) event

-- and what is allowed there is what is allowed after the history
abbrev pub StandingAllows : Type 0
StandingAllows = (history : History) (events : List Event) →
    AllAllowedAt (standing_of history) events ↔ AllAllowed history events

-- and its touches tell what was touched since a position, from the floor on
abbrev pub TouchesTell : Type 0
TouchesTell = (history : History) (since : ℕ) (path : Path) → floor history ≤ since →
    not (is_quiet history since (length history) path)
    ≡ list_any (λ touch. nat_le since touch.position && comparable touch.path path)
    (last_touches history)

-- what is formatted stands for the empty history
abbrev pub FormattedStands : Type 0
FormattedStands = (pair : ℕ) → StandsFor pair (image_spelling pair new_standing) [] []

-- and with the payload of an allowed event it stands for the history with that event
abbrev pub PayloadGoesOn : Type 0
PayloadGoesOn = (pair : ℕ) (image : Bytes) (payloads : List Bytes) (history : History)
    (event : Event) →
    StandsFor pair image payloads history → IsAllowed history event →
    StandsFor pair image (payloads ++ event_spelling event ∷ []) (history ++ event ∷ [])

-- and the image of what is kept of a history, with no payload, stands for it
abbrev pub ImageStands : Type 0
ImageStands = (pair : ℕ) (history : History) → IsHistory history →
    StandsFor pair (image_spelling pair (standing_of history)) [] history

-- each lawful image fits, so a replica's
abbrev pub ImagesFit : Type 0
ImagesFit = (pair : ℕ) (standing : Standing) → IsStanding standing →
    length (image_spelling pair standing) ≤ greatest_image

-- of whatever history
abbrev pub HistoryImagesFit : Type 0
HistoryImagesFit = (pair : ℕ) (history : History) → IsHistory history →
    length (image_spelling pair (standing_of history)) ≤ greatest_image

-- the order of lawful paths is a byte order
abbrev pub PathsGoByKey : Type 0
PathsGoByKey = (p q : Path) → IsPath p → IsPath q → path_cmp p q ≡ key_cmp (path_key p) (path_key q)
