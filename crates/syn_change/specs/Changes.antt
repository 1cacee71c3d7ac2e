-- What a list of edits makes of a tree, and which edits are needed.
use Rattle.std.specs.Prelude.{◌≡◌, ◌≢◌, ℕ, ◌⊎◌, Bool, true, false, ◌&&◌, List, ◌++◌, fold, map}
use Rattle.std.specs.Prelude.{Option, Some, None, IsSome}
use Rattle.std.specs.List.{AllByRecursion, IsDistinct}
use Rattle.std.specs.FinMap.{get}
use Rattle.std.specs.Ordering.{eq_by_cmp}
use Rattle.syn_model.specs.Contents.{contents_with}
use Rattle.syn_model.specs.Path.{Bytes, Path, path_cmp, parent}
use Rattle.syn_model.specs.Refusal.{Refusal}
use Rattle.syn_model.specs.Standing.{edit_refusal}
use Rattle.syn_model.specs.Tree.{Tree, Content, Directory, File, Pair}
use Rattle.syn_model.specs.Event.{Edit, Put, MakeDir, Remove, Chmod, after_edit, edited_path}
use Rattle.syn_model.specs.Event.{put_mode}
use Rattle.syn_tree.specs.Edits.{edit_of}
use Rattle.syn_tree.specs.declared.edit.Edit.{Edit as Planned}

-- the tree after the edits, one after the other
abbrev pub after_edits : Tree → List Edit → Tree
after_edits tree edits = fold after_edit tree edits

-- a file with these bytes is at the path, of whatever mode
abbrev pub HasBytes : Tree → Path → Bytes → Type 0
HasBytes tree path bytes = (mode : ℕ) × (get tree path ≡ Some (File (contents_with mode bytes)))

-- a file of this mode is at the path, with whatever bytes
abbrev pub HasMode : Tree → Path → ℕ → Type 0
HasMode tree path mode = (bytes : Bytes) × (get tree path ≡ Some (File (contents_with mode bytes)))

-- what is there can stay where this is wanted: both are directories, or both are files
abbrev pub can_stay : Option Content → Option Content → Bool
can_stay (Some Directory) (Some Directory) = true
can_stay (Some (File there)) (Some (File wanted)) = true
can_stay _ _ = false

-- What the edit makes is wanted at its path, and is not there in the old tree. What is removed
-- cannot stay, and its directory does: what goes with a directory is not removed by itself. A mode
-- is changed where a put would leave another.
abbrev pub IsNeeded : Tree → Tree → Edit → Type 0
IsNeeded old wanted (Put path bytes) = HasBytes wanted path bytes × ¬ HasBytes old path bytes
IsNeeded old wanted (MakeDir path) = (get wanted path ≡ Some Directory)
    × (get old path ≢ Some Directory)
IsNeeded old wanted (Remove path) = IsSome (get old path)
    × (can_stay (get old path) (get wanted path) ≡ false)
    × (get wanted (parent path) ≡ Some Directory)
IsNeeded old wanted (Chmod path mode) = HasMode wanted path mode × (put_mode (get old path) ≢ mode)

abbrev pub are_of_one_kind : Edit → Edit → Bool
are_of_one_kind (Put path bytes) (Put other more) = true
are_of_one_kind (MakeDir path) (MakeDir other) = true
are_of_one_kind (Remove path) (Remove other) = true
are_of_one_kind (Chmod path mode) (Chmod other bits) = true
are_of_one_kind _ _ = false

-- of one kind, at one path
abbrev pub are_alike : Edit → Edit → Bool
are_alike a b = are_of_one_kind a b && eq_by_cmp path_cmp (edited_path a) (edited_path b)

-- the edits make the wanted tree of the old one, each of them is needed, and no two are alike
pub record AreChanges (old wanted : Tree) (edits : List Edit) : Type 0 where
  pub make : after_edits old edits ≡ wanted
  pub needed : AllByRecursion (IsNeeded old wanted) edits
  pub once : IsDistinct are_alike edits

-- after some of the edits that have this, the tree refuses one more of them
pub record IsRefusedAmong (P : Edit → Type 0) (old : Tree) (refusal : Refusal) : Type 0 where
  pub made : List Edit
  pub next : Edit
  pub each : AllByRecursion P made
  pub this : P next
  pub refused : edit_refusal (after_edits old made) next ≡ Some refusal

-- The edits have gone on by some that have this, no two of them alike, and they make the new tree
-- of the old one.
pub record GoesOn (P : Edit → Type 0) (old : Tree) (edits : List Planned) (new : Tree)
    (more : List Planned) : Type 0 where
  pub added : List Edit
  pub are : map edit_of more ≡ map edit_of edits ++ added
  pub make : after_edits old added ≡ new
  pub each : AllByRecursion P added
  pub once : IsDistinct are_alike added

abbrev pub is_removal : Edit → Bool
is_removal (Remove path) = true
is_removal _ = false

abbrev pub IsRemoval : Tree → Tree → Edit → Type 0
IsRemoval old wanted edit = IsNeeded old wanted edit × (is_removal edit ≡ true)

abbrev pub IsAddition : Tree → Tree → Edit → Type 0
IsAddition old wanted edit = IsNeeded old wanted edit × (is_removal edit ≡ false)

-- the edit removes what is at the path of a directory and cannot stay
abbrev pub Removes : Tree → Tree → Path → Edit → Type 0
Removes old wanted path edit = (edit ≡ Remove path) × IsSome (get old path)
    × (can_stay (get old path) (get wanted path) ≡ false)
    × (get old (parent path) ≡ Some Directory)

-- the edit puts bytes, makes a directory or changes a mode where that is not there
abbrev pub PutsBytes : Tree → Path → Bytes → Edit → Type 0
PutsBytes old path bytes edit = (edit ≡ Put path bytes) × ¬ HasBytes old path bytes

abbrev pub MakesDir : Tree → Path → Edit → Type 0
MakesDir old path edit = (edit ≡ MakeDir path) × (get old path ≢ Some Directory)

abbrev pub ChangesMode : Tree → Path → ℕ → Edit → Type 0
ChangesMode old path mode edit = (edit ≡ Chmod path mode) × ¬ HasMode old path mode

-- the edit is one that the pair needs to stand in the tree
abbrev pub IsNeededFor : Tree → Pair → Edit → Type 0
IsNeededFor old (path, Directory) edit = MakesDir old path edit
IsNeededFor old (path, File contents) edit = PutsBytes old path contents.bytes edit
    ⊎ ((edit ≡ Chmod path contents.mode) × (put_mode (get old path) ≢ contents.mode))

-- all is as it was but at the path
abbrev pub StaysElsewhere : Tree → Path → Tree → Type 0
StaysElsewhere old at new = (path : Path) → path ≢ at → get new path ≡ get old path

-- the pair stands there, and elsewhere nothing changed
pub record IsPlaced (old : Tree) (pair : Pair) (new : Tree) : Type 0 where
  pub there : get new pair.0 ≡ Some pair.1
  pub elsewhere : StaysElsewhere old pair.0 new

-- what is added stands there, and where nothing is added all stays
pub record IsOverlaid (old added new : Tree) : Type 0 where
  pub there : (path : Path) (content : Content) → get added path ≡ Some content →
      get new path ≡ Some content
  pub elsewhere : (path : Path) → get added path ≡ None → get new path ≡ get old path

-- it has nothing that cannot stay
abbrev pub IsTrimmed : Tree → Tree → Type 0
IsTrimmed wanted tree = (path : Path) → IsSome (get tree path)
    → can_stay (get tree path) (get wanted path) ≡ true

-- only what cannot stay went
abbrev pub IsLess : Tree → Tree → Tree → Type 0
IsLess old wanted new = (path : Path) → (get new path ≡ get old path)
    ⊎ ((get new path ≡ None) × (can_stay (get old path) (get wanted path) ≡ false))

-- nothing is at the path that cannot stay, and elsewhere only such went
pub record IsWithout (old wanted : Tree) (path : Path) (new : Tree) : Type 0 where
  pub trimmed : IsSome (get new path) → can_stay (get new path) (get wanted path) ≡ true
  pub less : IsLess old wanted new
