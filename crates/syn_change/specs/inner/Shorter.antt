-- The files that become shorter, and the edits that put them.
use Rattle.std.specs.Prelude.{◌≡◌, Bool, true, false, nat_lt, length, if◌then◌else◌}
use Rattle.std.specs.Prelude.{Option, Some, List, ◌++◌, map}
use Rattle.std.specs.FinMap.{get}
use Rattle.std.specs.List.{AllByRecursion}
use Rattle.syn_model.specs.Event.{Edit, Put, put_contents}
use Rattle.syn_model.specs.Path.{Bytes, Path}
use Rattle.syn_model.specs.Tree.{Tree, Content, Directory, File, Pair}
use Rattle.syn_tree.specs.Edits.{edit_of}
use Rattle.syn_tree.specs.declared.edit.Edit.{Edit as Planned}
use Rattle.syn_change.specs.Changes.{HasBytes, StaysElsewhere}

-- a file with more bytes than these is there
abbrev pub is_longer : Option Content → Bytes → Bool
is_longer (Some (File there)) bytes = nat_lt (length bytes) (length there.bytes)
is_longer _ bytes = false

-- what is there after a file that is longer than the wanted one is put: it keeps its mode
abbrev pub shortened : Option Content → Option Content → Option Content
shortened there (Some (File wanted)) =
    if is_longer there wanted.bytes then Some (File (put_contents there wanted.bytes)) else there
shortened there _ = there

-- each file that is longer than the wanted one has the wanted bytes now, and all else is as it was
abbrev pub AreShortened : Tree → Tree → Tree → Type 0
AreShortened old wanted new =
    (path : Path) → get new path ≡ shortened (get old path) (get wanted path)

-- the same of the file at the pair's path alone
pub record IsShortenedAt (old : Tree) (pair : Pair) (new : Tree) : Type 0 where
  pub there : get new pair.0 ≡ shortened (get old pair.0) (Some pair.1)
  pub elsewhere : StaysElsewhere old pair.0 new

-- the edit puts the wanted bytes where a file with more bytes is
abbrev pub Shortens : Tree → Tree → Edit → Type 0
Shortens old wanted (Put path bytes) = HasBytes wanted path bytes
    × (is_longer (get old path) bytes ≡ true)
Shortens old wanted _ = ⊥

-- the edit puts the pair's bytes where a file with more bytes is
abbrev pub ShortensTo : Tree → Pair → Edit → Type 0
ShortensTo old (path, Directory) edit = ⊥
ShortensTo old (path, File contents) edit = (edit ≡ Put path contents.bytes)
    × (is_longer (get old path) contents.bytes ≡ true)

-- the edits have gone on, first by all those that shorten a file
pub record IsShorterFirst (old wanted : Tree) (edits more : List Planned) : Type 0 where
  pub first : List Edit
  pub rest : List Edit
  pub are : map edit_of more ≡ map edit_of edits ++ first ++ rest
  pub shorten : AllByRecursion (Shortens old wanted) first
  pub others : AllByRecursion (λ edit. ¬ Shortens old wanted edit) rest
