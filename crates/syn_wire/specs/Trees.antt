-- How trees are spelled in one walk over their pairs in path order, and which of them are read.
use Rattle.std.specs.Prelude.{◌≡◌, ℕ, true, [], ◌∷◌, ◌++◌, length, flat_map}
use Rattle.std.specs.Int.{to_be_bytes, w16}
use Rattle.std.specs.FinMap.{entries}
use Rattle.syn_model.specs.Path.{Bytes, Path, root}
use Rattle.syn_model.specs.Version.{Version, current_version}
use Rattle.syn_model.specs.Contents.{Contents, contents_front, contents_spelling}
use Rattle.syn_model.specs.Contents.{contents_spelling_in}
use Rattle.syn_model.specs.Tree.{Tree, Content, Directory, File, Pair, HasParents, IsPartIn}
use Rattle.syn_model.specs.Tree.{IsTreeIn, is_present}
use Rattle.syn_model.specs.Limits.{children, fits_part, fits_paths, fits_replica}
use Rattle.syn_model.specs.Limits.{tree_spelling_length}
use Rattle.syn_model.specs.Spelling.{spelling, spelling_in}
use Rattle.syn_wire.specs.Reads.{NoneBeginsAnother}

-- the last name with its length; the root has none
abbrev pub last_name_spelling : Path → Bytes
last_name_spelling [] = []
last_name_spelling (name ∷ []) = length name ∷ name
last_name_spelling (name ∷ next ∷ path) = last_name_spelling (next ∷ path)

-- a file, by a spelling of what it holds, or a directory with so many names
abbrev pub standing_by : (Contents → Bytes) → ℕ → Content → Bytes
standing_by file count (File contents) = 1 ∷ file contents
standing_by file count Directory = 2 ∷ to_be_bytes w16 count

-- its front: the kind, and the front of a file or the count of a directory
abbrev pub kind_spelling : ℕ → Content → Bytes
kind_spelling count (File contents) = 1 ∷ contents_front contents
kind_spelling count Directory = 2 ∷ to_be_bytes w16 count

-- a pair of the tree, without what is below it
abbrev pub pair_by : (Contents → Bytes) → Tree → Pair → Bytes
pair_by file tree pair = last_name_spelling pair.0
    ++ standing_by file (length (children tree pair.0)) pair.1

-- in a tree a file is spelled whole
abbrev pub standing_spelling : ℕ → Content → Bytes
standing_spelling count content = standing_by contents_spelling count content

abbrev pub pair_spelling : Tree → Pair → Bytes
pair_spelling tree pair = pair_by contents_spelling tree pair

-- the spelling of what is there is that of one pair after the other
abbrev pub SpellingIsWalk : Type 0
SpellingIsWalk = (version : Version) (tree : Tree) → HasParents tree →
    is_present tree root ≡ true → spelling_in version tree
    ≡ flat_map (pair_by (contents_spelling_in version) tree) (entries tree)

-- and what is written is as long as the model measures
abbrev pub SpellingIsMeasured : Type 0
SpellingIsMeasured = (tree : Tree) → HasParents tree → is_present tree root ≡ true
    → length (spelling tree) ≡ tree_spelling_length tree

-- a file, a directory with all below it, or nothing, within the limits of each and of its own paths
pub record IsOptionalTreeIn (version : Version) (t : Tree) : Type 0 where
  pub part : IsPartIn version t
  pub fits : fits_part t ≡ true
  pub paths : fits_paths t ≡ true

abbrev pub IsOptionalTree : Tree → Type 0
IsOptionalTree t = IsOptionalTreeIn current_version t

-- such a directory
pub record IsDirectoryTreeIn (version : Version) (t : Tree) : Type 0 where
  pub tree : IsTreeIn version t
  pub fits : fits_part t ≡ true
  pub paths : fits_paths t ≡ true

abbrev pub IsDirectoryTree : Tree → Type 0
IsDirectoryTree t = IsDirectoryTreeIn current_version t

-- in no version does the spelling of an optional tree begin that of another
abbrev pub NoTreeBeginsAnother : Type 0
NoTreeBeginsAnother =
    (version : Version) → NoneBeginsAnother (IsOptionalTreeIn version) (spelling_in version)

-- the tree of a replica
pub record IsWholeTreeIn (version : Version) (t : Tree) : Type 0 where
  pub tree : IsTreeIn version t
  pub fits : fits_replica t ≡ true
