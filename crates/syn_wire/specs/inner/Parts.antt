-- What is read of the parts of a tree, one after the other.
use Rattle.std.specs.Prelude.{◌≡◌, ℕ, true, List, [], ◌∷◌, ◌++◌, length, flat_map, Option, Some}
use Rattle.std.specs.Prelude.{None, IsSome, Result, Ok, Err}
use Rattle.std.specs.Int.{to_be_bytes, w16}
use Rattle.std.specs.List.{AllByRecursion}
use Rattle.std.specs.FinMap.{entries, from_sorted, get}
use Rattle.syn_model.specs.Path.{Bytes, Name, Path, root, IsPath}
use Rattle.syn_model.specs.Tree.{Tree, Content, is_present}
use Rattle.syn_placed.specs.Pairs.{Pairs, AreRising, rooted, under}
use Rattle.syn_wire.specs.declared.error.ReadError.{ReadError}
use Rattle.syn_wire.specs.declared.error.ReadError.TheVariants.{Malformed}
use Rattle.syn_wire.specs.inner.Kinds.{Kind, IsContentOf, IsPartOf, spelling_of}

-- what stands at a path, within the limits there
pub record StandsAt (kind : Kind) (at : Path) (t : Tree) : Type 0 where
  pub part : IsPartOf kind t
  pub present : is_present t root ≡ true
  pub paths : (path : Path) → IsSome (get t path) → IsPath (at ++ path)

-- parts by their names in a directory
abbrev pub Parts : Type 0
Parts = List (Name × Tree)

abbrev pub parts_spelling : Kind → Parts → Bytes
parts_spelling kind parts =
    flat_map (λ part. length part.0 ∷ part.0 ++ spelling_of kind part.1) parts

abbrev pub parts_pairs : Path → Parts → Pairs
parts_pairs at parts = flat_map (λ part. under (at ++ part.0 ∷ []) (entries part.1)) parts

abbrev pub StandIn : Kind → Path → Parts → Type 0
StandIn kind at parts = AllByRecursion (λ part. StandsAt kind (at ++ part.0 ∷ []) part.1) parts

-- a path one name below another
pub record IsChildOf (above : Path) (path : Path) : Type 0 where
  pub name : Name
  pub below : path ≡ above ++ name ∷ []
  pub lawful : IsPath path

-- where the bytes begin with the spelling of what may stand at a path, its pairs are added, and the
-- rest is left
abbrev pub ReadsPart : Kind → Path → Bytes → Pairs → Pairs → Option Bytes → Type 0
ReadsPart kind at bytes old new left = (part : Tree) (rest : Bytes) → StandsAt kind at part → bytes
    ≡ spelling_of kind part ++ rest → (left ≡ Some rest) × (new ≡ old ++ under at (entries part))

-- the same of so many names of a directory
abbrev pub ReadsParts : Kind → Path → ℕ → Bytes → Pairs → Pairs → Option Bytes → Type 0
ReadsParts kind at count bytes old new left = (parts : Parts) (rest : Bytes)
    → length parts ≡ count → StandIn kind at parts → bytes ≡ parts_spelling kind parts ++ rest →
    (left ≡ Some rest) × (new ≡ old ++ parts_pairs at parts)

-- each file among the pairs may be spelled
abbrev pub AreContentsOf : Kind → Pairs → Type 0
AreContentsOf kind pairs = AllByRecursion (λ pair. IsContentOf kind pair.1) pairs

-- pairs of a part as they were read: the bytes spell their tree, if they stand in path order
pub record IsRead (kind : Kind) (bytes : Bytes) (pairs : Pairs) (rest : Bytes) : Type 0 where
  pub content : Content
  pub below : Pairs
  pub whole : pairs ≡ (root, content) ∷ below
  pub spelled : AreRising pairs → bytes ≡ spelling_of kind (from_sorted pairs) ++ rest
  pub files : AreContentsOf kind pairs

-- such pairs were added
abbrev pub PartIsRead : Kind → Path → Bytes → Pairs → Pairs → Bytes → Type 0
PartIsRead kind at bytes old new rest = (pairs : Pairs) × (new ≡ old ++ under at pairs)
    × IsRead kind bytes pairs rest

-- the same of so many names of a directory, which make it with its root
abbrev pub PartsAreRead : Kind → Path → ℕ → Bytes → Pairs → Pairs → Bytes → Type 0
PartsAreRead kind at count bytes old new rest =
    (pairs : Pairs) × (new ≡ old ++ under at pairs)
    × (AreRising (rooted pairs) → 2 ∷ to_be_bytes w16 count ++ bytes
    ≡ spelling_of kind (from_sorted (rooted pairs)) ++ rest) × AreContentsOf kind pairs

-- what is left by a read, or that nothing stood there; of a refusal of memory it says nothing
abbrev pub LeavesFor : Result (Unit {0}) ReadError → Bytes → (Option Bytes → Type 0) → Type 0
LeavesFor (Ok done) left P = P (Some left)
LeavesFor (Err error) left P = error ≡ Malformed → P None
