-- What a stop leaves of a replica and of marks while a folder and a replica are reconciled.
use Rattle.std.specs.Prelude.{◌≡◌, ◌⊎◌, ◌++◌, ℕ, List, map}
use Rattle.syn_archive.specs.Disks as archive
use Rattle.syn_model.specs.Archive.{Archive}
use Rattle.syn_model.specs.Event.{Edit, Edited}
use Rattle.syn_model.specs.History.{History, tree_of}
use Rattle.syn_model.specs.Tree.{Tree}
use Rattle.syn_replica.specs.Disks as replica

-- a replica's disk has the history with edits of the user after it, which leave this tree
pub record HasTree (pair user : ℕ) (history : History) (tree : Tree) (bytes : List ℕ)
    : Type 0 where
  pub edits : List Edit
  pub stands : replica.DiskStands pair bytes (history ++ map (Edited user) edits)
  pub leaves : tree_of (history ++ map (Edited user) edits) ≡ tree

-- an archive's disk has these marks
pub record HasMarks (pair : ℕ) (marks : Tree) (bytes : List ℕ) : Type 0 where
  pub kept : Archive
  pub stands : archive.DiskStands pair bytes kept
  pub are : kept.marks ≡ marks

-- it has the one or the other
abbrev pub HasEitherTree : ℕ → ℕ → History → Tree → Tree → List ℕ → Type 0
HasEitherTree pair user history before after bytes = HasTree pair user history before bytes
    ⊎ HasTree pair user history after bytes

abbrev pub HasEitherMarks : ℕ → Tree → Tree → List ℕ → Type 0
HasEitherMarks pair before after bytes = HasMarks pair before bytes ⊎ HasMarks pair after bytes
