-- What the calls of one thread read from the replica found, which they leave as it is.
use Rattle.std.specs.Prelude.{◌≡◌, ◌↔◌, ℕ, Bool, true, false, Some, None, Result, Err, IfOk, IfErr}
use Rattle.std.specs.FinMap.{get}
use Rattle.std.specs.Global.{Vec}
use Rattle.syn_disk.specs.declared.disk.Disk.{Ghosts}
use Rattle.syn_history.specs.Past.{past_in}
use Rattle.syn_history.specs.Status.{IsLawfulStatus, status_at, status_of}
use Rattle.syn_history.specs.declared.status.ReplicaStatus.{ReplicaStatus}
use Rattle.syn_journal.specs.declared.error.JournalError.TheVariants.{Halted}
use Rattle.syn_mark.specs.Marks.{contents_in}
use Rattle.syn_model.specs.Limits.{children, fits_content}
use Rattle.syn_model.specs.Mark.{mark}
use Rattle.syn_model.specs.Path.{Name, Path}
use Rattle.syn_model.specs.Tree.{Content, Tree as Pairs, is_directory}
use Rattle.syn_replica.specs.Refusals.{IsOneOf, reading_refusals}
use Rattle.syn_replica.specs.Replica.{IsHalted, pair_of, standing_shown, tree_shown}
use Rattle.syn_replica.specs.Replica.{position_shown}
use Rattle.syn_replica.specs.declared.error.ReplicaError.{ReplicaError}
use Rattle.syn_replica.specs.declared.error.ReplicaError.TheVariants.{Journal, Memory, Tree}
use Rattle.syn_replica.specs.declared.replica.Replica.{Replica}
use Rattle.syn_replica.specs.declared.replica.listing.Listing.{Listing}
use Rattle.syn_tree.specs.Contents.{content_of}
use Rattle.syn_tree.specs.Lists.{listing}
use Rattle.syn_tree.specs.declared.content.Content.{Content as Found}
use Rattle.syn_tree.specs.declared.error.TreeError.TheVariants.{Absent}

-- each file of the tree is within the limit of a file
abbrev pub EachFits : Pairs → Type 0
EachFits tree = (path : Path) (content : Content) → get tree path ≡ Some content
    → fits_content content ≡ true

module _ {D : Type 0} {disk : Ghosts D} (path : Path) where
  -- what stands at the path
  pub record Gets (answer : Result Found ReplicaError) (found left : Replica D disk)
      : Type 0 where
    pub same : left ≡ found
    pub content : IfOk answer (λ content. get (tree_shown found) path ≡ Some (content_of content))
    pub fits : IfOk answer (λ content. fits_content (content_of content) ≡ true)
    pub absent : (answer ≡ Err (Tree Absent))
        ↔ (¬ IsHalted found × (get (tree_shown found) path ≡ None))
    pub halted : (answer ≡ Err (Journal Halted)) ↔ IsHalted found
    pub refusals : IfErr answer (IsOneOf reading_refusals)

  -- the names in the directory in byte order, with true for a directory
  pub record Lists (answer : Result (Vec (Name × Bool)) ReplicaError) (found left : Replica D disk)
      : Type 0 where
    pub same : left ≡ found
    pub names : IfOk answer (λ names. names.items ≡ listing (tree_shown found) path)
    pub absent : (answer ≡ Err (Tree Absent))
        ↔ (¬ IsHalted found × (is_directory (tree_shown found) path ≡ false))
    pub halted : (answer ≡ Err (Journal Halted)) ↔ IsHalted found
    pub refusals : IfErr answer (IsOneOf reading_refusals)

  -- the marks of what stands in the directory, with the position
  pub record ListsMarks (answer : Result Listing ReplicaError) (found left : Replica D disk)
      : Type 0 where
    pub same : left ≡ found
    pub marks : IfOk answer (λ listing. contents_in listing.entries.items
        ≡ children (mark (tree_shown found)) path)
    pub position : IfOk answer (λ listing. listing.position ≡ position_shown found)
    pub absent : (answer ≡ Err (Tree Absent))
        ↔ (¬ IsHalted found × (is_directory (tree_shown found) path ≡ false))
    pub halted : (answer ≡ Err (Journal Halted)) ↔ IsHalted found
    pub refusals : IfErr answer (IsOneOf reading_refusals)

module _ {D : Type 0} {disk : Ghosts D} (place : ℕ) where
  -- where it is in its history, with the path that the event at the place touched
  pub record Tells (answer : Result ReplicaStatus ReplicaError) (found left : Replica D disk)
      : Type 0 where
    pub same : left ≡ found
    pub told : IfOk answer (λ told. status_of told
        ≡ status_at (pair_of found) told.halted (past_in (standing_shown found)) place)
    pub halted : IfOk answer (λ told. (told.halted ≡ true) ↔ IsHalted found)
    pub lawful : IfOk answer (λ told. IsLawfulStatus (status_of told))
    pub refusals : IfErr answer (λ e. e ≡ Memory)
