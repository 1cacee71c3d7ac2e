-- What the items of a plan leave of a folder, a replica and marks, where some are refused.
use Rattle.std.specs.Prelude.{◌≡◌, ◌++◌, ℕ, List, fold, map, Option, Some, None}
use Rattle.std.specs.List.{AllByRecursion}
use Rattle.syn_archive.specs.Archive as archive
use Rattle.syn_archive.specs.declared.archive.Archive.{Archive}
use Rattle.syn_disk.specs.declared.disk.Disk.{Ghosts}
use Rattle.syn_model.specs.Archive as model
use Rattle.syn_model.specs.Decision.{Item}
use Rattle.syn_model.specs.Event.{Edit, Edited}
use Rattle.syn_model.specs.History.{History}
use Rattle.syn_model.specs.Plan.{Trees, after_item, plan, scan_of}
use Rattle.syn_model.specs.Tree.{Tree}
use Rattle.syn_model.specs.Which.{Which}
use Rattle.syn_recon.specs.Items.{item_of}
use Rattle.syn_refusal.specs.declared.refusal.Refusal.{Refusal}
use Rattle.syn_replica.specs.Replica as replica
use Rattle.syn_replica.specs.declared.replica.Replica.{Replica}
use Rattle.syn_reconcile.specs.Stops.{HasTree}
use Rattle.syn_reconcile.specs.declared.report.Settled.{Settled}

abbrev pub here : Tree → Tree → Tree → Trees
here left right archive = record { left = left; right = right; archive = archive }

-- the plan of the three
abbrev pub planned : Option Which → Trees → List Item
planned preference found =
    plan preference (scan_of found.left) (scan_of found.right) found.archive

-- an item that is refused leaves all as it was
abbrev pub after_settled : Trees → Item → Option Refusal → Trees
after_settled trees item None = after_item trees item
after_settled trees item (Some why) = trees

abbrev pub after_one : Trees → Settled → Trees
after_one trees settled = after_settled trees (item_of settled.item) settled.refused

-- each item that was not refused is carried out in turn
abbrev pub after_all : Trees → List Settled → Trees
after_all trees settled = fold after_one trees settled

abbrev pub items_in : List Settled → List Item
items_in settled = map (λ one. item_of one.item) settled

-- no item was refused
abbrev pub NoneRefused : List Settled → Type 0
NoneRefused settled = AllByRecursion (λ one. one.refused ≡ None) settled

-- the archive has these marks, and stands for what it shows
pub record KeepsMarks {A : Type 0} {disk : Ghosts A} (marks : Tree) (now : Archive A disk)
    : Type 0 where
  pub kept : model.Archive
  pub keeps : archive.Stands now kept
  pub are : archive.marks_shown now ≡ marks

module _ {R A : Type 0} {on_replica : Ghosts R} {on_archive : Ghosts A} where
  -- the tree of a folder and that of a replica, with the marks of an archive
  abbrev pub trees_of : Tree → Replica R on_replica → Archive A on_archive → Trees
  trees_of folder held marks = here folder (replica.tree_shown held) (archive.marks_shown marks)

  -- they are these, the replica stands for the history with edits of the user after it, and the
  -- archive for what it shows
  pub record GoesOn (user : ℕ) (history : History) (trees : Trees) (folder : Tree)
      (held : Replica R on_replica) (marks : Archive A on_archive) : Type 0 where
    pub edits : List Edit
    pub stands : replica.Stands held (history ++ map (Edited user) edits)
    pub kept : model.Archive
    pub keeps : archive.Stands marks kept
    pub are : trees_of folder held marks ≡ trees

-- The call ended before the item was carried out: the folder and the archive are as they were. Or
-- it was carried out, and what a stop leaves of the replica is what it was to get.
pub data IsCutOff {A : Type 0} {on_archive : Ghosts A} (item : Item) (pair user : ℕ)
    (history : History) (trees : Trees) (folder : Tree) (may_leave : List ℕ → Type 0)
    (was now : Archive A on_archive) : Type 0 where
  before : folder ≡ trees.left → now ≡ was
      → IsCutOff item pair user history trees folder may_leave was now
  done : folder ≡ (after_item trees item).left
      → ((bytes : List ℕ) → may_leave bytes
      → HasTree pair user history (after_item trees item).right bytes)
      → IsCutOff item pair user history trees folder may_leave was now

-- In the folder the item was carried out, unless it was refused, and the archive has the marks
pub record IsCarried {A : Type 0} {on_archive : Ghosts A} (item : Item) (refused : Option Refusal)
    (trees : Trees) (folder : Tree) (now : Archive A on_archive) : Type 0 where
  pub left : folder ≡ (after_settled trees item refused).left
  pub marks : KeepsMarks (after_settled trees item refused).archive now

-- The item was not recorded, since the call ended before, or it is carried out in the folder
pub data IsLeft {A : Type 0} {on_archive : Ghosts A} (item : Item) (trees : Trees)
    (folder : Tree) (was now : Archive A on_archive) : Type 0 where
  before : folder ≡ trees.left → now ≡ was → IsLeft item trees folder was now
  done : folder ≡ (after_item trees item).left → IsLeft item trees folder was now
