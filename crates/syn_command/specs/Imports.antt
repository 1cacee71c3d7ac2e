-- What an import makes of a replica.
use Rattle.std.specs.Prelude.{◌≡◌, ◌≢◌, ◌⊎◌, ◌++◌, ℕ, false, List, Some, Result, Ok, Err, map}
use Rattle.syn_change.specs.Changes.{AreChanges, IsNeeded, IsRefusedAmong}
use Rattle.syn_disk.specs.Stops.{LeavesOnly}
use Rattle.syn_disk.specs.declared.disk.Disk.{Ghosts}
use Rattle.syn_model.specs.Event.{Edit, Edited}
use Rattle.syn_model.specs.History.{History, tree_of}
use Rattle.syn_model.specs.Path.{Path, is_root}
use Rattle.syn_model.specs.Refusal.{Refusal, Device}
use Rattle.syn_model.specs.Tree.{Tree, replace}
use Rattle.syn_replica.specs.Disks.{DiskStands}
use Rattle.syn_replica.specs.Replica.{Stands, disk_of, pair_of}
use Rattle.syn_replica.specs.declared.replica.Replica.{Replica}
use Rattle.syn_folder.specs.declared.error.FolderError.TheVariants as planned
use Rattle.syn_tree.specs.Lists.{replace_refusal}
use Rattle.syn_tree.specs.Refusals.{refusal_of}
use Rattle.syn_tree.specs.declared.error.TreeError.TheVariants.{Memory}
use Rattle.syn_command.specs.declared.error.CommandError.{CommandError}
use Rattle.syn_command.specs.declared.error.CommandError.TheVariants.{Folder}

-- the disk that a call leaves: the replica's, or the one that comes back
abbrev pub disk_left : {D E : Type 0} → {disk : Ghosts D} → Result (Replica D disk) (E × D) → D
disk_left (Ok replica) = disk_of replica
disk_left (Err refused) = refused.1

-- a stop leaves the history, or that with edits of the user after it, each of which is needed and
-- which all together put the part in its place
pub data LeavesImport (pair : ℕ) (history : History) (user : ℕ) (path : Path) (part : Tree)
    (bytes : List ℕ) : Type 0 where
  before : DiskStands pair bytes history → LeavesImport pair history user path part bytes
  after : (edits : List Edit)
      → AreChanges (tree_of history) (replace (tree_of history) path part) edits
      → DiskStands pair bytes (history ++ map (Edited user) edits)
      → LeavesImport pair history user path part bytes

-- it stands for the history with edits of the user, each of which is needed and which put the part
-- in its place
pub record IsImported {D : Type 0} {disk : Ghosts D} (history : History) (user : ℕ) (path : Path)
    (part : Tree) (new : Replica D disk) : Type 0 where
  pub edits : List Edit
  pub changes : AreChanges (tree_of history) (replace (tree_of history) path part) edits
  pub stands : Stands new (history ++ map (Edited user) edits)

-- Why a plan to put the part in its place is refused: the tree refuses the part there, or one of
-- the needed edits after some of the others, or memory is refused.
abbrev pub IsPlanRefusal : Tree → Path → Tree → CommandError → Type 0
IsPlanRefusal old path part (Folder (planned.Tree error)) = error ≢ Memory
    → ((is_root path ≡ false) × (replace_refusal old path part ≡ Some (refusal_of error)))
    ⊎ IsRefusedAmong (IsNeeded old (replace old path part)) old (refusal_of error)
IsPlanRefusal old path part _ = ⊥
