-- What a folder sees of a replica in one hold, and what it puts into it.
use Rattle.std.specs.Prelude.{◌≡◌, ℕ, List, [], ◌∷◌, ◌++◌, map, None, Some, Result, Ok, Err}
use Rattle.std.specs.Prelude.{IfOk, IsErrAnd}
use Rattle.syn_change.specs.Changes.{AreChanges}
use Rattle.syn_disk.specs.declared.disk.Disk.{Ghosts}
use Rattle.syn_model.specs.Event.{Edit, Edited, Event}
use Rattle.syn_model.specs.History.{History}
use Rattle.syn_model.specs.Path.{Path}
use Rattle.syn_model.specs.Refusal.{Refusal, first_cause}
use Rattle.syn_model.specs.Tree.{Tree, replace}
use Rattle.syn_replica.specs.Replica.{Stands, pair_of, position_shown, tree_shown}
use Rattle.syn_replica.specs.declared.replica.Replica.{Replica}
use Rattle.syn_replica.specs.Causes.{since_causes}
use Rattle.syn_replica.specs.ErrorRefusals.{refusal_of}
use Rattle.syn_replica.specs.declared.error.ReplicaError.{ReplicaError}
use Rattle.syn_shared.specs.Edits.{Edits}
use Rattle.syn_shared.specs.declared.parts.Snapshot.{Snapshot}

module _ {D : Type 0} {disk : Ghosts D} where
  -- it has what the replica has
  pub record IsSnapshot (found : Replica D disk) (seen : Snapshot) : Type 0 where
    pub pair : seen.pair ≡ pair_of found
    pub position : seen.position ≡ position_shown found
    pub tree : seen.tree ≡ tree_shown found

  -- what the replica has
  pub record Takes (answer : Result Snapshot ReplicaError) (found left : Replica D disk)
      : Type 0 where
    pub same : left ≡ found
    pub seen : IfOk answer (IsSnapshot found)

  -- the events were added one after the other, each as an edit of one thread is
  pub data AddsInTurn (found : Replica D disk) : List Event → Replica D disk → Type 0 where
    none : AddsInTurn found [] found
    more : (events : List Event) (event : Event) (position : ℕ) (before left : Replica D disk)
        → AddsInTurn found events before → Edits event (Ok position) before left
        → AddsInTurn found (events ++ event ∷ []) left

  -- all of them were; or the first ones, and the next one is refused
  pub data EndsWith (found : Replica D disk) (events : List Event)
      : Result ℕ ReplicaError → Replica D disk → Type 0 where
    all : (left : Replica D disk) → AddsInTurn found events left
        → EndsWith found events (Ok (position_shown left)) left
    some : (made : List Event) (event : Event) (others : List Event) (e : ReplicaError)
        (before left : Replica D disk) → events ≡ made ++ event ∷ others
        → AddsInTurn found made before → Edits event (Err e) before left
        → EndsWith found events (Err e) left

  -- Nothing touched the path since, and edits of the user are made in turn that leave the part in
  -- the place of what is at and below it. Or it is refused, and nothing changes
  pub data PutsOrKeeps (user : ℕ) (path : Path) (since : ℕ) (part : Tree) (found : Replica D disk)
      : Result ℕ ReplicaError → Replica D disk → Type 0 where
    puts : (edits : List Edit) (answer : Result ℕ ReplicaError) (left : Replica D disk)
        → ((history : History) → Stands found history
        → first_cause (since_causes history path since) ≡ None)
        → AreChanges (tree_shown found) (replace (tree_shown found) path part) edits
        → EndsWith found (map (Edited user) edits) answer left
        → PutsOrKeeps user path since part found answer left
    keeps : (e : ReplicaError) → PutsOrKeeps user path since part found (Err e) found

  -- the replica stands for the history with edits of the user after it, and its tree has the part
  -- in the place of what was at and below the path
  pub record HasPart (user : ℕ) (path : Path) (part : Tree) (found : Replica D disk)
      (history : History) (left : Replica D disk) : Type 0 where
    pub edits : List Edit
    pub stands : Stands left (history ++ map (Edited user) edits)
    pub tree : tree_shown left ≡ replace (tree_shown found) path part

  -- a part is put in the place of what is at and below the path
  pub record Puts (user : ℕ) (path : Path) (since : ℕ) (part : Tree)
      (answer : Result ℕ ReplicaError) (found left : Replica D disk) : Type 0 where
    pub way : PutsOrKeeps user path since part found answer left
    -- where the path was touched since, it is refused for that, and nothing changes
    pub touched : (history : History) (why : Refusal) → Stands found history
        → first_cause (since_causes history path since) ≡ Some why
        → IsErrAnd answer (λ e. refusal_of e ≡ why) × (left ≡ found)
    -- Ok: the edits stand, and the part is there
    pub acknowledged : (history : History) → Stands found history
        → IfOk answer (λ _. HasPart user path part found history left)
