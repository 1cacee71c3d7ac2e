-- What comes of a folder and a replica that others go on editing.
use mathlib.Core.List.{IsPrefix}
use Rattle.std.specs.Prelude.{◌≡◌, ◌≢◌, ◌<◌, ◌⊎◌, ◌++◌, ◌∷◌, [], ℕ, List, Option, None, Some}
use Rattle.std.specs.Prelude.{Ok, Err, IfNone, fold}
use Rattle.std.specs.FinMap.{len}
use Rattle.std.specs.List.{AllByRecursion}
use Rattle.syn_archive.specs.Archive.{disk_of, marks_shown, pair_of}
use Rattle.syn_archive.specs.declared.archive.Archive.{Archive}
use Rattle.syn_disk.specs.declared.disk.Disk.{Ghosts}
use Rattle.syn_folder.specs.declared.stranger.Stranger.{Stranger}
use Rattle.syn_lock.specs.History.{end_of}
use Rattle.syn_lock.specs.Locks.{origin_of}
use Rattle.syn_lock.specs.Passes.{view_of}
use Rattle.syn_lock.specs.declared.own.Pass.{Pass}
use Rattle.syn_lock.specs.declared.view.Hold.{Hold}
use Rattle.syn_model.specs.Decision.{Item, ToRight}
use Rattle.syn_model.specs.History.{History}
use Rattle.syn_model.specs.Mark.{AreApart}
use Rattle.syn_model.specs.Path.{Path}
use Rattle.syn_model.specs.Plan.{IsReconciled, IsSynchronized, Trees, after_item, after_plan}
use Rattle.syn_model.specs.Tree.{Tree, subtree}
use Rattle.syn_recon.specs.Items.{item_of}
use Rattle.syn_refusal.specs.Refusals.{cause_of}
use Rattle.syn_refusal.specs.declared.refusal.Refusal.{Refusal}
use Rattle.syn_replica.specs.Replica.{Stands}
use Rattle.syn_replica.specs.declared.replica.Replica.{Replica}
use Rattle.syn_shared.specs.Parts.{Puts, Takes}
use Rattle.syn_shared.specs.Shared.{HeldAfterWait, own_of}
use Rattle.syn_shared.specs.declared.parts.Snapshot.{Snapshot}
use Rattle.syn_shared.specs.declared.shared.SharedReplica.{SharedReplica}
use Rattle.syn_replica.specs.ErrorRefusals.{refusal_of}
use Rattle.syn_replica.specs.declared.error.ReplicaError.{ReplicaError}
use Rattle.syn_reconcile.specs.Settlings.{GoesOn, KeepsMarks, NoneRefused, after_settled, here}
use Rattle.syn_reconcile.specs.Settlings.{items_in, planned, trees_of}
use Rattle.syn_reconcile.specs.Stops.{HasEitherMarks, HasMarks}
use Rattle.syn_reconcile.specs.Strangers.{LeavesAlone}
use Rattle.syn_reconcile.specs.UnderWay.{IsPartOf}
use Rattle.syn_reconcile.specs.declared.checks.WhenEmpty.{WhenEmpty}
use Rattle.syn_reconcile.specs.declared.checks.WhenEmpty.TheVariants.{Refuse}
use Rattle.syn_reconcile.specs.declared.report.Settled.{Settled}

-- What an item leaves of the folder and of the marks. The tree of the replica is the one that was
-- seen: what others make of it is not known
abbrev pub beside : Trees → Item → Option Refusal → Trees
beside trees item refused =
    let then = after_settled trees item refused in here then.left trees.right then.archive

abbrev pub after_seen : Trees → Settled → Trees
after_seen trees one = beside trees (item_of one.item) one.refused

-- each item that was not refused is carried out in turn
abbrev pub after_all_seen : Trees → List Settled → Trees
after_all_seen trees settled = fold after_seen trees settled

-- the item is for the replica
abbrev pub IsForReplica : Item → Type 0
IsForReplica (ToRight path) = Unit {0}
IsForReplica _ = ⊥

-- each item that is carried out leaves what can stand in no replica alone
abbrev pub LeaveAlone : List Stranger → Tree → List Settled → Type 0
LeaveAlone strangers seen settled =
    AllByRecursion (λ one. IfNone one.refused (LeavesAlone strangers seen (item_of one.item)))
    settled

module _ {R : Type 0} {disk : Ghosts R} (shared : SharedReplica R disk) (user since : ℕ) where
  -- What is for the replica is put there in one hold of its lock, unless somebody touched its path
  -- since. It is not refused only where it is there then. No other item enters the lock
  pub data HoldsFor (folder : Tree) : Item → Option Refusal → Pass (Replica R disk)
      → Pass (Replica R disk) → Type 0 where
    puts : (path : Path) (position : ℕ) (old new : Pass (Replica R disk))
        → HeldAfterWait shared old new (Puts user path since (subtree folder path) (Ok position))
        → HoldsFor folder (ToRight path) None old new
    refuses : (path : Path) (e : ReplicaError) (why : Refusal) (old new : Pass (Replica R disk))
        → HeldAfterWait shared old new (Puts user path since (subtree folder path) (Err e))
        → refusal_of e ≡ cause_of why → HoldsFor folder (ToRight path) (Some why) old new
    rests : (item : Item) (refused : Option Refusal) (pass : Pass (Replica R disk))
        → IfNone refused (¬ IsForReplica item) → HoldsFor folder item refused pass pass

  -- the items hold the lock one after the other
  pub data HoldInTurn (found : Trees) : List Settled → Pass (Replica R disk)
      → Pass (Replica R disk) → Type 0 where
    none : (pass : Pass (Replica R disk)) → HoldInTurn found [] pass pass
    more : (settled : List Settled) (one : Settled) (old before new : Pass (Replica R disk))
        → HoldInTurn found settled old before
        → HoldsFor (after_all_seen found settled).left (item_of one.item) one.refused before new
        → HoldInTurn found (settled ++ one ∷ []) old new

-- the folder and the marks are these
pub record IsBeside {A : Type 0} {on_archive : Ghosts A} (trees : Trees) (left : Tree)
    (marked : Archive A on_archive) : Type 0 where
  pub folder : left ≡ trees.left
  pub marks : KeepsMarks trees.archive marked

-- The call ended before the item was carried out: it was refused, and folder and archive are as
-- they were. Or it was carried out, and its record may be missing
pub data IsUnrecorded {A : Type 0} {on_archive : Ghosts A} (item : Item) (trees : Trees)
    (folder : Tree) (was now : Archive A on_archive) (holds : Option Refusal → Type 0)
    : Type 0 where
  undone : (why : Refusal) → folder ≡ trees.left → now ≡ was → holds (Some why)
      → IsUnrecorded item trees folder was now holds
  done : folder ≡ (after_item trees item).left → holds None
      → IsUnrecorded item trees folder was now holds

-- an archive's disk has the marks of before, or those with the item, and then this holds
abbrev pub HasEitherHeld : ℕ → Tree → Tree → Type 0 → List ℕ → Type 0
HasEitherHeld pair old new held bytes = HasMarks pair old bytes
    ⊎ (HasMarks pair new bytes × held)

module _ {R : Type 0} {on_replica : Ghosts R} (shared : SharedReplica R on_replica) where
  -- the replica as the pass saw it last
  abbrev pub seen_last : Pass (Replica R on_replica) → Replica R on_replica
  seen_last pass = end_of (origin_of (own_of shared)) (view_of pass).seen

  -- From the one to the other moment of a pass nobody else edited: each hold of another pass left
  -- the history that the replica stood for, as one that reads does, a checkpoint, or an edit that
  -- is refused
  abbrev pub NobodyEdits : Pass (Replica R on_replica) → Pass (Replica R on_replica) → Type 0
  NobodyEdits old new = (before after : List (Hold (Replica R on_replica)))
      (one : Hold (Replica R on_replica)) → (view_of new).seen ≡ before ++ one ∷ after
      → IsPrefix (view_of old).seen before → one.pass ≢ (view_of new).number
      → (history : History) → Stands one.found history → Stands one.left history

  module _ (user : ℕ) where
    -- An archive's disk has the marks that the first of the items leave. What of these is for the
    -- replica was put there before, in holds of its lock
    pub record HasSeenMarks (since pair : ℕ) (items : List Item) (found : Trees)
        (old : Pass (Replica R on_replica)) (bytes : List ℕ) : Type 0 where
      pub settled : List Settled
      pub part : IsPartOf items settled
      pub now : Pass (Replica R on_replica)
      pub holds : HoldInTurn shared user since found settled old now
      pub has : HasMarks pair (after_all_seen found settled).archive bytes

    -- it has the marks of before, or what the replica has was seen in one hold, and it has those of
    -- the plan's items
    pub data HasSharedMarks {A : Type 0} {on_archive : Ghosts A} (folder : Tree)
        (marks : Archive A on_archive) (old : Pass (Replica R on_replica)) (bytes : List ℕ)
        : Type 0 where
      at_first : HasMarks (pair_of marks) (marks_shown marks) bytes
          → HasSharedMarks folder marks old bytes
      during : (seen : Snapshot) (first : Pass (Replica R on_replica))
          → HeldAfterWait shared old first (Takes (Ok seen))
          → HasSeenMarks seen.position (pair_of marks)
          (planned None (here folder seen.tree (marks_shown marks)))
          (here folder seen.tree (marks_shown marks)) first bytes
          → HasSharedMarks folder marks old bytes

    -- The items were carried out up to one of them, and what was for the replica is there. Of the
    -- next one nothing is in the folder or the marks; or it is carried out, and only its record
    -- may be missing
    pub data IsCutShort {A : Type 0} {on_archive : Ghosts A} (since pair : ℕ)
        (items : List Item) (found : Trees) (old new : Pass (Replica R on_replica)) (left : Tree)
        (marked : Archive A on_archive) : Type 0 where
      between : (settled : List Settled) → IsPartOf items settled
          → IsBeside (after_all_seen found settled) left marked
          → HoldInTurn shared user since found settled old new
          → IsCutShort since pair items found old new left marked
      undone : (settled : List Settled) (item : Item) (others : List Item) (why : Refusal)
          (mid : Pass (Replica R on_replica)) → items ≡ items_in settled ++ item ∷ others
          → IsBeside (after_all_seen found settled) left marked
          → HoldInTurn shared user since found settled old mid
          → HoldsFor shared user since (after_all_seen found settled).left item (Some why) mid new
          → IsCutShort since pair items found old new left marked
      done : (settled : List Settled) (item : Item) (others : List Item)
          (mid : Pass (Replica R on_replica)) → items ≡ items_in settled ++ item ∷ others
          → left ≡ (after_item (after_all_seen found settled) item).left
          → ((bytes : List ℕ) → on_archive.may_leave (disk_of marked) bytes
          → HasEitherMarks pair (after_all_seen found settled).archive
          (after_item (after_all_seen found settled) item).archive bytes)
          → HoldInTurn shared user since found settled old mid
          → HoldsFor shared user since (after_all_seen found settled).left item None mid new
          → IsCutShort since pair items found old new left marked

module _ {R A : Type 0} {on_replica : Ghosts R} {on_archive : Ghosts A} where
  -- What the replica has was seen in one hold, and of that the plan was made. Its items leave the
  -- folder and the marks so, and what was for the replica was put there in holds of its lock
  pub record IsSharedRun (shared : SharedReplica R on_replica) (user : ℕ) (when_empty : WhenEmpty)
      (strangers : List Stranger) (folder : Tree) (marks : Archive A on_archive)
      (old new : Pass (Replica R on_replica)) (left : Tree) (marked : Archive A on_archive)
      (settled : List Settled) : Type 0 where
    pub seen : Snapshot
    pub before : Pass (Replica R on_replica)
    pub took : HeldAfterWait shared old before (Takes (Ok seen))
    pub plan : items_in settled ≡ planned None (here folder seen.tree (marks_shown marks))
    pub leave : IsBeside (after_all_seen (here folder seen.tree (marks_shown marks)) settled)
        left marked
    pub holds : HoldInTurn shared user seen.position
        (here folder seen.tree (marks_shown marks)) settled before new
    pub apart : LeaveAlone strangers seen.tree settled
    pub emptied : when_empty ≡ Refuse → 1 < len (marks_shown marks)
        → (1 < len folder) × (1 < len seen.tree)
    pub pair : pair_of marks ≡ seen.pair
    -- where no item was refused, folder and marks are what the plan leaves
    pub whole : NoneRefused settled
        → (left ≡ (after_plan None (here folder seen.tree (marks_shown marks))).left)
        × (marks_shown marked
        ≡ (after_plan None (here folder seen.tree (marks_shown marks))).archive)
    -- and where nobody else edited since the plan, the replica is that, too, by edits of the user
    pub alone : NoneRefused settled → NobodyEdits shared before new → (history : History)
        → Stands (seen_last shared before) history
        → GoesOn user history (after_plan None (here folder seen.tree (marks_shown marks)))
        left (seen_last shared new) marked
    -- so all three are what the definition of a synchronization asks
    pub synchronized : NoneRefused settled → NobodyEdits shared before new → (history : History)
        → Stands (seen_last shared before) history → AreApart folder seen.tree
        → IsSynchronized None (here folder seen.tree (marks_shown marks))
        (trees_of left (seen_last shared new) marked)
    pub reconciled : NoneRefused settled → NobodyEdits shared before new → (history : History)
        → Stands (seen_last shared before) history
        → IsReconciled None (here folder seen.tree (marks_shown marks))
        (trees_of left (seen_last shared new) marked)

  -- A run that ended early: the replica was not seen, and nothing changed; or the items of the plan
  -- were carried out up to one of them
  pub data IsSharedStop (shared : SharedReplica R on_replica) (user : ℕ) (folder : Tree)
      (marks : Archive A on_archive) (old new : Pass (Replica R on_replica)) (left : Tree)
      (marked : Archive A on_archive) : Type 0 where
    unseen : (e : ReplicaError) → HeldAfterWait shared old new (Takes (Err e))
        → left ≡ folder → marked ≡ marks
        → IsSharedStop shared user folder marks old new left marked
    cut_short : (seen : Snapshot) (before : Pass (Replica R on_replica))
        → HeldAfterWait shared old before (Takes (Ok seen))
        → IsCutShort shared user seen.position (pair_of marks)
        (planned None (here folder seen.tree (marks_shown marks)))
        (here folder seen.tree (marks_shown marks)) before new left marked
        → IsSharedStop shared user folder marks old new left marked
