-- What items that are carried out or refused leave.
use Rattle.std.proofs.Common.{◌≡◌, ◌∙◌, ◌++◌, ◌∷◌, [], ℕ, List, fold, map}
use Rattle.std.proofs.Common.{ap, append-nil, append_assoc, inl, inr, refl, subst, sym}
use Rattle.std.proofs.lemmas.List.{map-append}
use Rattle.syn_archive.specs.Archive.{Stands as Keeps, marks_shown}
use Rattle.syn_archive.specs.declared.archive.Archive.{Archive}
use Rattle.syn_change.specs.Changes.{AreChanges, after_edits}
use Rattle.syn_disk.proofs.LeftLemmas.{leaves_weaker}
use Rattle.syn_disk.specs.declared.disk.Disk.{Ghosts}
use Rattle.syn_model.proofs.HistoryLemmas.{tree_of-append}
use Rattle.syn_model.specs.Archive as model
use Rattle.syn_model.specs.Event.{Edited, after_event}
use Rattle.syn_model.specs.History.{History, tree_of}
use Rattle.syn_model.specs.Plan.{Trees}
use Rattle.syn_model.specs.Standing.{Standing}
use Rattle.syn_model.specs.Tree.{Tree}
use Rattle.syn_replica.proofs.StandLemmas.{keeps_now, keeps_stands}
use Rattle.syn_replica.specs.Disks.{DiskStands}
use Rattle.syn_replica.specs.Edits.{event_by}
use Rattle.syn_replica.specs.Replica.{Stands, disk_of, pair_of, tree_shown}
use Rattle.syn_replica.specs.WithRoom.{NoneOrAll}
use Rattle.syn_replica.specs.declared.replica.Replica.{Replica}
use Rattle.syn_tree.specs.Edits.{edit_of}
use Rattle.syn_tree.specs.declared.edit.Edit.{Edit as Planned}
use Rattle.syn_replica.proofs.WithRoomLemmas.{Leaves, still}
use Rattle.syn_reconcile.specs.Settlings.{GoesOn, KeepsMarks, here, trees_of}
use Rattle.syn_reconcile.specs.Stops.{HasEitherTree, HasTree}

-- the tree of a history with edits of a user after it
edits_after : (tree : Tree) (user : ℕ) (edits : List Planned)
    → fold after_event tree (map (event_by user) edits) ≡ after_edits tree (map edit_of edits)
edits_after tree user [] = refl
edits_after tree user (e ∷ es) = edits_after (after_event tree (event_by user e)) user es

-- the edits of the code as those of the model
pub as_edits : (user : ℕ) (edits : List Planned)
    → map (event_by user) edits ≡ map (Edited user) (map edit_of edits)
as_edits user [] = refl
as_edits user (e ∷ es) = ap (λ more. event_by user e ∷ more) (as_edits user es)

module _ {R : Type 0} {disk : Ghosts R} (held : Replica R disk) (history : History)
    (stands : Stands held history) where
  pub shown_is : tree_of history ≡ tree_shown held
  shown_is = sym (ap (λ (s : Standing). s.tree) stands.remembers.standing)

  -- without edits
  pub has_now : (user : ℕ) (bytes : List ℕ) → DiskStands (pair_of held) bytes history
      → HasTree (pair_of held) user history (tree_shown held) bytes
  has_now user bytes on_disk = record {
    edits = [];
    stands = subst (DiskStands (pair_of held) bytes) (sym (append-nil history)) on_disk;
    leaves = ap tree_of (append-nil history) ∙ shown_is;
  }

  -- what a stop leaves now
  pub left_now : (bytes : List ℕ) → disk.may_leave (disk_of held) bytes
      → DiskStands (pair_of held) bytes history
  left_now bytes left =
      subst (λ b. DiskStands (pair_of held) b history) (sym (stands.runs.durable bytes left))
      (keeps_stands (keeps_now held history stands))

  module _ (user : ℕ) (wanted : Tree) (edits : List Planned)
      (changes : AreChanges (tree_shown held) wanted (map edit_of edits)) where
    -- with the edits
    pub then_tree : tree_of (history ++ map (event_by user) edits) ≡ wanted
    then_tree =
        tree_of-append history (map (event_by user) edits)
        ∙ (edits_after (tree_of history) user edits
        ∙ (ap (λ (t : Tree). after_edits t (map edit_of edits)) shown_is ∙ changes.make))

    pub has_then : (pair : ℕ) (bytes : List ℕ)
        → DiskStands pair bytes (history ++ map (event_by user) edits)
        → HasTree pair user history wanted bytes
    has_then pair bytes on_disk = record {
      edits = map edit_of edits;
      stands = subst (λ es. DiskStands pair bytes (history ++ es)) (as_edits user edits) on_disk;
      leaves = ap (λ es. tree_of (history ++ es)) (sym (as_edits user edits)) ∙ then_tree;
    }

    has_either : (bytes : List ℕ)
        → NoneOrAll (pair_of held) history (map (event_by user) edits) bytes
        → HasEitherTree (pair_of held) user history (tree_shown held) wanted bytes
    has_either bytes (inl before) = inl (has_now user bytes before)
    has_either bytes (inr after) = inr (has_then (pair_of held) bytes after)

    pub leaves_either : (new : R)
        → Leaves held new (NoneOrAll (pair_of held) history (map (event_by user) edits))
        → Leaves held new (HasEitherTree (pair_of held) user history (tree_shown held) wanted)
    leaves_either new leaves =
        leaves_weaker disk.moment disk.left_since (disk_of held) new
        (NoneOrAll (pair_of held) history (map (event_by user) edits))
        (HasEitherTree (pair_of held) user history (tree_shown held) wanted) has_either leaves

  -- nothing is written
  pub leaves_still : (only_now : (d : R) (c : List ℕ) → disk.left_since d (disk.moment d) c
      → disk.may_leave d c) (user : ℕ) (wanted : Tree)
      → Leaves held (disk_of held)
      (HasEitherTree (pair_of held) user history (tree_shown held) wanted)
  leaves_still only_now user wanted =
      leaves_weaker disk.moment disk.left_since (disk_of held) (disk_of held)
      (λ bytes. DiskStands (pair_of held) bytes history)
      (HasEitherTree (pair_of held) user history (tree_shown held) wanted)
      (λ bytes on_disk. inl (has_now user bytes on_disk)) (still only_now held history stands)

module _ {R A : Type 0} {on_replica : Ghosts R} {on_archive : Ghosts A} where
  -- nothing was edited
  pub stays : (user : ℕ) (history : History) (trees : Trees) (folder : Tree)
      (held : Replica R on_replica) (marks : Archive A on_archive) (kept : model.Archive)
      → Stands held history → Keeps marks kept → trees_of folder held marks ≡ trees
      → GoesOn user history trees folder held marks
  stays user history trees folder held marks kept stands keeps are = record {
    edits = [];
    stands = subst (Stands held) (sym (append-nil history)) stands;
    kept = kept;
    keeps = keeps;
    are = are;
  }

  -- edits were made that leave the wanted tree
  pub edited : (user : ℕ) (history : History) (folder : Tree) (old new : Replica R on_replica)
      (marks : Archive A on_archive) (wanted recorded : Tree) (edits : List Planned)
      → Stands old history → AreChanges (tree_shown old) wanted (map edit_of edits)
      → Stands new (history ++ map (event_by user) edits) → KeepsMarks recorded marks
      → GoesOn user history (here folder wanted recorded) folder new marks
  edited user history folder old new marks wanted recorded edits stood changes stands keeps =
      record {
        edits = map edit_of edits;
        stands = subst (λ es. Stands new (history ++ es)) (as_edits user edits) stands;
        kept = keeps.kept;
        keeps = keeps.keeps;
        are =
            ap (λ (t : Tree). here folder t (marks_shown marks))
            (sym (shown_is new (history ++ map (event_by user) edits) stands)
            ∙ then_tree old history stood user wanted edits changes)
            ∙ ap (λ (m : Tree). here folder wanted m) keeps.are;
      }

  -- edits after edits
  pub goes_further : (user : ℕ) (history : History) (before after : Trees) (folder : Tree)
      (held : Replica R on_replica) (marks : Archive A on_archive)
      (was : Tree) (had : Replica R on_replica) (marked : Archive A on_archive)
      (on : GoesOn user history before was had marked)
      → GoesOn user (history ++ map (Edited user) on.edits) after folder held marks
      → GoesOn user history after folder held marks
  goes_further user history before after folder held marks was had marked on more = record {
    edits = on.edits ++ more.edits;
    stands =
        subst (Stands held) (append_assoc history (map (Edited user) on.edits)
        (map (Edited user) more.edits)
        ∙ ap (λ es. history ++ es) (sym (map-append (Edited user) on.edits more.edits)))
        more.stands;
    kept = more.kept;
    keeps = more.keeps;
    are = more.are;
  }
