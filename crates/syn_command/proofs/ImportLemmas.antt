-- What the edits of an import leave.
use Rattle.std.proofs.Common.{◌≡◌, ◌∙◌, ◌++◌, ◌∷◌, [], List, ℕ, map, fold, refl, ap, subst}
use Rattle.std.proofs.Common.{inl, inr}
use Rattle.syn_change.specs.Changes.{AreChanges, after_edits}
use Rattle.syn_model.specs.Event.{Edit, Edited, after_event}
use Rattle.syn_model.specs.History.{History, tree_of}
use Rattle.syn_model.specs.Path.{Path}
use Rattle.syn_model.specs.Standing.{Standing}
use Rattle.syn_model.specs.Tree.{Tree, empty_directory, replace, subtree}
use Rattle.syn_model.proofs.TreeLemmas.{subtree-replace}
use Rattle.syn_disk.specs.Stops.{LeavesOnly}
use Rattle.syn_disk.specs.declared.disk.Disk.{Ghosts}
use Rattle.syn_journal.proofs.Moments.{weakened}
use Rattle.syn_replica.specs.Edits.{event_by}
use Rattle.syn_replica.specs.Disks.{DiskStands}
use Rattle.syn_replica.specs.Replica.{Stands, disk_of, pair_of, tree_shown}
use Rattle.syn_replica.specs.WithRoom.{NoneOrAll}
use Rattle.syn_replica.specs.declared.replica.Replica.{Replica}
use Rattle.syn_tree.specs.Edits.{edit_of}
use Rattle.syn_tree.specs.declared.edit.Edit.{Edit as Planned}
use Rattle.syn_command.specs.Imports.{IsImported, LeavesImport, after, before}

-- the tree of a history with edits of a user after it
edits_after : (tree : Tree) (user : ℕ) (edits : List Edit) →
    fold after_event tree (map (Edited user) edits) ≡ after_edits tree edits
edits_after tree user [] = refl
edits_after tree user (e ∷ es) = edits_after (after_event tree (Edited user e)) user es

events_after : (tree : Tree) (front others : History) →
    fold after_event tree (front ++ others) ≡ fold after_event (fold after_event tree front) others
events_after tree [] others = refl
events_after tree (e ∷ front) others = events_after (after_event tree e) front others

pub tree_of-edits : (history : History) (user : ℕ) (edits : List Edit) →
    tree_of (history ++ map (Edited user) edits) ≡ after_edits (tree_of history) edits
unfolding tree_of
tree_of-edits history user edits =
    events_after empty_directory history (map (Edited user) edits)
    ∙ edits_after (fold after_event empty_directory history) user edits

-- the edits of the code as those of the model
pub mapped : {A : Type 0} (f : A → Edit) (user : ℕ) (xs : List A) →
    map (λ x. Edited user (f x)) xs ≡ map (Edited user) (map f xs)
mapped f user [] = refl
mapped f user (x ∷ xs) = ap (λ es. Edited user (f x) ∷ es) (mapped f user xs)

-- edits that were planned over the tree that a replica lends are planned over what it shows
pub planned_over : (lent shown : Tree) (path : Path) (part : Tree) (edits : List Planned)
    → lent ≡ shown → AreChanges lent (replace lent path part) (map edit_of edits)
    → AreChanges shown (replace shown path part) (map edit_of edits)
planned_over lent shown path part edits same changes =
    subst (λ (t : Tree). AreChanges t (replace t path part) (map edit_of edits)) same changes

module _ {D : Type 0} {disk : Ghosts D} (old new : Replica D disk) (user : ℕ) (path : Path)
    (part : Tree) (edits : List Planned) (history : History)
    (changes : AreChanges (tree_shown old) (replace (tree_shown old) path part)
    (map edit_of edits))
    (stood : Stands old history) (stands : Stands new (history ++ map (event_by user) edits)) where
  was : tree_shown old ≡ tree_of history
  was = ap (λ (s : Standing). s.tree) stood.remembers.standing

  made : AreChanges (tree_of history) (replace (tree_of history) path part) (map edit_of edits)
  made = planned_over (tree_shown old) (tree_of history) path part edits was changes

  pub is_imported : IsImported history user path part new
  is_imported = record {
    edits = map edit_of edits;
    changes = made;
    stands = subst (Stands new) (ap (λ es. history ++ es) (mapped edit_of user edits)) stands;
  }

  pub has_part : subtree (tree_shown new) path ≡ part
  has_part =
      let now : tree_shown new ≡ replace (tree_of history) path part =
      ap (λ (s : Standing). s.tree) stands.remembers.standing
      ∙ (ap (λ es. tree_of (history ++ es)) (mapped edit_of user edits)
      ∙ (tree_of-edits history user (map edit_of edits) ∙ made.make)) in
      ap (λ (t : Tree). subtree t path) now ∙ subtree-replace (tree_of history) path part

-- what a stop leaves from the one disk to the other
abbrev pub Leaves : {D : Type 0} → Ghosts D → D → D → (List ℕ → Type 0) → Type 0
Leaves disk old new P = LeavesOnly disk.moment disk.left_since old new P

module _ {D : Type 0} {disk : Ghosts D} (old : Replica D disk) (left : D) (user : ℕ)
    (path : Path) (part : Tree) (history : History) (stood : Stands old history) where
  -- what a stop leaves before any edit
  pub leaves_before :
      Leaves disk (disk_of old) left (λ bytes. DiskStands (pair_of old) bytes history)
      → Leaves disk (disk_of old) left
      (LeavesImport (pair_of old) history user path part)
  leaves_before still =
      weakened disk.moment disk.left_since (disk_of old) left
      (λ bytes. DiskStands (pair_of old) bytes history)
      (LeavesImport (pair_of old) history user path part) (λ bytes is. before is) still

  -- the edits that were planned put the part in its place
  pub leaves_import : (edits : List Planned)
      → AreChanges (tree_shown old) (replace (tree_shown old) path part) (map edit_of edits)
      → Leaves disk (disk_of old) left
      (NoneOrAll (pair_of old) history (map (event_by user) edits))
      → Leaves disk (disk_of old) left
      (LeavesImport (pair_of old) history user path part)
  leaves_import edits changes leaves =
      let was : tree_shown old ≡ tree_of history =
      ap (λ (s : Standing). s.tree) stood.remembers.standing in
      let made = planned_over (tree_shown old) (tree_of history) path part edits was changes in
      weakened disk.moment disk.left_since (disk_of old) left
      (NoneOrAll (pair_of old) history (map (event_by user) edits))
      (LeavesImport (pair_of old) history user path part) (λ bytes is. elim is [
        | inl none ↦ before none
        | inr all ↦ after (map edit_of edits) made
            (subst (λ es. DiskStands (pair_of old) bytes (history ++ es))
            (mapped edit_of user edits) all)
      ]) leaves
