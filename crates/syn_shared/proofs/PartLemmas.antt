-- A part that is put at a path by edits in turn.
use Rattle.std.proofs.Common.{◌≡◌, ◌∙◌, ◌++◌, ◌∷◌, [], ℕ, List, Result}
use Rattle.std.proofs.Common.{append-nil, append_assoc, ap, fold, map, refl, subst, sym}
use Rattle.std.specs.Prelude.{IfOk}
use Rattle.syn_change.specs.Changes.{AreChanges, after_edits}
use Rattle.syn_disk.specs.declared.disk.Disk.{Ghosts}
use Rattle.syn_model.proofs.HistoryLemmas.{tree_of-append}
use Rattle.syn_model.specs.Event.{Edit, Edited, Event, after_event}
use Rattle.syn_model.specs.History.{History, tree_of}
use Rattle.syn_model.specs.Path.{Path}
use Rattle.syn_model.specs.Standing.{Standing}
use Rattle.syn_model.specs.Tree.{Tree, replace}
use Rattle.syn_replica.specs.Edits.{event_by}
use Rattle.syn_replica.specs.Replica.{Stands, tree_shown}
use Rattle.syn_replica.specs.declared.replica.Replica.{Replica}
use Rattle.syn_replica.specs.declared.error.ReplicaError.{ReplicaError}
use Rattle.syn_tree.specs.Edits.{edit_of}
use Rattle.syn_tree.specs.declared.edit.Edit.{Edit as Planned}
use Rattle.syn_shared.specs.Parts.{AddsInTurn, EndsWith, HasPart, Puts, PutsOrKeeps}
use Rattle.syn_shared.specs.Parts as parts

-- the edits of the code as those of the model
pub as_edits : (user : ℕ) (edits : List Planned)
    → map (event_by user) edits ≡ map (Edited user) (map edit_of edits)
as_edits user [] = refl
as_edits user (e ∷ es) = ap (λ more. event_by user e ∷ more) (as_edits user es)

-- the tree of a history with edits of a user after it
edits_after : (tree : Tree) (user : ℕ) (edits : List Edit)
    → fold after_event tree (map (Edited user) edits) ≡ after_edits tree edits
edits_after tree user [] = refl
edits_after tree user (e ∷ es) = edits_after (after_event tree (Edited user e)) user es

module _ {D : Type 0} {disk : Ghosts D} where
  -- what was added in turn stands
  stand_in_turn : (found left : Replica D disk) (events : List Event) (history : History)
      → Stands found history → AddsInTurn found events left → Stands left (history ++ events)
  stand_in_turn found _ _ history stands parts.none =
      subst (Stands found) (sym (append-nil history)) stands
  stand_in_turn found _ _ history stands
      (parts.more made event position before left adds edits) =
      subst (Stands left) (append_assoc history made (event ∷ []))
      (edits.acknowledged (history ++ made)
      (stand_in_turn found before made history stands adds)).1

  module _ (user : ℕ) (path : Path) (part : Tree) (found : Replica D disk) (edits : List Edit)
      (changes : AreChanges (tree_shown found) (replace (tree_shown found) path part) edits)
      (history : History) (stands : Stands found history) where
    has_part : (left : Replica D disk) → Stands left (history ++ map (Edited user) edits)
        → HasPart user path part found history left
    has_part left then = record {
      edits = edits;
      stands = then;
      tree =
          ap (λ (s : Standing). s.tree) then.remembers.standing
          ∙ (tree_of-append history (map (Edited user) edits)
          ∙ (edits_after (tree_of history) user edits
          ∙ (ap (λ (t : Tree). after_edits t edits)
          (sym (ap (λ (s : Standing). s.tree) stands.remembers.standing)) ∙ changes.make)));
    }

    pub part_there : (answer : Result ℕ ReplicaError) (left : Replica D disk)
        → EndsWith found (map (Edited user) edits) answer left
        → IfOk answer (λ _. HasPart user path part found history left)
    part_there _ _ (parts.all left adds) =
        has_part left (stand_in_turn found left (map (Edited user) edits) history stands adds)
    part_there _ _ (parts.some made event others e before left are adds edits) = tt
