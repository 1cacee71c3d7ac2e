-- Why an event is refused in a standing, as it is found out step by step.
use Rattle.std.proofs.Common.{◌≡◌, ◌≢◌, ◌⊎◌, ℕ, List, [], ◌∷◌, ◌++◌, sym, ap, ◌∙◌, Option}
use Rattle.std.proofs.Common.{Some, None, inl, inr, refl, append_assoc}
use Rattle.std.proofs.lemmas.Option.{none-some}
use Rattle.syn_model.specs.Tree.{Tree, replace}
use Rattle.syn_model.specs.Path.{Path}
use Rattle.syn_model.specs.Event.{Token, Edit, Event, Edited, Began, Replaced, after_edit}
use Rattle.syn_model.specs.Refusal.{Refusal, OldSession, Cause, first_cause}
use Rattle.syn_model.specs.Refusal as why
use Rattle.syn_model.specs.Standing.{Standing, causes_at, refusal_at, edit_refusal, edit_causes}
use Rattle.syn_model.specs.Standing.{full_causes, full_position, place_causes, is_old}
use Rattle.syn_tree.specs.Refusals.{refusal_of as of_tree}
use Rattle.syn_tree.specs.declared.error.TreeError.{TreeError}
use Rattle.syn_tree.specs.declared.error.TreeError.TheVariants as tree
use Rattle.syn_replica.specs.Updates.{early_causes, tree_refusal}
use Rattle.syn_model.proofs.HistoryLemmas.{first_skips, first_stays, none-append}

-- the causes of an edit are the tree's, and then the position's
module _ (standing : Standing) (user : ℕ) (edit : Edit) where
  tree_causes : List Cause
  tree_causes = edit_causes standing.tree edit ++ full_causes (after_edit standing.tree edit)

  in_row : first_cause (causes_at standing (Edited user edit))
      ≡ first_cause (tree_causes ++ full_position standing.position)
  unfolding tree_causes
  in_row =
      ap first_cause (sym (append_assoc (edit_causes standing.tree edit)
      (full_causes (after_edit standing.tree edit)) (full_position standing.position)))

  pub edit_refused : (refusal : Refusal) → edit_refusal standing.tree edit ≡ Some refusal →
      first_cause (causes_at standing (Edited user edit)) ≡ Some refusal
  unfolding tree_causes
  edit_refused refusal e =
      in_row ∙ first_stays tree_causes (full_position standing.position) refusal e

  pub edit_passed : edit_refusal standing.tree edit ≡ None → first_cause
      (causes_at standing (Edited user edit)) ≡ first_cause (full_position standing.position)
  unfolding tree_causes
  edit_passed e = in_row ∙ first_skips tree_causes (full_position standing.position) e

  pub edit_none : first_cause (causes_at standing (Edited user edit)) ≡ None →
      (edit_refusal standing.tree edit ≡ None)
      × (first_cause (full_position standing.position) ≡ None)
  unfolding tree_causes
  edit_none e = none-append tree_causes (full_position standing.position) (sym in_row ∙ e)

-- what is seen early is the first cause
pub early_at : (standing : Standing) (event : Event) (refusal : Refusal) →
    first_cause (early_causes standing event) ≡ Some refusal →
    refusal_at standing event ≡ Some refusal
early_at standing (Edited user edit) refusal e = e
early_at standing (Began session) refusal e = e
early_at standing (Replaced token path since new) refusal e =
    first_stays ((is_old standing.session standing.token token, OldSession) ∷ [])
    (place_causes standing.tree path ++ (full_causes (replace standing.tree path new)
    ++ full_position standing.position)) refusal e

module _ (standing : Standing) where
  replaced_row : (token : Token) (path : Path) (since : ℕ) (new : Tree) →
      first_cause (early_causes standing (Replaced token path since new)) ≡ None →
      refusal_at standing (Replaced token path since new) ≡ first_cause
      ((place_causes standing.tree path ++ full_causes (replace standing.tree path new))
      ++ full_position standing.position)
  replaced_row token path since new early =
      first_skips ((is_old standing.session standing.token token, OldSession) ∷ [])
      (place_causes standing.tree path
      ++ (full_causes (replace standing.tree path new) ++ full_position standing.position)) early
      ∙ ap first_cause (sym (append_assoc (place_causes standing.tree path)
      (full_causes (replace standing.tree path new)) (full_position standing.position)))

  -- after that come the tree's causes
  pub tree_at : (event : Event) (refusal : Refusal) →
      first_cause (early_causes standing event) ≡ None →
      tree_refusal standing.tree event ≡ Some refusal → refusal_at standing event ≡ Some refusal
  tree_at (Edited user edit) refusal early e =
      absurd (none-some _ (sym (edit_none standing user edit early).0 ∙ e))
  tree_at (Began session) refusal early e = absurd (none-some _ e)
  tree_at (Replaced token path since new) refusal early e =
      replaced_row token path since new early ∙ first_stays (place_causes standing.tree path
      ++ full_causes (replace standing.tree path new)) (full_position standing.position) refusal e

-- a tree refuses for lack of memory, or for a cause
pub of_cause : (e : TreeError) (refusal : Option Refusal) →
    (e ≢ tree.Memory → refusal ≡ Some (of_tree e)) →
    (of_tree e ≡ why.Memory) ⊎ (refusal ≡ Some (of_tree e))
of_cause tree.NoParent refusal h = inr (h (λ e. cc e))
of_cause tree.IsDirectory refusal h = inr (h (λ e. cc e))
of_cause tree.Exists refusal h = inr (h (λ e. cc e))
of_cause tree.Absent refusal h = inr (h (λ e. cc e))
of_cause tree.Root refusal h = inr (h (λ e. cc e))
of_cause tree.Full refusal h = inr (h (λ e. cc e))
of_cause tree.Memory refusal h = inl refl
