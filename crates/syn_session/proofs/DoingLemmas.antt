-- What is to be done for an item is so in the plan of its progress.
use Rattle.std.proofs.Common.{◌≡◌, ℕ, Option, Some, None, refl, sym, ap, ◌∙◌, subst, inl, inr}
use Rattle.std.specs.Prelude.{option_map, slice_get, IfOk, Result, Ok, Err}
use Rattle.std.proofs.lemmas.Option.{slice_get-map}
use Rattle.syn_machine.specs.Coordinator.{IsDue, directory, same}
use Rattle.syn_machine.specs.Planning.{Planned}
use Rattle.syn_machine.specs.Report.{is_carrying}
use Rattle.syn_machine.specs.Session.{record_for}
use Rattle.syn_path.specs.declared.side.Side.TheVariants as side
use Rattle.syn_model.specs.Archive.{Recorded}
use Rattle.syn_model.specs.Decision.{ToLeft, ToRight, Conflict, path_of}
use Rattle.syn_model.specs.Decision as model
use Rattle.syn_model.specs.Path.{Path, parent}
use Rattle.syn_model.specs.Plan.{PlanIsDecided}
use Rattle.syn_model.specs.Tree.{subtree}
use Rattle.syn_propagate.specs.Transfers.{spec_of}
use Rattle.syn_propagate.specs.declared.transfer_spec.TransferSpec.{TransferSpec}
use Rattle.syn_recon.specs.Items.{items_of}
use Rattle.syn_scan.specs.Found.{Found, position_of}
use Rattle.syn_session.specs.declared.plan_progress.PlanProgress.{PlanProgress}
use Rattle.syn_session.specs.declared.doing.Doing.{Doing}
use Rattle.syn_session.specs.declared.doing.Doing.TheVariants as has
use Rattle.syn_session.specs.inner.Items.{IsDoingFor}
use Rattle.syn_session.specs.Doings.{IsDoing}
use Rattle.syn_session.specs.Plans.{planned_by}
use Rattle.syn_session.specs.Stages.{IsCarriageOf, IsPlanProgress, Reached, plan_in}
use Rattle.syn_image.specs.Archives.{kept_for}
use Rattle.syn_session.proofs.PlanLemmas.{same_marks}

module _ (progress : PlanProgress) (left right : Found) (reached : Reached)
    (is : IsPlanProgress progress left right reached) where
  planned_at : (item : Option model.Item) →
      slice_get (items_of progress.items.items) progress.cursor ≡ item →
      slice_get (plan_in progress left right) progress.cursor ≡ option_map (planned_by left right)
      item
  planned_at item e =
      slice_get-map (planned_by left right) (items_of progress.items.items) progress.cursor
      ∙ ap (option_map (planned_by left right)) e

  pub nothing_left : slice_get (items_of progress.items.items) progress.cursor ≡ None →
      slice_get (plan_in progress left right) progress.cursor ≡ None
  nothing_left e = planned_at None e

  module _ (decided : PlanIsDecided) (item : model.Item)
      (there : slice_get (items_of progress.items.items) progress.cursor ≡ Some item) where
    abbrev planned : Planned
    planned = planned_by left right item

    at : slice_get (plan_in progress left right) progress.cursor ≡ Some planned
    at = planned_at (Some item) there

    carried_to_left : (path : Path) (c : TransferSpec) → item ≡ ToLeft path →
        c ≡ record {
          source = side.Right;
          item = progress.cursor;
          path = path;
          source_since =
              position_of right (parent path);
          target_since = position_of left (parent path);
        } →
        IsCarriageOf c planned progress.cursor
    carried_to_left path c e same_c =
        subst (λ x. IsCarriageOf x planned progress.cursor) (sym same_c)
        (subst (λ i. IsCarriageOf (record {
          source = side.Right;
          item = progress.cursor;
          path = path;
          source_since = position_of right (parent path);
          target_since =
              position_of left (parent path);
        }) (planned_by left right i) progress.cursor) (sym e)
        (record {
          item_is = refl;
          path_is = refl;
          writes = refl;
          source_since = refl;
          target_since = refl;
        }))

    carried_to_right : (path : Path) (c : TransferSpec) → item ≡ ToRight path →
        c ≡ record {
          source = side.Left;
          item = progress.cursor;
          path = path;
          source_since =
              position_of left (parent path);
          target_since = position_of right (parent path);
        } →
        IsCarriageOf c planned progress.cursor
    carried_to_right path c e same_c =
        subst (λ x. IsCarriageOf x planned progress.cursor) (sym same_c)
        (subst (λ i. IsCarriageOf (record {
          source = side.Left;
          item = progress.cursor;
          path = path;
          source_since = position_of left (parent path);
          target_since =
              position_of right (parent path);
        }) (planned_by left right i) progress.cursor) (sym e)
        (record {
          item_is = refl;
          path_is = refl;
          writes = refl;
          source_since = refl;
          target_since = refl;
        }))

    pub doing_so : (doing : Doing) → IsDoingFor item progress.cursor left right doing →
        IsDoing progress left right doing
    doing_so has.Nothing never = absurd never
    doing_so (has.Conflict path) e = (planned, at, e)
    doing_so (has.Mark item_record) (inl (path, e, recorded)) = (
      planned,
      at,
      ap is_carrying e,
      λ taken. subst (λ k. IsDue progress.cursor planned taken k)
          (ap (λ p. Recorded path (subtree left.marks p)) (ap path_of e) ∙ sym recorded)
          (same path e (same_marks is.made.0 left right is.made.1
          (items_of progress.items.items) is.made.2 decided progress.cursor planned path at e)),
    )
    doing_so (has.Mark item_record) (inr (path, e, recorded)) = (
      planned,
      at,
      ap is_carrying e,
      λ taken. subst (λ k. IsDue progress.cursor planned taken k) (sym recorded) (directory path e),
    )
    doing_so (has.Carry carrying) (inl (path, e, from)) = (
      planned,
      at,
      carried_to_left path (spec_of carrying.transfer) e from.spec,
      subst (λ i. record_for (planned_by left right i) i ≡ Some (kept_for carrying.item_record))
          (sym e)
          (ap (λ k. Some k) (sym from.record_is)),
    )
    doing_so (has.Carry carrying) (inr (path, e, from)) = (
      planned,
      at,
      carried_to_right path (spec_of carrying.transfer) e from.spec,
      subst (λ i. record_for (planned_by left right i) i ≡ Some (kept_for carrying.item_record))
          (sym e)
          (ap (λ k. Some k) (sym from.record_is)),
    )

-- whatever is answered
pub if_doing : {E : Type 0} (progress : PlanProgress) (left right : Found) (reached : Reached) →
    IsPlanProgress progress left right reached → PlanIsDecided → (item : model.Item) →
    slice_get (items_of progress.items.items) progress.cursor ≡ Some item → (number : ℕ) →
    number ≡ progress.cursor → (result : Result Doing E) →
    IfOk result (IsDoingFor item number left right) → IfOk result (IsDoing progress left right)
if_doing progress left right reached is decided item there number same_number (Ok doing) so =
    doing_so progress left right reached is decided item there doing
    (subst (λ n. IsDoingFor item n left right doing) same_number so)
if_doing progress left right reached is decided item there number same_number (Err e) so = tt
