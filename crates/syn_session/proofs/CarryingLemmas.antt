-- What is carried for an item of a plan.
use Rattle.std.proofs.Common.{◌≡◌, ℕ, true, List, [], ◌∷◌, ◌++◌, Option, Some, None, refl, sym, ap}
use Rattle.std.proofs.Common.{◌∙◌, subst, inl, inr, suc}
use Rattle.std.specs.Prelude.{slice_get, unwrap_or}
use Rattle.std.proofs.lemmas.List.Elements.{Contains-push_cases}
use Rattle.syn_machine.specs.Coordinator.{Exchange}
use Rattle.syn_machine.specs.Network.{Left, Right, Which, other}
use Rattle.syn_machine.specs.Planning.{Planned, WritesTo, seen_on}
use Rattle.syn_machine.specs.Session.{record_for}
use Rattle.syn_model.specs.Archive as model
use Rattle.syn_model.specs.Archive.{Kept, Recorded, kept_refusal}
use Rattle.syn_model.specs.Decision.{ToLeft, ToRight, MarkSame, MarkDir, Conflict, Item}
use Rattle.syn_propagate.specs.Carrying.{source_of, target_of}
use Rattle.syn_propagate.specs.Transfers.{spec_of}
use Rattle.syn_propagate.specs.declared.transfer_spec.TransferSpec.{TransferSpec}
use Rattle.syn_session.specs.declared.plan_progress.Carrying.{Carrying}
use Rattle.syn_session.specs.declared.plan_progress.PlanProgress.{PlanProgress}
use Rattle.syn_image.specs.Archives.{kept_for}
use Rattle.syn_session.specs.Stages.{Carries, IsCarriageOf, IsCarriedFor, IsPlanProgress, Reached}
use Rattle.syn_session.specs.Stages.{plan_in, AreAskedBefore, IsAskedBefore}
use Rattle.syn_machine.specs.Report.{is_carrying}
use Rattle.syn_scan.specs.Found.{Found}
use Rattle.syn_session.specs.Plans.{Plan}
use Rattle.syn_propagate.specs.declared.transfer.Transfer.{Transfer}

pub source_other : (c : TransferSpec) → other (target_of c) ≡ source_of c
source_other c = by (source_of c)
  where
    by : (w : Which) → other (other w) ≡ w
    by Left = refl
    by Right = refl

-- the record of an item that is carried has the marks of its source
pub marks_of : (planned : Planned) (c : TransferSpec) (item : ℕ) (kept : Kept) →
    IsCarriageOf c planned item → record_for planned planned.item ≡ Some kept →
    kept ≡ Recorded c.path (seen_on planned (source_of c)).marks
marks_of planned c item kept is recorded = by planned.item (source_of c) is.writes recorded
  where
    some_in : (a b : Kept) → Some a ≡ Some b → b ≡ a
    some_in a b e = sym (ap (λ o. unwrap_or o a) e)

    by : (it : _) (from : Which) → WritesTo it (other from) c.path →
        record_for planned it ≡ Some kept → kept ≡ Recorded c.path (seen_on planned from).marks
    by (ToLeft at) Right writes e = some_in _ _ e ∙ ap (λ p. Recorded p planned.right.marks) writes
    by (ToRight at) Left writes e = some_in _ _ e ∙ ap (λ p. Recorded p planned.left.marks) writes
    by (ToLeft at) Left writes e = absurd writes
    by (ToRight at) Right writes e = absurd writes
    by (MarkSame at) Left writes e = absurd writes
    by (MarkSame at) Right writes e = absurd writes
    by (MarkDir at) Left writes e = absurd writes
    by (MarkDir at) Right writes e = absurd writes
    by (Conflict at) Left writes e = absurd writes
    by (Conflict at) Right writes e = absurd writes

-- what is carried is of an item that carries
pub is_carried : (planned : Planned) (spec : TransferSpec) (item : ℕ) →
    IsCarriageOf spec planned item → is_carrying planned.item ≡ true
is_carried planned spec item is = by planned.item (target_of spec) is.writes
  where
    by : (item : Item) (side : Which) → WritesTo item side spec.path → is_carrying item ≡ true
    by (ToLeft at) side writes = refl
    by (ToRight at) side writes = refl
    by (MarkSame at) Left writes = absurd writes
    by (MarkSame at) Right writes = absurd writes
    by (MarkDir at) Left writes = absurd writes
    by (MarkDir at) Right writes = absurd writes
    by (Conflict at) Left writes = absurd writes
    by (Conflict at) Right writes = absurd writes

-- what was asked before an item, with one more exchange
pub asked_then : (plan : Plan) (cursor : ℕ) (taken : List Exchange) (one : Exchange) →
    AreAskedBefore plan cursor taken → IsAskedBefore plan cursor one.request →
    AreAskedBefore plan cursor (taken ++ one ∷ [])
asked_then plan cursor taken one before mine exchange has =
    elim (Contains-push_cases taken one exchange has)
    as (λ _. IsAskedBefore plan cursor exchange.request) [
      | inl was ↦ before exchange was
      | inr is ↦ subst (λ e. IsAskedBefore plan cursor e.request) is mine
    ]

-- whatever is carried, the progress is the same
pub carrying_more : (progress : PlanProgress) (carrying : Option Carrying) (left right : Found)
    (reached : Reached) → IsPlanProgress progress left right reached →
    IsPlanProgress (record progress { carrying = carrying }) left right reached
carrying_more progress carrying left right reached is = record {
  plan = is.plan;
  made = is.made;
  short = is.short;
  cursor = is.cursor;
  recorded = is.recorded;
  done = is.done;
  marked = is.marked;
  conflicts = is.conflicts;
  refused = is.refused;
}

-- it asks for what is carried
pub carries_on : (archive : model.Archive) (progress : PlanProgress) (left right : Found)
    (reached : Reached) → IsPlanProgress progress left right reached → (planned : Planned) →
    slice_get (plan_in progress left right) progress.cursor ≡ Some planned →
    (carrying later : Carrying) →
    spec_of later.transfer ≡ spec_of carrying.transfer → later.item_record ≡ carrying.item_record →
    IsCarriedFor archive carrying planned progress.cursor → (all : List Exchange) →
    AreAskedBefore (plan_in progress left right) (suc progress.cursor) all →
    (Is : Transfer → Type 0) → Is later.transfer →
    Carries archive (record progress { carrying = Some later }) left right all reached Is
carries_on archive progress left right reached is planned at carrying later same_carriage
    same_record carries all asked Is asks =
    record {
      progress_is = carrying_more progress (Some later) left right reached is;
      carrying = later;
      is_carried = refl;
      planned = planned;
      at = at;
      carries = record {
        spec =
            subst (λ c. IsCarriageOf c planned progress.cursor) (sym same_carriage) carries.spec;
        record_is =
            subst (λ k. record_for planned planned.item ≡ Some (kept_for k))
            (sym same_record) carries.record_is;
        can = subst (λ k. kept_refusal archive (kept_for k) ≡ None) (sym same_record) carries.can;
      };
      asked = asked;
      is = asks;
    }
