-- What an answer for the item that is carried comes to.
use Rattle.std.proofs.Common.{◌≡◌, ◌⊎◌, ℕ, suc, List, [], ◌∷◌, ◌++◌, Option, Some, None, sym}
use Rattle.std.proofs.Common.{ap, ◌∙◌, subst, inl, inr, arith}
use Rattle.std.specs.Prelude.{unwrap_or}
use Rattle.std.specs.List.{slice_get}
use Rattle.syn_machine.specs.Coordinator.{Exchange, IsDue, IsFor, fault_of}
use Rattle.syn_machine.specs.Coordinator as is_due_by
use Rattle.syn_machine.specs.Network.{Which, other}
use Rattle.syn_machine.specs.Planning.{Planned, WritesTo, seen_on}
use Rattle.syn_machine.specs.Side.{Request, Begin, ListAt, Fetch, Stage, Replace}
use Rattle.syn_machine.specs.Side as model
use Rattle.syn_model.specs.Archive as kept_in
use Rattle.syn_model.specs.Archive.{Kept, Recorded}
use Rattle.syn_model.specs.Refusal.{Memory, Refusal as Why}
use Rattle.syn_propagate.specs.Carrying.{source_of, target_of}
use Rattle.syn_propagate.specs.Transfers.{EndsBy, IsForItem, WaitsFor, WaitsForItem, spec_of}
use Rattle.syn_propagate.specs.declared.transfer_spec.TransferSpec.{TransferSpec}
use Rattle.syn_propagate.specs.Refusals.{refusal_of}
use Rattle.syn_propagate.specs.declared.error.TransferError.{TransferError}
use Rattle.syn_propagate.specs.declared.error.TransferError.TheVariants as error_is
use Rattle.syn_propagate.specs.declared.next.Next.TheVariants as next
use Rattle.syn_propagate.specs.declared.next.SideRequest.{SideRequest}
use Rattle.syn_refusal.specs.Refusals.{cause_of}
use Rattle.syn_refusal.specs.declared.refusal.Refusal.{Refusal}
use Rattle.syn_scan.specs.Found.{Found}
use Rattle.syn_session.specs.declared.plan_progress.Carrying.{Carrying}
use Rattle.syn_session.specs.declared.plan_progress.PlanProgress.{PlanProgress}
use Rattle.syn_session.specs.Answering.{exchange_of}
use Rattle.syn_session.specs.Carrying.{AsksFor, IsCarriedOut}
use Rattle.syn_session.specs.Plans.{Plan}
use Rattle.syn_session.specs.Stages.{AreAskedBefore, Carries, IsAskedBefore, IsCarriageOf}
use Rattle.syn_session.specs.Stages.{IsCarriedFor, Reached, plan_in}
use Rattle.syn_session.proofs.CarryingLemmas.{marks_of, source_other, asked_then, is_carried}
use Rattle.syn_session.proofs.CarryingLemmas.{carries_on, carrying_more}
use Rattle.syn_session.proofs.ProgressLemmas.{no_conflict}
use Rattle.syn_image.specs.Archives.{kept_for}

-- ---- a request for what is carried is one for the item

module _ (plan : Plan) (cursor : ℕ) (planned : Planned) (at : slice_get plan cursor ≡ Some planned)
    (c : TransferSpec) (is : IsCarriageOf c planned cursor) (to : Which) where
  asked_for : (request : Request) → IsForItem c to request → IsAskedBefore plan (suc cursor) request
  asked_for (Begin pair) it = tt
  asked_for (ListAt path) it = tt
  asked_for (Fetch path since offset) it = (cursor, planned, omega arith, at, it.1 ∙ is.path_is)
  asked_for (Stage item offset bytes) it = omega (arith, it.1, is.item_is)
  asked_for (Replace item path since size) it = omega (arith, it.1, is.item_is)

  is_for : (request : Request) → IsForItem c to request → IsFor cursor planned request
  is_for (Begin pair) it = absurd it
  is_for (ListAt path) it = absurd it
  is_for (Fetch path since offset) it = it.1 ∙ is.path_is
  is_for (Stage item offset bytes) it = it.1 ∙ is.item_is
  is_for (Replace item path since size) it = it.1 ∙ is.item_is

  -- its replacement is done, so its record is due
  is_due : (number : ℕ) (request : Request) (reply : model.Reply) (what : Kept) →
      what ≡ Recorded c.path (seen_on planned (source_of c)).marks → IsForItem c to request →
      reply ≡ model.Done → (size : ℕ) → request ≡ Replace c.item c.path c.target_since size →
      IsDue cursor planned (exchange_of to number request reply) what
  is_due number request reply what is_what it said size asked =
      let to_target : to ≡ target_of c = (subst (IsForItem c to) asked it).0 in
      subst (IsDue cursor planned (exchange_of to number request reply))
      (ap (λ w. Recorded c.path (seen_on planned w).marks) (ap other to_target ∙ source_other c)
      ∙ sym is_what)
      (is_due_by.done c.path c.target_since size said
      (asked ∙ ap (λ n. Replace n c.path c.target_since size) is.item_is)
      (subst (λ w. WritesTo planned.item w c.path) (sym to_target) is.writes))

-- ---- what an answer comes to

module _ (archive : kept_in.Archive) (progress : PlanProgress) (left right : Found)
    (all : List Exchange)
    (before : Reached) (to : Which) (number : ℕ) (request : Request) (reply : model.Reply)
    (carries : Carries archive progress left right all before
    (λ transfer. WaitsFor transfer all to request))
    (was : Carrying) (same : progress.carrying ≡ Some was) where
  abbrev taken : Exchange
  taken = exchange_of to number request reply

  was_is : carries.carrying ≡ was
  was_is = ap (λ o. unwrap_or o was) (sym carries.is_carried ∙ same)

  for_it : IsCarriedFor archive was carries.planned progress.cursor
  for_it = subst (λ c. IsCarriedFor archive c carries.planned progress.cursor) was_is
      carries.carries

  pub waits_for : WaitsFor was.transfer all to request
  waits_for = subst (λ (c : Carrying). WaitsFor c.transfer all to request) was_is carries.is

  module _ (law : WaitsForItem) (fault : fault_of all to request reply ≡ None) where
    for_item : IsForItem (spec_of was.transfer) to request
    for_item = law was.transfer all to request waits_for

    asked_all : AreAskedBefore (plan_in progress left right) (suc progress.cursor)
        (all ++ taken ∷ [])
    asked_all =
        asked_then (plan_in progress left right) (suc progress.cursor) all taken carries.asked
        (asked_for (plan_in progress left right) progress.cursor carries.planned carries.at
        (spec_of was.transfer) for_it.spec to request for_item)

    -- it is carried no further
    pub carried_out : (now : Option Carrying) → IsCarriedOut (record progress { carrying = now })
        left
        right
        (all ++ taken ∷ []) before carries.planned
    carried_out now = record {
      progress_is = carrying_more progress now left right before carries.progress_is;
      at = carries.at;
      carries = is_carried carries.planned (spec_of was.transfer) progress.cursor for_it.spec;
      apart = no_conflict carries.planned carries.planned.item (kept_for was.item_record)
          for_it.record_is;
      asked = asked_all;
    }

    -- it is carried on
    pub still_carries : (later : Carrying) → spec_of later.transfer ≡ spec_of was.transfer →
        later.item_record ≡ was.item_record → (asked : SideRequest) →
        AsksFor later.transfer (all ++ taken ∷ []) asked →
        Carries archive (record progress { carrying = Some later }) left right
        (all ++ taken ∷ []) before (λ transfer. AsksFor transfer (all ++ taken ∷ []) asked)
    still_carries later same_carriage same_record asked asks_it =
        carries_on archive progress left right before carries.progress_is carries.planned carries.at
        was later same_carriage same_record for_it (all ++ taken ∷ []) asked_all
        (λ transfer. AsksFor transfer (all ++ taken ∷ []) asked) asks_it

    -- it is done
    pub is_done : EndsBy (spec_of was.transfer) request reply next.Done →
        IsDue progress.cursor carries.planned taken (kept_for was.item_record)
    is_done ends =
        is_due (plan_in progress left right) progress.cursor carries.planned carries.at
        (spec_of was.transfer) for_it.spec to number request reply (kept_for was.item_record)
        (marks_of carries.planned (spec_of was.transfer) progress.cursor
        (kept_for was.item_record) for_it.spec for_it.record_is) for_item ends.0 ends.1 ends.2

    pub was_for : IsFor progress.cursor carries.planned request
    was_for =
        is_for (plan_in progress left right) progress.cursor carries.planned carries.at
        (spec_of was.transfer) for_it.spec to request for_item

-- what ended the transfer ends the session
pub ended_with : (fault : Option Why) (error : TransferError) (why : Refusal) →
    cause_of why ≡ refusal_of error →
    (error ≡ error_is.Memory) ⊎ (fault ≡ Some (refusal_of error)) →
    (fault ≡ Some (cause_of why)) ⊎ (cause_of why ≡ Memory)
ended_with fault error why same (inl memory) = inr (same ∙ ap refusal_of memory)
ended_with fault error why same (inr is) = inl (is ∙ ap (λ w. Some w) (sym same))
