-- Where a session is after one item of its plan.
use Rattle.std.proofs.Common.{◌≡◌, ◌≤◌, ℕ, suc, IsSome, List, [], ◌++◌, Option, Some, None, refl}
use Rattle.std.proofs.Common.{sym, ap, ◌∙◌, subst, inl, arith}
use Rattle.std.specs.List.{slice_get}
use Rattle.std.specs.Prelude.{MatchOption, MatchResult, Result, Ok, Err}
use Rattle.std.specs.Option.{option_map_or}
use Rattle.std.proofs.lemmas.List.{append-nil, append_assoc}
use Rattle.syn_archive.specs.Archive.{shown}
use Rattle.syn_archive.specs.declared.archive.Archive.{Archive}
use Rattle.syn_disk.specs.declared.disk.Disk.{Ghosts}
use Rattle.syn_machine.specs.Coordinator.{Exchange, settled, stands}
use Rattle.syn_machine.specs.Planning.{Planned}
use Rattle.syn_machine.specs.Session.{record_for}
use Rattle.syn_model.specs.Archive.{kept_refusal, Kept}
use Rattle.syn_propagate.specs.Transfers.{spec_of}
use Rattle.syn_refusal.specs.Refusals.{cause_of}
use Rattle.syn_refusal.specs.declared.refusal.Refusal.{Refusal}
use Rattle.syn_refusal.specs.declared.refusal.Refusal.TheVariants as refusal
use Rattle.syn_scan.specs.Found.{Found}
use Rattle.syn_coordinator.specs.PlanRunners.{written}
use Rattle.syn_coordinator.specs.Machines.{IsMachine, Journal}
use Rattle.syn_coordinator.specs.declared.plan_runner.PlanRunner.{PlanRunner}
use Rattle.syn_session.specs.declared.plan_progress.Carrying.{Carrying}
use Rattle.syn_session.specs.Carrying.{AsksOne}
use Rattle.syn_session.specs.declared.plan_progress.PlanProgress.{PlanProgress}
use Rattle.syn_session.specs.declared.session.Asks.{Asks}
use Rattle.syn_coordinator.specs.declared.session_end.SessionEnd.{SessionEnd}
use Rattle.syn_coordinator.specs.declared.session_end.SessionEnd.TheVariants.{Early, PlanDone}
use Rattle.syn_session.specs.Passing.{refused_at}
use Rattle.syn_session.specs.Plans.{Plan}
use Rattle.syn_coordinator.specs.inner.Settling.{AsksSo, EndsSo, HasCome, IsPast, IsQuiet, PassesOn}
use Rattle.syn_coordinator.specs.declared.tried.TriedRecord.{TriedRecord}
use Rattle.syn_coordinator.proofs.AdvanceLemmas.{remembers_still}
use Rattle.syn_coordinator.proofs.TriedLemmas.{tries_none}
use Rattle.syn_session.specs.Stages.{AreAskedBefore, Carries, IsCarriageOf, IsPlanProgress, Reached}
use Rattle.syn_session.specs.Stages.{plan_in}
use Rattle.syn_coordinator.specs.inner.Walking.{Ends, IsAtItem, Passes, ends, walk_at}
use Rattle.syn_coordinator.proofs.FreshLemmas.{asked_past}
use Rattle.syn_coordinator.proofs.SettleLemmas.{at_walk, ends_for_memory}
use Rattle.syn_coordinator.proofs.WalkLemmas.{comes_after, ends_after, keeps_none, passes_more}
use Rattle.syn_coordinator.proofs.WalkLemmas.{passes_none, passes_unfit}
use Rattle.syn_image.specs.Archives.{kept_for}
use Rattle.syn_session.proofs.CarryingLemmas.{is_carried}

-- ---- what is answered

module _ {P G : Type 0} (A : Asks → Type 0) (E : SessionEnd → Type 0) (more : P → G) where
  -- something may be asked
  pub further_so : (result : Result (Option Asks) SessionEnd) →
      MatchResult result (λ next. MatchOption next P A) E →
      MatchResult result (λ next. MatchOption next G A) E
  further_so (Ok None) so = more so
  further_so (Ok (Some asks)) so = so
  further_so (Err ended) so = so

-- ---- what is asked

pub some_in : (a b : Plan) → Some a ≡ Some b → a ≡ b
some_in a b e = ap (λ o. option_map_or (λ plan. plan) o []) e

module _ {D : Type 0} {disk : Ghosts D} (pair : ℕ) (taken : Exchange) (journal : Journal)
    (before : Reached) (left right : Found) where
  -- the archive refuses the record of what is carried
  pub carried_unfit : (archive : Archive D disk) → IsMachine archive pair journal →
      (progress : PlanProgress) → IsPlanProgress progress left right before → (planned : Planned) →
      slice_get (plan_in progress left right) progress.cursor ≡ Some planned → (carrying :
      Carrying) →
      IsCarriageOf (spec_of carrying.transfer) planned progress.cursor →
      record_for planned planned.item ≡ Some (kept_for carrying.item_record) → (why : Refusal) →
      Some (cause_of why) ≡ kept_refusal (shown archive) (kept_for carrying.item_record) →
      Passes pair taken journal before journal (refused_at before (cause_of why) planned) []
  carried_unfit archive is progress progress_is planned at carrying spec record_is why refused =
      passes_unfit pair taken journal before planned
      (at_walk before progress left right progress_is planned at) (kept_for carrying.item_record)
      (cause_of why) record_is
      (inl (is_carried planned (spec_of carrying.transfer) progress.cursor spec))
      (ap (λ a. kept_refusal a (kept_for carrying.item_record)) (sym is.remembers) ∙ sym refused)

  -- no item is left
  pub ends_settled : (archive : Archive D disk) (tried : Option TriedRecord) →
      IsMachine archive pair journal → tried ≡ None → journal.writing ≡ None →
      (progress : PlanProgress) →
      IsPlanProgress progress left right before →
      slice_get (plan_in progress left right) progress.cursor ≡ None →
      Ends archive tried pair taken journal before [] progress left right PlanDone
  ends_settled archive tried is untried quiet progress progress_is none =
      ends (walk_at journal before) before
      (stands (walk_at journal before)) refl refl (keeps_none before)
      (λ running same. settled (subst IsSome (sym (same ∙ progress_is.plan)) refl)
      (ap (λ p. slice_get (option_map_or (λ plan. plan) p []) before.cursor) (same ∙
      progress_is.plan)
      ∙ (ap (slice_get (plan_in progress left right)) progress_is.cursor ∙ none)) refl)
      is progress_is (remembers_still journal.status tried journal
      (tries_none tried journal untried quiet) _ refl)

  module _ (old new : PlanRunner D disk) (was later : PlanProgress) (all : List Exchange)
      (at : IsAtItem was left right all before) where
    -- nothing was asked for the item after
    pub on_past : IsPast old new pair taken journal before later left right →
        PassesOn old new pair taken journal before later left right all
    on_past past = (
      past,
      subst (λ p. AreAskedBefore p later.cursor all) plans
          (subst (λ n. AreAskedBefore (plan_in was left right) n all) next
          (asked_past (plan_in was left right) was.cursor all at.asked)),
    )
      where
        plans : plan_in was left right ≡ plan_in later left right
        plans =
            some_in _ _ (sym at.progress_is.plan
            ∙ (sym past.3.passes.has.plan ∙ past.3.progress_is.plan))

        next : suc was.cursor ≡ later.cursor
        next = ap suc (sym at.progress_is.cursor) ∙ past.2

  -- memory is refused, and the progress stays
  pub ends_here : (runner : PlanRunner D disk) → IsMachine runner.archive pair journal →
      IsQuiet runner journal → (was later : PlanProgress) →
      IsPlanProgress was left right before →
      later ≡ was → (how : SessionEnd) → how ≡ Early refusal.Memory →
      EndsSo runner runner pair taken journal before later left right how
  ends_here runner is quiet was later progress_is same how memory = (
    [],
    sym (append-nil _),
    subst (λ e. Ends runner.archive runner.tried pair taken journal before
        [] later left right e) (sym memory)
        (subst (λ c. Ends runner.archive runner.tried pair taken journal before
        [] c left right (Early refusal.Memory)) (sym same)
        (ends_for_memory runner.archive runner.tried pair taken journal before was left
        right is quiet.0 quiet.1 progress_is)),
  )

  -- it is past the item, and nothing was written
  pub past_here : (runner : PlanRunner D disk) → IsMachine runner.archive pair journal →
      IsQuiet runner journal → (later : PlanProgress) (after : Reached) →
      suc before.cursor ≡ after.cursor → Passes pair taken journal before journal after [] →
      IsPlanProgress later left right after →
      IsPast runner runner pair taken journal before later left right
  past_here runner is quiet later after next passes progress_is = (
    [],
    sym (append-nil _),
    next ∙ progress_is.cursor,
    record {
      journal = journal;
      after = after;
      passes = passes;
      is = is;
      progress_is = progress_is;
    },
    quiet.0,
  )

  -- it asks for the item that it has come to
  pub asks_here : (runner : PlanRunner D disk) → IsMachine runner.archive pair journal →
      IsQuiet runner journal → (progress : PlanProgress) (all : List Exchange) (asks : Asks) →
      Carries journal.value progress left right all before
      (λ transfer. AsksOne transfer all asks) →
      AsksSo runner runner pair taken journal before progress left right all asks
  asks_here runner is quiet progress all asks carries = (
    [],
    sym (append-nil _),
    record {
      journal = journal;
      after = before;
      passes = passes_none pair taken journal before;
      onward = at_most before.cursor;
      is = is;
      carries = carries;
    },
    quiet.0,
  )
    where
      at_most : (n : ℕ) → n ≤ n
      at_most n = omega arith

-- ---- from turn to turn

module _ {D : Type 0} {disk : Ghosts D} (pair : ℕ) (taken : Exchange) (journal : Journal)
    (before : Reached) (left right : Found) (all : List Exchange) where
  -- before the first
  pub no_turn : (runner : PlanRunner D disk) → IsMachine runner.archive pair journal →
      IsQuiet runner journal → (progress : PlanProgress) →
      IsAtItem progress left right all before →
      HasCome runner runner pair taken journal before progress left right all
  no_turn runner is quiet progress at = (
    [],
    sym (append-nil _),
    record {
      journal = journal;
      after = before;
      passes = passes_none pair taken journal before;
      is = is;
      progress_is = at.progress_is;
    },
    omega (arith, at.progress_is.cursor),
    at.asked,
    quiet.0,
  )

  module _ (first middle : PlanRunner D disk) (progress : PlanProgress)
      (come : HasCome first middle pair taken journal before progress left right all) where
    -- where a turn begins
    pub at_turn : IsAtItem progress left right all come.2.after
    at_turn = record { progress_is = come.2.progress_is; asked = come.4 }

    -- and nothing is being written there
    pub still_quiet : journal.writing ≡ None → IsQuiet middle come.2.journal
    still_quiet quiet = (come.5, come.2.passes.quiet quiet)

    -- it runs out of turns
    pub no_turn_left : journal.writing ≡ None → (how : SessionEnd) → how ≡ Early refusal.Memory →
        EndsSo first middle pair taken journal before progress left right how
    no_turn_left quiet how memory = (
      come.0,
      come.1,
      subst (λ l. Ends middle.archive middle.tried pair taken journal before l progress left right
          how) (append-nil come.0)
          (ends_after pair taken journal come.2.journal before come.2.after come.0 come.2.passes
          middle.archive [] progress left right middle.tried how
          (subst (λ e. Ends middle.archive middle.tried pair taken come.2.journal come.2.after
          [] progress left right e) (sym memory)
          (ends_for_memory middle.archive middle.tried pair taken come.2.journal come.2.after
          progress left right come.2.is come.5 (come.2.passes.quiet quiet) come.2.progress_is))),
    )

    module _ (last : PlanRunner D disk) (later : PlanProgress) where
      both : (kept : List Kept) → written last ≡ written middle ++ kept →
          written last ≡ written first ++ (come.0 ++ kept)
      both kept more =
          more ∙ (ap (λ l. l ++ kept) come.1 ∙ append_assoc (written first) come.0 kept)

      -- it passes one item more
      pub turn_past :
          PassesOn middle last pair taken come.2.journal come.2.after later left right all →
          HasCome first last pair taken journal before later left right all
      turn_past past = (
        come.0 ++ past.0.0,
        both past.0.0 past.0.1,
        comes_after pair taken journal come.2.journal before come.2.after come.0 come.2.passes
            last.archive past.0.0 later left right past.0.3,
        omega (arith, come.3, come.2.progress_is.cursor, past.0.2),
        past.1,
        past.0.4,
      )

      -- it asks
      pub turn_asks : (asks : Asks) →
          AsksSo middle last pair taken come.2.journal come.2.after later left right all asks →
          AsksSo first last pair taken journal before later left right all asks
      turn_asks asks so = (
        come.0 ++ so.0,
        both so.0 so.1,
        record {
          journal = so.2.journal;
          after = so.2.after;
          passes =
              passes_more pair taken journal come.2.journal before come.2.after come.0 come.2.passes
              so.2.journal so.2.after so.0 so.2.passes;
          onward = omega (arith, come.3, come.2.progress_is.cursor, so.2.onward);
          is = so.2.is;
          carries = so.2.carries;
        },
        so.3,
      )

      -- and stands where it then stands
      pub turn_further : (asks : Asks)
          (so : AsksSo middle last pair taken come.2.journal come.2.after later left right all
          asks) →
          (turn_asks asks so).2.after.cursor ≡ so.2.after.cursor
      unfolding turn_asks
      turn_further asks so = refl

      -- it ends
      pub turn_ends : (how : SessionEnd) →
          EndsSo middle last pair taken come.2.journal come.2.after later left right how →
          EndsSo first last pair taken journal before later left right how
      turn_ends how so = (
        come.0 ++ so.0,
        both so.0 so.1,
        ends_after pair taken journal come.2.journal before come.2.after come.0 come.2.passes
            last.archive so.0 later left right last.tried how so.2,
      )
