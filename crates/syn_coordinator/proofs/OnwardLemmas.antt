-- Where a session goes after an answer for the item that is carried.
use Rattle.std.proofs.Common.{◌≡◌, ℕ, suc, false, List, [], ◌∷◌, ◌++◌, None, sym, ap, ◌∙◌, subst}
use Rattle.std.proofs.Common.{arith}
use Rattle.std.specs.Option.{option_map_or}
use Rattle.std.specs.Prelude.{MatchResult, Result, Ok, Err}
use Rattle.std.proofs.lemmas.Bool.{false≢true}
use Rattle.std.specs.List.{slice_get}
use Rattle.syn_disk.specs.declared.disk.Disk.{Ghosts}
use Rattle.syn_machine.specs.Coordinator.{Exchange, IsFor, fault_of, is_last}
use Rattle.syn_machine.specs.Planning.{Planned}
use Rattle.syn_machine.specs.Side as model
use Rattle.syn_model.specs.Refusal.{Refusal as Why}
use Rattle.syn_scan.specs.Found.{Found}
use Rattle.syn_coordinator.specs.Machines.{IsMachine, Journal}
use Rattle.syn_coordinator.specs.declared.plan_runner.PlanRunner.{PlanRunner}
use Rattle.syn_session.specs.declared.plan_progress.PlanProgress.{PlanProgress}
use Rattle.syn_session.specs.declared.session.Asks.{Asks}
use Rattle.syn_session.specs.declared.session.Asks.TheVariants.{One}
use Rattle.syn_propagate.specs.declared.next.SideRequest.{SideRequest}
use Rattle.syn_session.specs.Passing.{refused_at}
use Rattle.syn_coordinator.specs.inner.Carrying.{AsksLater, CarriesOn, EndsCarrying, afterwards}
use Rattle.syn_session.specs.Carrying.{AsksFor, IsCarriedOut}
use Rattle.syn_coordinator.specs.inner.Settling.{AsksSo, EndsSo, HasCome, IsPast, IsQuiet}
use Rattle.syn_session.specs.Stages.{AreAskedBefore, Carries, Reached, plan_in}
use Rattle.syn_coordinator.specs.declared.session_end.SessionEnd.{SessionEnd}
use Rattle.syn_coordinator.specs.inner.Walking.{IsAtItem, Passes}
use Rattle.syn_coordinator.proofs.PassLemmas.{asks_here, at_turn, some_in, turn_asks, turn_ends}
use Rattle.syn_coordinator.proofs.PassLemmas.{turn_further}
use Rattle.syn_coordinator.proofs.WalkLemmas.{passes_refused}

module _ {D : Type 0} {disk : Ghosts D} (pair : ℕ) (taken : Exchange) (journal : Journal)
    (before : Reached) (left right : Found) (all : List Exchange) (old middle : PlanRunner D disk)
    (was progress : PlanProgress) (planned : Planned)
    (out : IsCarriedOut was left right all before planned)
    (past : IsPast old middle pair taken journal before progress left right) where
  -- it is past the item, and nothing was asked for the next
  come : HasCome old middle pair taken journal before progress left right all
  come = (
    past.0,
    past.1,
    past.3,
    omega (arith, past.2),
    subst (λ p. AreAskedBefore p progress.cursor all) plans
        (subst (λ n. AreAskedBefore (plan_in was left right) n all) next out.asked),
    past.4,
  )
    where
      plans : plan_in was left right ≡ plan_in progress left right
      plans =
          some_in _ _ (sym out.progress_is.plan
          ∙ (sym past.3.passes.has.plan ∙ past.3.progress_is.plan))

      next : suc was.cursor ≡ progress.cursor
      next = ap suc (sym out.progress_is.cursor) ∙ past.2

  -- nothing is being written there
  pub still_quiet : IsQuiet old journal → IsQuiet middle past.3.journal
  still_quiet quiet = (past.4, past.3.passes.quiet quiet.1)

  pub at_next : IsAtItem progress left right all past.3.after
  unfolding come
  at_next = at_turn pair taken journal before left right all old middle progress come

  module _ (new : PlanRunner D disk) (later : PlanProgress) where
    pub asks_later : (asks : Asks) →
        AsksSo middle new pair taken past.3.journal past.3.after later left right all asks →
        AsksLater old new pair taken journal before later left right all asks
    unfolding come
    asks_later asks so = record {
      asks_so =
          turn_asks pair taken journal before left right all old middle progress come new later asks
          so;
      later =
          omega (
            arith,
            past.2,
            past.3.progress_is.cursor,
            so.2.onward,
            turn_further pair taken
                journal before left right all old middle progress come new later asks so,
          );
    }

    pub ends_later : (how : SessionEnd) →
        EndsSo middle new pair taken past.3.journal past.3.after later left right how →
        EndsSo old new pair taken journal before later left right how
    unfolding come
    ends_later how so =
        turn_ends pair taken journal before left right all old middle progress come new later how so

    pub later_so : (result : Result Asks SessionEnd) → MatchResult result
        (AsksSo middle new pair taken past.3.journal past.3.after later left right all)
        (EndsSo middle new pair taken past.3.journal past.3.after later left right) →
        MatchResult result (AsksLater old new pair taken journal before later left right all)
        (EndsSo old new pair taken journal before later left right)
    later_so (Ok asks) so = asks_later asks so
    later_so (Err how) so = ends_later how so

-- a side refused what was asked for the item
pub refused_so : (pair : ℕ) (taken : Exchange) (journal : Journal) (before : Reached)
    (left right : Found) (all : List Exchange) (progress : PlanProgress) (planned : Planned)
    (out : IsCarriedOut progress left right all before planned) (why : Why) →
    taken.reply ≡ model.Refused why → IsFor progress.cursor planned taken.request →
    Passes pair taken journal before journal (refused_at before why planned) []
refused_so pair taken journal before left right all progress planned out why refused asked =
    passes_refused pair taken journal before planned
    (ap (λ p. slice_get (option_map_or (λ plan. plan) p []) before.cursor) out.progress_is.plan
    ∙ (ap (slice_get (plan_in progress left right)) out.progress_is.cursor ∙ out.at))
    why refused (subst (λ n. IsFor n planned taken.request) (sym out.progress_is.cursor) asked)

module _ {D : Type 0} {disk : Ghosts D} (pair : ℕ) (taken : Exchange) (journal : Journal)
    (before : Reached) (left right : Found) (all : List Exchange) where
  -- it asks for the same item again
  pub carries_further : (runner : PlanRunner D disk) (progress : PlanProgress) →
      IsMachine runner.archive pair journal → IsQuiet runner journal → (asked : SideRequest) →
      fault_of all taken.side taken.request taken.reply ≡ None → is_last taken.reply ≡ false →
      Carries journal.value progress left right (all ++ taken ∷ []) before
      (λ transfer. AsksFor transfer (all ++ taken ∷ []) asked) →
      CarriesOn runner runner pair taken journal before progress left right all (One asked)
  carries_further runner progress is quiet asked fault goes carries = record {
    fault = fault;
    asks_so =
        asks_here pair taken journal before left right runner is quiet progress
        (all ++ taken ∷ []) (One asked) carries;
    last = λ last. absurd (false≢true (sym goes ∙ last));
  }

  -- it is past the item
  pub goes_later : (old new : PlanRunner D disk) (progress : PlanProgress) →
      fault_of all taken.side taken.request taken.reply ≡ None →
      (result : Result Asks SessionEnd) → MatchResult result
      (AsksLater old new pair taken journal before progress left right (all ++ taken ∷ []))
      (EndsSo old new pair taken journal before progress left right) →
      MatchResult result (CarriesOn old new pair taken journal before progress left right all)
      (EndsCarrying old new pair taken journal before progress left right all)
  goes_later old new progress fault (Ok asks) so = record {
    fault = fault;
    asks_so = so.asks_so;
    last = λ last same. omega (arith, so.later, same);
  }
  goes_later old new progress fault (Err how) so = afterwards how fault so
