-- What an answer for the item that a session has come to comes to, where that item is carried.
use Rattle.std.specs.Prelude.{◌≡◌, ◌⊎◌, ◌≤◌, ◌≢◌, ℕ, suc, true, List, [], ◌∷◌, ◌++◌, None, Some}
use Rattle.std.specs.Prelude.{MatchResult, Result}
use Rattle.syn_coordinator.specs.PlanRunners.{written}
use Rattle.syn_coordinator.specs.declared.plan_runner.PlanRunner.{PlanRunner}
use Rattle.syn_coordinator.specs.declared.session_end.SessionEnd.{SessionEnd}
use Rattle.syn_coordinator.specs.declared.session_end.SessionEnd.TheVariants.{Early}
use Rattle.syn_coordinator.specs.inner.Settling.{AsksSo, EndsSo, IsQuiet}
use Rattle.syn_disk.specs.declared.disk.Disk.{Ghosts}
use Rattle.syn_machine.specs.Coordinator.{Exchange, fault_of, is_last}
use Rattle.syn_machine.specs.Planning.{Planned}
use Rattle.syn_coordinator.specs.Machines.{IsMachine, Journal}
use Rattle.syn_model.specs.Refusal.{Memory}
use Rattle.syn_refusal.specs.Refusals.{cause_of}
use Rattle.syn_refusal.specs.declared.refusal.Refusal.{Refusal}
use Rattle.syn_scan.specs.Found.{Found}
use Rattle.syn_session.specs.Carrying.{IsCarriedOut}
use Rattle.syn_session.specs.Stages.{IsPlanProgress, Reached}
use Rattle.syn_session.specs.declared.plan_progress.PlanProgress.{PlanProgress}
use Rattle.syn_session.specs.declared.session.Asks.{Asks}

module _ {D : Type 0} {disk : Ghosts D} (old new : PlanRunner D disk) (pair : ℕ)
    (taken : Exchange) (journal : Journal) (before : Reached) (progress : PlanProgress)
    (left right : Found) (all : List Exchange) where
  -- it asks for a later item
  pub record AsksLater (asks : Asks) : Type 0 where
    pub asks_so : AsksSo old new pair taken journal before progress left right all asks
    pub later : suc before.cursor ≤ asks_so.2.after.cursor

  -- the answer does not end the session, and it asks for this; after a last one, for a later item
  pub record CarriesOn (asks : Asks) : Type 0 where
    pub fault : fault_of all taken.side taken.request taken.reply ≡ None
    pub asks_so : AsksSo old new pair taken journal before progress left right
        (all ++ taken ∷ []) asks
    pub last : is_last taken.reply ≡ true → asks_so.2.after.cursor ≢ before.cursor

  -- the session ends with the answer at once, or after it
  pub data EndsCarrying : SessionEnd → Type 0 where
    at_once : (why : Refusal) →
        (fault_of all taken.side taken.request taken.reply ≡ Some (cause_of why))
        ⊎ (cause_of why ≡ Memory) →
        written new ≡ written old → IsMachine new.archive pair journal →
        IsQuiet new journal → IsPlanProgress progress left right before → EndsCarrying (Early why)
    afterwards : (ended : SessionEnd) → fault_of all taken.side taken.request taken.reply ≡ None →
        EndsSo old new pair taken journal before progress left right ended → EndsCarrying ended

-- The item that is carried is left for this cause: it asks for a later one, or the session ends
abbrev pub LeavesItem : {D : Type 0} → {disk : Ghosts D} → PlanRunner D disk → PlanRunner D disk →
    PlanProgress → PlanProgress → Found → Found → (Planned → Exchange → Type 0) →
    Result Asks SessionEnd → Type 0
LeavesItem old new was progress left right Because result = (pair : ℕ) (journal : Journal)
    (taken : Exchange) (all : List Exchange) (before : Reached) (planned : Planned)
    → IsMachine old.archive pair journal → IsQuiet old journal
    → IsCarriedOut was left right all before planned → Because planned taken
    → MatchResult result (AsksLater old new pair taken journal before progress left right all)
    (EndsSo old new pair taken journal before progress left right)
