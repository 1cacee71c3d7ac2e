-- What no coordinator does.
use Rattle.std.specs.Prelude.{All}
use Rattle.std.proofs.Common.{◌≡◌, ◌≢◌, ◌&&◌, ℕ, not, nat_lt, is_some, length, Bool, true, false}
use Rattle.std.proofs.Common.{true≢false, if◌then◌else◌, [], ◌∷◌, refl, sym, ap, ◌∙◌, Option, Some}
use Rattle.std.proofs.Common.{None, inl, inr, List, subst, ◌⊎◌}
use Rattle.std.proofs.lemmas.List.Elements.{All-nil, All-cons}
use Rattle.std.proofs.lemmas.Option.{none-some, same_Some}
use Rattle.syn_model.specs.Refusal.{Refusal, NoAnswer, Memory, TooLarge, BadMessage, Device, Halted}
use Rattle.syn_model.specs.Refusal.{JournalFull}
use Rattle.syn_model.specs.Archive.{Kept}
use Rattle.syn_machine.specs.Report.{Report, Complete, Incomplete}
use Rattle.syn_machine.specs.Machine.{Status}
use Rattle.syn_machine.specs.Coordinator.{CoordinatorMachine, Running, Exchange, Call, Walk}
use Rattle.syn_machine.specs.Coordinator.{EndsFor, CoordinatorTicks, is_resent, took_not_dir}
use Rattle.syn_machine.specs.Coordinator.{is_whole, report_of, Takes, after_taking, fault_of}
use Rattle.syn_machine.specs.Coordinator.{GoesThrough}
use Rattle.syn_machine.specs.Planning.{Planned}
use Rattle.syn_runs.proofs.FineRuns.{owe}
use Rattle.syn_witness.specs.Forbidden.{StartsFresh, BeginsOnce, FaultsAlone, UnstableIsIncomplete}
use Rattle.syn_witness.specs.Forbidden.{FailureEnds}
use Rattle.syn_machine.specs.Coordinator as coordinator

pub one_report : (P : Report → Type 0) (report : Report) → P report → All P (report ∷ [])
one_report P report h = All-cons P report [] h (All-nil P)

-- What holds of the report of each call that takes an answer, and of the machine after it: it does
-- where the answer ends the session at once, and where the session ends as the call has gone
-- through its plan
module _ (pair : ℕ) (old : CoordinatorMachine) (running : Running) (taken : Exchange)
    (P : CoordinatorMachine → Report → Type 0) where
  abbrev AtOnce : Type 0
  AtOnce = (why : Refusal) →
      (fault_of running.taken taken.side taken.request taken.reply ≡ Some why) ⊎ (why ≡ Memory) →
      P (record old { running = None }) (report_of running (Some why))

  abbrev AtEnd : Type 0
  AtEnd = (plan : Option (List Planned)) (walk : Walk) (kept : List Kept)
      (why : Option Refusal) → GoesThrough pair old running taken plan kept walk →
      EndsFor pair (after_taking running taken plan walk kept) taken old.journal.status walk why →
      P (record { journal = walk.journal; running = None })
      (report_of (after_taking running taken plan walk kept) why)

  pub each_report : AtOnce → AtEnd → (new : CoordinatorMachine) (call : Call) →
      Takes pair old running taken new call → All (P new) call.reports
  each_report at_once at_end _ _ (coordinator.ends_at_once why fault) =
      one_report (P (record old { running = None })) (report_of running (Some why))
      (at_once why fault)
  each_report at_once at_end _ _
      (coordinator.stops plan logged walk kept fault has advances down) =
      All-nil (P (record { journal = walk.journal; running = None }))
  each_report at_once at_end _ _
      (coordinator.ends plan logged walk kept why fault has advances ends) =
      one_report (P (record { journal = walk.journal; running = None }))
      (report_of (after_taking running taken plan walk kept) why)
      (at_end plan walk kept why advances ends)
  each_report at_once at_end _ _ (coordinator.goes_on plan logged walk kept left right fault has
      advances rests stays moves asks) =
      All-nil (P _)

  -- where the answer has no fault, lack of memory alone ends the session at once
  pub faultless_report :
      fault_of running.taken taken.side taken.request taken.reply ≡ None →
      P (record old { running = None }) (report_of running (Some Memory)) → AtEnd →
      (new : CoordinatorMachine) (call : Call) → Takes pair old running taken new call →
      All (P new) call.reports
  faultless_report none short at_end =
      each_report (λ why because. elim because
      as (λ _. P (record old { running = None }) (report_of running (Some why))) [
        | inl fault ↦ absurd (none-some _ (sym none ∙ fault))
        | inr memory ↦ subst (λ why. P (record old { running = None })
            (report_of running (Some why))) (sym memory) short
      ]) at_end

-- requests that were just sent were not resent
ticks_fresh : (machine new : CoordinatorMachine) (call : Call) (running : Running) →
    machine.running ≡ Some running → is_resent running ≡ false → CoordinatorTicks machine new call →
    All (λ report. report.ended ≢ Some NoAnswer) call.reports
ticks_fresh machine _ _ running is fresh (coordinator.no_session none) =
    All-nil (λ report. report.ended ≢ Some NoAnswer)
ticks_fresh machine _ _ running is fresh (coordinator.resends r e few) =
    All-nil (λ report. report.ended ≢ Some NoAnswer)
ticks_fresh machine _ _ running is fresh (coordinator.gives_up r why e (inl (late, because))) =
    absurd (true≢false (sym late ∙ (ap is_resent (same_Some _ _ (sym e ∙ is)) ∙ fresh)))
ticks_fresh machine _ _ running is fresh (coordinator.gives_up r why e (inr (early, because))) =
    one_report (λ report. report.ended ≢ Some NoAnswer) (report_of r (Some why))
    (λ same. let x : Memory ≡ NoAnswer = sym because ∙ same_Some _ _ same in cc)

ticks_nothing : (machine new : CoordinatorMachine) (call : Call) → machine.running ≡ None →
    CoordinatorTicks machine new call → All (λ report. report.ended ≢ Some NoAnswer) call.reports
ticks_nothing machine _ _ none (coordinator.no_session is) =
    All-nil (λ report. report.ended ≢ Some NoAnswer)
ticks_nothing machine _ _ none (coordinator.resends r e few) =
    All-nil (λ report. report.ended ≢ Some NoAnswer)
ticks_nothing machine _ _ none (coordinator.gives_up r why e because) =
    absurd (none-some _ (sym none ∙ e))

pub starts_fresh : StartsFresh
starts_fresh pair preference old _ new _ ticked (coordinator.starts session journal next lawful
    keeps up) t =
    ticks_fresh _ new ticked _ refl refl t
starts_fresh pair preference old _ new _ ticked
    (coordinator.start_breaks session journal kept next keeps broken) t =
    ticks_nothing _ new ticked refl t

pub begins_once : BeginsOnce
begins_once old new steps s g side session m n pair again c d =
    (owe old new steps s g).2 side session m n _ _ c d tt

-- why a session ends that took an answer without a fault
ends_belong : (pair : ℕ) (running : Running) (taken : Exchange) (was : Status) (walk : Walk)
    (why : Option Refusal) → EndsFor pair running taken was walk why →
    (why ≢ Some TooLarge) × (why ≢ Some BadMessage)
ends_belong pair running taken was walk _ (coordinator.settled some over up) =
    (λ e. none-some _ e, λ e. none-some _ e)
ends_belong pair running taken was walk _ (coordinator.fails up now) = (
  λ e. let x : Device ≡ TooLarge = same_Some _ _ e in
      cc,
  λ e. let x : Device ≡ BadMessage = same_Some _ _ e in cc,
)
ends_belong pair running taken was walk _ (coordinator.failed_before planned kept at due up now) = (
  λ e. let x : Halted ≡ TooLarge = same_Some _ _ e in
      cc,
  λ e. let x : Halted ≡ BadMessage = same_Some _ _ e in cc,
)
ends_belong pair running taken was walk _ (coordinator.no_room_left kept full room) = (
  λ e. let x : JournalFull ≡ TooLarge = same_Some _ _ e in
      cc,
  λ e. let x : JournalFull ≡ BadMessage = same_Some _ _ e in cc,
)
ends_belong pair running taken was walk _ (coordinator.no_memory same) = (
  λ e. let x : Memory ≡ TooLarge = same_Some _ _ e in
      cc,
  λ e. let x : Memory ≡ BadMessage = same_Some _ _ e in cc,
)

pub faults_alone : FaultsAlone
faults_alone pair old running taken new call takes none =
    faultless_report pair old running taken
    (λ _ report. (report.ended ≢ Some TooLarge) × (report.ended ≢ Some BadMessage)) none (
      λ e. let x : Memory ≡ TooLarge = same_Some _ _ e in
          cc,
      λ e. let x : Memory ≡ BadMessage = same_Some _ _ e in cc,
    )
    (λ plan walk kept why advances ends. ends_belong pair _ taken _ walk why ends) new call takes

-- what has an unstable path is not whole
not_whole : (running : Running) (ended : Option Refusal) → took_not_dir running ≡ true →
    (report_of running ended).end ≢ Complete
not_whole running ended unstable =
    by (is_whole running ended) (whole_is (not (is_some ended)
    && not (nat_lt 0 (length running.refused))) (took_not_dir running) unstable)
  where
    whole_is : (a b : Bool) → b ≡ true → (a && not b) ≡ false
    whole_is true true e = refl
    whole_is false true e = refl
    whole_is a false e = absurd (true≢false (sym e))

    by : (b : Bool) → b ≡ false → (if b then Complete else Incomplete) ≢ Complete
    by true e c = true≢false e
    by false e c = let x : Incomplete ≡ Complete = c in cc

-- nor is what was ended early
not_early : (running : Running) (why : Refusal) → (report_of running (Some why)).end ≢ Complete
not_early running why c = let x : Incomplete ≡ Complete = c in cc

pub unstable_is_incomplete : UnstableIsIncomplete
unstable_is_incomplete pair old running taken new call takes unstable =
    each_report pair old running taken (λ _ report. report.end ≢ Complete)
    (λ why because. not_early running why)
    (λ plan walk kept why advances ends.
    not_whole (after_taking running taken plan walk kept) why unstable) new call takes

pub failure_ends : FailureEnds
failure_ends pair old running taken _ _ (coordinator.ends_at_once why fault) changed = refl
failure_ends pair old running taken _ _
    (coordinator.stops plan logged walk kept fault has advances down) changed =
    refl
failure_ends pair old running taken _ _
    (coordinator.ends plan logged walk kept why fault has advances ends) changed =
    refl
failure_ends pair old running taken _ _
    (coordinator.goes_on plan logged walk kept left right fault has advances rests stays moves asks)
    changed =
    absurd (changed stays)
