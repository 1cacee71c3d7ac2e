-- A tick is the step of a coordinator that ticks.
use Rattle.std.proofs.Common.{◌≡◌, ◌⊎◌, ℕ, inl, inr, Bool, true, false, not, if◌then◌else◌, List}
use Rattle.std.proofs.Common.{[], Option, Some, None, refl, sym, ap, ap₂, ◌∙◌, subst, ◌||◌}
use Rattle.std.proofs.Common.{nat_le}
use Rattle.std.specs.Prelude.{is_some, ◌&&◌}
use Rattle.syn_disk.specs.declared.disk.Disk.{Ghosts}
use Rattle.syn_machine.specs.Coordinator.{CoordinatorMachine, CoordinatorTicks, no_session}
use Rattle.syn_machine.specs.Coordinator.{resends, gives_up, Running, is_resent}
use Rattle.syn_machine.specs.Coordinator.{report_of, most_resends}
use Rattle.syn_machine.specs.Network.{Left, Right, Message}
use Rattle.syn_model.specs.Refusal.{Refusal, NoAnswer, Memory}
use Rattle.syn_coordinator.specs.Coordinators.{Does, Stands, ended_in, in_report, report_shown}
use Rattle.syn_coordinator.specs.Coordinators.{runs, goes_on}
use Rattle.syn_coordinator.specs.Machines.{IsMachine}
use Rattle.syn_coordinator.specs.Tries.{Tries}
use Rattle.syn_coordinator.specs.declared.coordinator.Coordinator.{Coordinator}
use Rattle.syn_coordinator.specs.declared.plan_runner.PlanRunner.{PlanRunner}
use Rattle.syn_session.specs.Sessions.{IsRunning, IsSession, Tells, is_worn_now, messages_now}
use Rattle.syn_session.specs.Sessions.{resent_once, IsStage, TellsOf, is_worn_out}
use Rattle.syn_session.specs.declared.session.Session.{Session as Ran, Session}
use Rattle.syn_model.specs.Archive as model
use Rattle.std.proofs.lemmas.Bool.{false≢true}
use Rattle.std.proofs.lemmas.List.Folds.{list_any-append}
use Rattle.syn_session.specs.declared.plan_progress.PlanProgress.{PlanProgress}
use Rattle.syn_session.specs.Stages.{reached_by}
use Rattle.syn_session.proofs.SessionLemmas.{messages_resent}
use Rattle.syn_model.proofs.BaseLemmas.{none_of}

-- whether it was sent again so often
pub worn_so : (archive : model.Archive) (session : Session) (running : Running) →
    IsSession archive session running → is_resent running ≡ is_worn_now session
worn_so archive session running is =
    list_any-append (λ one. nat_le most_resends one.resent) running.left running.right
    ∙ ap₂ (λ l r. is_worn_out l || is_worn_out r) (is.peer Left).waits (is.peer Right).waits

-- what a session tells of how far it came
pub tells_now : (archive : model.Archive) (session : Session) (running : Running) →
    IsSession archive session running → Tells session running
tells_now archive session running is =
    record { number = is.number; found = is.found; told = by session.progress is.stage }
  where
    by : (progress : Option PlanProgress) →
        IsStage archive session progress running.taken (reached_by running) →
        TellsOf progress (reached_by running)
    by None stage = stage.nothing
    by (Some progress) stage = (_, _, stage.carries.progress_is)

-- both run a session, or none does
pub run_alike : (archive : model.Archive) (session : Option Ran) (running : Option Running) →
    IsRunning archive session running → is_some running ≡ is_some session
run_alike archive None None is = refl
run_alike archive None (Some running) is = absurd is
run_alike archive (Some session) None is = absurd is
run_alike archive (Some session) (Some running) is = refl

-- the session of the model that this one is
pub session_of : (archive : model.Archive) (session : Ran) (running : Option Running) →
    IsRunning archive (Some session) running →
    (now : Running) × (running ≡ Some now) × IsSession archive session now
session_of archive session None is = absurd is
session_of archive session (Some now) is = (now, refl, is)

module _ {D : Type 0} {disk : Ghosts D} (old new : Coordinator D disk) (pair : ℕ)
    (machine : CoordinatorMachine) (stands : Stands old pair machine)
    (same : new.plan_runner ≡ old.plan_runner) (messages : List Message) where
  -- its archive stays
  stays : (running : Option Running) → IsRunning machine.journal.value new.running running →
      (is_some running ≡ true → is_some machine.running ≡ true) →
      Stands new pair (record machine { running = running })
  stays running is before =
      record {
        journal =
            subst (λ (r : PlanRunner D disk). IsMachine r.archive pair machine.journal) (sym same)
            stands.journal;
        running = is;
        quiet = λ some. stands.quiet (before some);
        untried = λ some. ap (λ r. r.tried) same ∙ stands.untried (before some);
        tries =
            subst (λ (r : PlanRunner D disk). Tries r.tried machine.journal) (sym same)
            stands.tries;
      }

  ended_by : (was is : Bool) → runs old ≡ was → runs new ≡ is →
      ended_in old new ≡ (if was && not is then in_report (report_shown new) else [])
  ended_by was is = λ o n. ap₂ (λ a b. if a && not b then in_report (report_shown new) else []) o n

  pub tick_none : old.running ≡ None → new.running ≡ None → messages ≡ [] →
      Does old new pair (CoordinatorTicks machine) [] messages
  tick_none was is nothing =
      let none = none_of machine.running (run_alike machine.journal.value old.running
      machine.running stands.running ∙ ap is_some was) in
      goes_on _ _ (no_session none)
      (stays machine.running (subst (λ s. IsRunning machine.journal.value s machine.running)
      (was ∙ sym is) stands.running) (λ some. some)) refl (sym nothing)
      (sym (ended_by false false (ap is_some was) (ap is_some is)))

  module _ (session : Ran) (was : old.running ≡ Some session) where
    now : (running : Running) × (machine.running ≡ Some running)
        × IsSession machine.journal.value session running
    now =
        session_of machine.journal.value session machine.running
        (subst (λ s. IsRunning machine.journal.value s machine.running) was stands.running)

    pub tick_again : (again : Ran) → is_worn_now session ≡ false →
        new.running ≡ Some again → ((archive : model.Archive) (running : Running) →
        IsSession archive session running → IsSession archive again (resent_once running)) →
        messages ≡ messages_now session → Does old new pair (CoordinatorTicks machine) [] messages
    tick_again again fresh is resent sent =
        let running = now.0 in
        let session_is = now.2 in
        goes_on _ _
        (resends running now.1 (worn_so machine.journal.value session running session_is ∙ fresh))
        (stays (Some (resent_once running))
        (subst (λ s. IsRunning machine.journal.value s (Some (resent_once running))) (sym is)
        (resent machine.journal.value running session_is)) (λ _. ap is_some now.1)) refl
        (sym (sent ∙ messages_resent machine.journal.value session running session_is))
        (sym (ended_by true true (ap is_some was) (ap is_some is)))

    pub tick_ends : (why : Refusal) → ((is_worn_now session ≡ true) × (why ≡ NoAnswer))
        ⊎ ((is_worn_now session ≡ false) × (why ≡ Memory)) →
        new.running ≡ None → ((running : Running) → Tells session running →
        report_shown new ≡ Some (report_of running (Some why))) → messages ≡ [] →
        Does old new pair (CoordinatorTicks machine) [] messages
    tick_ends why cause is report nothing =
        let running = now.0 in
        let session_is = now.2 in
        let worn = worn_so machine.journal.value session running session_is in
        goes_on _ _ (gives_up running why now.1 (elim cause as (λ _. ((is_resent running ≡ true)
        × (why ≡ NoAnswer)) ⊎ ((is_resent running ≡ false) × (why ≡ Memory))) [
          | inl often ↦ inl
              (worn ∙ often.0, often.1)
          | inr fresh ↦ inr (worn ∙ fresh.0, fresh.1)
        ]))
        (stays None (subst (λ s. IsRunning machine.journal.value s None) (sym is) tt)
        (λ never. absurd (false≢true never))) refl (sym nothing)
        (sym (ended_by true false (ap is_some was) (ap is_some is) ∙ ap in_report
        (report running (tells_now machine.journal.value session running session_is))))
