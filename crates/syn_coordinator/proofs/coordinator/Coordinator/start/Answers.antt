use Rattle.std.proofs.Common.{◌≡◌, ◌≢◌, ◌<◌, ◌^◌, ◌+◌, [], ◌∷◌, Some, Err, inl, inr}
use Rattle.std.proofs.Common.{sym, ap, ap₂, ◌∙◌, subst, true, option_map}
use Rattle.syn_machine.specs.Coordinator.{CoordinatorStarts}
use Rattle.syn_machine.specs.Machine.{Up, Halted}
use Rattle.syn_model.specs.Archive.{Session}
use Rattle.syn_model.specs.Refusal as why
use Rattle.syn_model.specs.Refusal.{first_cause}
use Rattle.syn_archive.specs.Archive.{IsHalted, disk_of}
use Rattle.syn_coordinator.specs.Coordinators.{Does, Stands, all_causes}
use Rattle.syn_coordinator.specs.PlanRunners.{written}
use Rattle.syn_coordinator.specs.declared.plan_runner.PlanRunner.{PlanRunner}
use Rattle.syn_disk.specs.Arms.{is_stopped}
use Rattle.syn_coordinator.specs.Coordinators.{refusals_of}
use Rattle.syn_coordinator.specs.Refusals.{CountsFailures, refusal_of}
use Rattle.syn_session.specs.Sendings.{messages_of}
use Rattle.syn_coordinator.specs.declared.error.StartError.TheVariants.{Device}
use Rattle.syn_model.specs.Archive as model
use Rattle.syn_session.specs.Sessions.{IsSession, begin_messages, begun}
use Rattle.syn_coordinator.specs.Steps.{KeepsSo}
use Rattle.syn_coordinator.specs.Tries.{HoldsTried, Tries}
use Rattle.syn_coordinator.proofs.DueLemmas.{when_runs}
use Rattle.syn_model.proofs.ExitLemmas.{if_err_of_exit, match_of_exit}
use Rattle.syn_coordinator.proofs.HaltLemmas.{keeps_not_halted, up_not_halted}
use Rattle.syn_coordinator.proofs.StartLemmas.{room_for, started, start_failed}
use Rattle.syn_coordinator.proofs.StartLemmas.{then_memory}
use Rattle.syn_coordinator.proofs.TriedLemmas.{untried_up}
use Rattle.syn_coordinator.proofs.coordinator.Coordinator.start.Goals as goal
use Rattle.syn_path.specs.Sides.{which_of}
use Rattle.syn_model.proofs.BaseLemmas.{none_of}
use Rattle.syn_model.proofs.HistoryLemmas.{first_stays}

pub returns-in_err-check_start-clause-step : goal.returns-in_err-check_start-clause-step
returns-in_err-check_start-clause-step g c pair machine stands =
    match_of_exit c.from_residual.result _ _ (λ e. e ≡ Device →
    Does c.args.self.now c.args.self.now pair
    (CoordinatorStarts pair (option_map which_of c.args.preference) machine) [] [])
    c.from_residual.ensures.1
    (λ e. absurd (c.in_err-check_start.ensures.no_call e))

pub returns-in_err-check_start-clause-refused : goal.returns-in_err-check_start-clause-refused
returns-in_err-check_start-clause-refused g c pair machine stands =
    if_err_of_exit c.from_residual.result _ (λ e. e ≢ Device →
    (first_cause (all_causes pair machine) ≡ Some (refusal_of e))
    × Stands c.args.self.now pair machine)
    c.from_residual.ensures.1
    (λ other. (
      first_stays (refusals_of pair machine) ((true, why.Memory) ∷ []) _
          (c.in_err-check_start.ensures.refused pair machine stands),
      stands,
    ))

pub returns-in-Err-clause-step : goal.returns-in-Err-clause-step
returns-in-Err-clause-step g c pair machine stands e =
    let last = ap (λ a. a.last_session) stands.journal.remembers in
    let numbered = ap (λ n. n + 1) (c.last_session-number.ensures ∙ last) in
    let device = ap (λ e. Err e) e in
    start_failed (option_map which_of c.args.preference) c.args.self.now _ pair machine
    c.in_ok-check_start.ensures.idle
    (subst (λ n. HoldsTried c.keep_session.new.self.archive (Session n)
    c.keep_session.new.self.tried) numbered (c.in-Err.ensures.breaks device).2)
    (room_for pair machine (c.in_ok-check_start.ensures.refused pair machine stands))
    (none_of c.args.self.now.running c.in_ok-check_start.ensures.idle)
    (subst (λ n. KeepsSo c.keep_session.new.self.archive pair machine.journal (Session n) []
    Halted) numbered (c.in-Err.ensures.device pair machine.journal stands.journal device))

pub returns-in-Err-clause-refused : goal.returns-in-Err-clause-refused
returns-in-Err-clause-refused g c pair machine stands other =
    elim (c.in-Err.ensures.memory pair machine.journal stands.journal) [
      | inl device ↦ absurd (other device)
      | inr memory ↦
          let stays = c.in-Err.ensures.stays other in (
            then_memory (refusals_of pair machine) (c.in_ok-check_start.ensures.refused
                pair machine stands) ∙ ap (λ e. Some (refusal_of e)) (sym memory.0),
            record {
              journal = memory.1;
              running = stands.running;
              quiet = stands.quiet;
              untried = λ some. stays.2 ∙ stands.untried some;
              tries = subst (λ t. Tries t machine.journal) (sym stays.2) stands.tries;
            },
          )
    ]

pub returns-in-Ok-clause-step : goal.returns-in-Ok-clause-step
returns-in-Ok-clause-step g c pair machine stands =
    let was = when_runs c.args.self.now.plan_runner.archive pair machine.journal stands.journal
    c.in_ok-check_start.ensures.up in
    let last = ap (λ a. a.last_session) stands.journal.remembers in
    let numbered = ap (λ n. n + 1) (c.last_session-number.ensures ∙ last) in
    let of_pair = c.pair.ensures ∙ stands.journal.pair_is in
    let begins = λ (archive : model.Archive). subst
    (λ r. IsSession archive c.in_ok-session.session r) (ap₂ (begun
    (option_map which_of c.args.preference)) numbered of_pair)
    (c.in_ok-session.ensures.begun archive) in
    let kept = subst (λ (r : PlanRunner _ g.D.Disk). KeepsSo r.archive pair machine.journal
    (Session (machine.journal.value.last_session + 1))
    (Session (machine.journal.value.last_session + 1) ∷ []) Up) (sym c.run.ensures.plan_runner)
    (subst (λ n. KeepsSo c.keep_session.new.self.archive pair machine.journal
    (Session n) (Session n ∷ []) Up) numbered
    (c.in-Ok.ensures.ok pair machine.journal stands.journal)) in
    let written_is = ap written c.run.ensures.plan_runner
    ∙ (c.in-Ok.ensures.written ∙ ap (λ n. Session n ∷ []) numbered) in
    let untried = ap (λ r. r.tried) c.run.ensures.plan_runner ∙ (c.in-Ok.ensures.untried
    ∙ untried_up c.args.self.now.plan_runner.tried machine.journal stands.tries was.up) in
    let sent = c.in_ok-session.ensures.sends ∙ ap₂ begin_messages numbered of_pair in
    subst (λ w. Does c.args.self.now c.run.new.self pair
    (CoordinatorStarts pair (option_map which_of c.args.preference) machine) w
    (messages_of c.in_ok-session.sends.items)) (sym written_is)
    (subst (λ m. Does c.args.self.now c.run.new.self pair
    (CoordinatorStarts pair (option_map which_of c.args.preference) machine)
    (Session (machine.journal.value.last_session + 1) ∷ []) m) (sym sent)
    (started (option_map which_of c.args.preference) c.args.self.now c.run.new.self pair
    machine c.in_ok-check_start.ensures.idle
    (subst (λ n. n + 1 < 2 ^ 64) last c.in_ok-check_start.ensures.fits) (subst (λ p. p < 2 ^ 64)
    of_pair c.in_ok-session.ensures.fits) was.idle untried
    c.in_ok-session.session c.run.ensures.running begins kept))

pub returns-in_err-session-clause-refused : goal.returns-in_err-session-clause-refused
returns-in_err-session-clause-refused g c pair machine stands =
    if_err_of_exit c.from_residual-in_err-session.result _ (λ e. e ≢ Device →
    (first_cause (all_causes pair machine) ≡ Some (refusal_of e))
    × Stands c.args.self.now pair machine)
    c.from_residual-in_err-session.ensures.1
    (λ other. (
      then_memory (refusals_of pair machine)
          (c.in_ok-check_start.ensures.refused pair machine stands),
      stands,
    ))

pub returns-in-Ok-clause-allowed : goal.returns-in-Ok-clause-allowed
returns-in-Ok-clause-allowed g c pair machine stands =
    c.in_ok-check_start.ensures.refused pair machine stands

pub returns-in-Err-clause-allowed : goal.returns-in-Err-clause-allowed
returns-in-Err-clause-allowed g c pair machine stands e =
    c.in_ok-check_start.ensures.refused pair machine stands

pub returns-in_err-check_start-clause-halts : goal.returns-in_err-check_start-clause-halts
returns-in_err-check_start-clause-halts g c pair machine stands up halted =
    absurd (up_not_halted c.args.self.now.plan_runner.archive pair machine.journal stands.journal up
    halted)

pub returns-in_err-session-clause-halts : goal.returns-in_err-session-clause-halts
returns-in_err-session-clause-halts g c pair machine stands up halted =
    absurd (up_not_halted c.args.self.now.plan_runner.archive pair machine.journal stands.journal up
    halted)

pub returns-in-Ok-clause-halts : goal.returns-in-Ok-clause-halts
returns-in-Ok-clause-halts g c pair machine stands up halted =
    inr (subst (λ (r : PlanRunner _ g.D.Disk). is_stopped (g.D.Disk.arms (disk_of r.archive)) ≡
    true)
    (sym c.run.ensures.plan_runner) (keeps_not_halted c.keep_session.new.self.archive pair
    machine.journal _ _ (c.in-Ok.ensures.ok pair machine.journal stands.journal)
    (subst (λ (r : PlanRunner _ g.D.Disk). IsHalted r.archive) c.run.ensures.plan_runner halted)))

pub returns-in-Err-clause-halts : goal.returns-in-Err-clause-halts
returns-in-Err-clause-halts g c pair machine stands up halted =
    elim (c.in-Err.ensures.memory pair machine.journal stands.journal) [
      | inl device ↦ inl (subst (λ e. CountsFailures e
          (g.D.Disk.failures (disk_of c.args.self.now.plan_runner.archive))
          (g.D.Disk.failures (disk_of c.keep_session.new.self.archive))) device
          c.in-Err.ensures.failures)
      | inr memory ↦ absurd (up_not_halted c.keep_session.new.self.archive pair machine.journal
          memory.1 up halted)
    ]
