use Rattle.std.proofs.Common.{◌<◌, ◌^◌, Some, ap, subst, refl, inl, inr}
use Rattle.std.proofs.lemmas.Option.{none-some}
use Rattle.syn_archive.specs.Archive.{disk_of}
use Rattle.syn_archive.specs.Refusals.{refusal_of}
use Rattle.syn_archive.specs.Machines.{CompactsImage}
use Rattle.syn_journal.specs.Endings.{CountsFailures}
use Rattle.syn_model.specs.Refusal.{Device}
use Rattle.syn_coordinator.proofs.RefusedLemmas.{checkpoint_does, refused_for, when_up, up_not_down}
use Rattle.syn_coordinator.proofs.RefusedLemmas.{halted_not_down, none_stands}
use Rattle.syn_coordinator.proofs.OutcomeLemmas.{device_not_full, not_halted, ok_not_full}
use Rattle.syn_coordinator.proofs.DueLemmas.{stays, was_compacted, was_cut_short}
use Rattle.syn_coordinator.proofs.DueLemmas.{when_up as runs_up}
use Rattle.syn_coordinator.proofs.StayLemmas.{same_machine}
use Rattle.syn_coordinator.proofs.HaltLemmas.{stands_not_halted, up_not_halted}
use Rattle.syn_coordinator.proofs.coordinator.Coordinator.checkpoint.Goals as goal

pub returns-in-Ok-clause-step : goal.returns-in-Ok-clause-step
returns-in-Ok-clause-step g c pair machine stands =
    let is = stands.journal in
    let was = when_up c.args.self.now.plan_runner.archive pair machine is
    (subst (λ n. n < 2 ^ 64) c.generation-generation.ensures c.is_long.ensures)
    (λ h. none-some _ (c.in-Ok.ensures.machine.halted.1 h)) in
    checkpoint_does c.args.self.now _ pair machine stands refl was refl _ up_not_down
    (was_compacted c.checkpoint.new.self pair machine.journal
    (c.in-Ok.ensures.world pair machine.journal is))

pub returns-in-Err-clause-step : goal.returns-in-Err-clause-step
returns-in-Err-clause-step g c pair machine stands device =
    let is = stands.journal in
    let was = when_up c.args.self.now.plan_runner.archive pair machine is
    (subst (λ n. n < 2 ^ 64) c.generation-generation.ensures c.is_long.ensures)
    (λ h. not_halted c.in-Err.error Device (ap refusal_of device) (λ is. cc)
    (c.in-Err.ensures.machine.halted.1 h)) in
    checkpoint_does c.args.self.now _ pair machine stands refl was refl _ halted_not_down
    (was_cut_short c.checkpoint.new.self pair machine.journal (subst
    (λ e. CompactsImage c.checkpoint.new.self pair machine.journal (Some (refusal_of e))) device
    (c.in-Err.ensures.world pair machine.journal is)))

pub returns-in-Err-clause-refused : goal.returns-in-Err-clause-refused
returns-in-Err-clause-refused g c pair machine stands other = (
  refused_for c.args.self.now.plan_runner.archive pair machine stands.journal
      (subst (λ n. n < 2 ^ 64) c.generation-generation.ensures c.is_long.ensures) _ c.in-Err.error
      c.in-Err.ensures.refusals other c.in-Err.ensures.machine.halted c.in-Err.ensures.greatest,
  record {
    journal =
        stays c.args.self.now.plan_runner.archive c.checkpoint.new.self pair machine.journal
        stands.journal
        c.in-Err.error other c.in-Err.ensures.machine.unchanged c.in-Err.ensures.machine.readings;
    running = stands.running;
    quiet = stands.quiet;
    untried = stands.untried;
    tries = stands.tries;
  },
)

pub returns-in-Ok-clause-allowed : goal.returns-in-Ok-clause-allowed
returns-in-Ok-clause-allowed g c pair machine stands =
    let was = when_up c.args.self.now.plan_runner.archive pair machine stands.journal
    (subst (λ n. n < 2 ^ 64) c.generation-generation.ensures c.is_long.ensures)
    (λ h. none-some _ (c.in-Ok.ensures.machine.halted.1 h)) in
    none_stands c.args.self.now.plan_runner.archive pair machine stands.journal
    (subst (λ n. n < 2 ^ 64) c.generation-generation.ensures c.is_long.ensures)
    (λ h. none-some _ (c.in-Ok.ensures.machine.halted.1 h))
    (λ e. ok_not_full _ _ refl ((c.in-Ok.ensures.greatest _ was.stands).1 e))

pub returns-in-Err-clause-allowed : goal.returns-in-Err-clause-allowed
returns-in-Err-clause-allowed g c pair machine stands device =
    let was = when_up c.args.self.now.plan_runner.archive pair machine stands.journal
    (subst (λ n. n < 2 ^ 64) c.generation-generation.ensures c.is_long.ensures)
    (λ h. not_halted c.in-Err.error Device (ap refusal_of device) (λ is. cc)
    (c.in-Err.ensures.machine.halted.1 h)) in
    none_stands c.args.self.now.plan_runner.archive pair machine stands.journal
    (subst (λ n. n < 2 ^ 64) c.generation-generation.ensures c.is_long.ensures)
    (λ h. not_halted c.in-Err.error Device (ap refusal_of device) (λ is. cc)
    (c.in-Err.ensures.machine.halted.1 h))
    (λ e. device_not_full _ _ device ((c.in-Err.ensures.greatest _ was.stands).1 e))

pub returns-in-Ok-clause-halts : goal.returns-in-Ok-clause-halts
returns-in-Ok-clause-halts g c pair machine stands up halted =
    let was = runs_up c.args.self.now.plan_runner.archive pair machine.journal stands.journal up in
    absurd (stands_not_halted c.checkpoint.new.self _
    (c.in-Ok.ensures.acknowledged _ was.stands) halted)

pub returns-in-Err-clause-halts : goal.returns-in-Err-clause-halts
returns-in-Err-clause-halts g c pair machine stands up halted =
    elim c.in-Err.ensures.machine.unchanged [
      | inl device ↦ inl (subst (λ w. CountsFailures (Some w)
          (g.D.Disk.failures (disk_of c.args.self.now.plan_runner.archive))
          (g.D.Disk.failures (disk_of c.checkpoint.new.self))) device
          c.in-Err.ensures.machine.device.failures)
      | inr same ↦ absurd (up_not_halted c.checkpoint.new.self pair machine.journal
          (same_machine c.args.self.now.plan_runner.archive c.checkpoint.new.self same
          c.in-Err.ensures.machine.readings pair machine.journal stands.journal) up halted)
    ]
