use Rattle.std.proofs.Common.{◌∙◌, ap, arith, subst}
use Rattle.syn_disk.specs.Arms.{is_stopped}
use Rattle.syn_machine.specs.Coordinator.{coordinator_kind}
use Rattle.syn_machine.specs.Machine.{Arms}
use Rattle.syn_machine.specs.MachineSteps.{arming, is_done, is_down, with_device}
use Rattle.syn_world.specs.Coordinators.{IsCoordinator, archive_disk}
use Rattle.syn_journal.specs.Calls.{armed_at}
use Rattle.syn_coordinator.specs.Coordinators.{Stands}
use Rattle.syn_world.proofs.CoordinatorHostLemmas.{is_not_down, same_arms}
use Rattle.syn_world.proofs.coordinator.CoordinatorHost.fail.Goals as goal

pub returns-in-Up : goal.returns-in-Up
returns-in-Up g c pair machine is =
    let stands = subst (λ s. IsCoordinator pair s machine) c.in-Up.is is in
    let other = is_not_down pair c.in-Up.coordinator machine stands in
    let goes = ap is_stopped c.armed_with.ensures.arms ∙ stands.journal.goes in
    let left = λ (arms : Arms).
    with_device (coordinator_kind pair) machine machine.journal.status arms 0 in
    record {
      next = left (record machine.journal.arms { fail = c.args.call });
      step = is_done _ _ _ other arming;
      is = subst (λ a. Stands c.armed_with.result pair (left a))
          (ap armed_at c.armed_with.ensures.arms
          ∙ ap (λ (a : Arms). record a { fail = c.args.call }) stands.journal.armed)
          (subst (λ m. Stands c.armed_with.result pair m) (same_arms pair machine _ other)
          (c.armed_with.ensures.stands pair machine stands goes));
      counts =
          omega (
            arith,
            c.armed_with.ensures.count,
            ap (λ s. g.D.Disk.failures (archive_disk s)) c.in-Up.is,
          );
    }

pub returns-in-Down : goal.returns-in-Down
returns-in-Down g c pair machine is =
    let rests = subst (λ s. IsCoordinator pair s machine) c.in-Down.is is in
    record {
      next = machine;
      step = is_down rests.rests.down;
      is = rests;
      counts = omega (arith, ap (λ s. g.D.Disk.failures (archive_disk s)) c.in-Down.is);
    }
