use Rattle.std.proofs.Common.{ap, arith, subst, sym}
use Rattle.syn_machine.specs.Coordinator.{coordinator_kind}
use Rattle.syn_machine.specs.MachineSteps.{OpensDown, is_open}
use Rattle.syn_world.specs.CoordinatorOpenings.{OpeningIsStep}
use Rattle.syn_world.specs.Coordinators.{IsCoordinator, archive_disk}
use Rattle.syn_world.proofs.CoordinatorHostLemmas.{is_not_down}
use Rattle.syn_world.proofs.coordinator.CoordinatorHost.open.Goals as goal

pub returns-in-Up : goal.returns-in-Up
returns-in-Up g c machine is =
    let stands = subst (λ s. IsCoordinator c.args.pair s machine) c.in-Up.is is in
    record {
      next = machine;
      step = is_open (is_not_down c.args.pair c.in-Up.coordinator machine stands);
      is = stands;
      counts = omega (arith, ap (λ s. g.D.Disk.failures (archive_disk s)) c.in-Up.is);
    }

pub returns-in-Down : goal.returns-in-Down
returns-in-Down g c machine is =
    subst (λ n. OpeningIsStep c.args.pair machine n
    (OpensDown (coordinator_kind c.args.pair) machine) c.open_down.result)
    (sym (ap (λ s. g.D.Disk.failures (archive_disk s)) c.in-Down.is))
    (c.open_down.ensures machine
    (subst (λ s. IsCoordinator c.args.pair s machine) c.in-Down.is is))
