use Rattle.std.proofs.Common.{ap, arith, subst, sym}
use Rattle.syn_machine.specs.Coordinator.{coordinator_kind}
use Rattle.syn_machine.specs.MachineSteps.{Does, Reopen, is_down}
use Rattle.syn_world.specs.CoordinatorOpenings.{OpeningIsStep}
use Rattle.syn_world.specs.Coordinators.{IsCoordinator, archive_disk}
use Rattle.syn_world.proofs.coordinator.CoordinatorHost.reopen.Goals as goal

pub returns-in-Up : goal.returns-in-Up
returns-in-Up g c pair machine is =
    subst (λ n. OpeningIsStep pair machine n (Does (coordinator_kind pair) machine Reopen)
    c.reopen_up.result) (sym (ap (λ s. g.D.Disk.failures (archive_disk s)) c.in-Up.is))
    (c.reopen_up.ensures pair machine (subst (λ s. IsCoordinator pair s machine) c.in-Up.is is))

pub returns-in-Down : goal.returns-in-Down
returns-in-Down g c pair machine is =
    let rests = subst (λ s. IsCoordinator pair s machine) c.in-Down.is is in
    record {
      next = machine;
      step = is_down rests.rests.down;
      is = rests;
      counts = omega (arith, ap (λ s. g.D.Disk.failures (archive_disk s)) c.in-Down.is);
    }
