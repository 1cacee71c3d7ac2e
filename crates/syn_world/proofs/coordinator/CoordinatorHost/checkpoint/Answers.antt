use Rattle.std.proofs.Common.{refl, sym, subst}
use Rattle.syn_world.specs.Coordinators.{IsCoordinator, archive_disk}
use Rattle.syn_machine.specs.Coordinator.{coordinator_kind}
use Rattle.syn_machine.specs.MachineSteps.{Checkpoint, Does, is_down}
use Rattle.syn_world.specs.CoordinatorSteps.{CallIsStep}
use Rattle.syn_world.proofs.CallLemmas.{refused_call}
use Rattle.syn_world.proofs.CountLemmas.{down_still}
use Rattle.syn_world.proofs.coordinator.CoordinatorHost.checkpoint.Goals as goal

pub returns-in-Up : goal.returns-in-Up
returns-in-Up g c pair machine is =
    subst (λ s. CallIsStep pair machine (g.D.Disk.failures (archive_disk s))
    (Does (coordinator_kind pair) machine Checkpoint) c.compact.result) (sym c.in-Up.is)
    (c.compact.ensures pair machine (subst (λ s. IsCoordinator pair s machine) c.in-Up.is is))

pub returns-in-Down : goal.returns-in-Down
returns-in-Down g c pair machine is =
    let rests = subst (λ s. IsCoordinator pair s machine) c.in-Down.is is in
    refused_call pair machine _ _ (down_still c.in-Down.is)
    c.refused.result _ _
    (Does (coordinator_kind pair) machine Checkpoint) rests c.refused.ensures.coordinator
    c.refused.ensures.outcome refl (is_down rests.rests.down)
