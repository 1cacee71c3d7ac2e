use Rattle.std.proofs.Common.{refl, sym, subst, option_map}
use Rattle.syn_world.specs.Coordinators.{IsCoordinator, archive_disk}
use Rattle.syn_machine.specs.Coordinator.{Starts}
use Rattle.syn_machine.specs.MachineSteps.{is_down}
use Rattle.syn_world.specs.CoordinatorSteps.{CallIsStep}
use Rattle.syn_world.proofs.CallLemmas.{refused_call}
use Rattle.syn_world.proofs.CountLemmas.{down_still}
use Rattle.syn_world.proofs.coordinator.CoordinatorHost.start.Goals as goal
use Rattle.syn_path.specs.Sides.{which_of}

pub returns-in-Up : goal.returns-in-Up
returns-in-Up g c pair machine is =
    subst (λ s. CallIsStep pair machine (g.D.Disk.failures (archive_disk s))
    (Starts pair (option_map which_of c.args.preference) machine) c.begin.result) (sym c.in-Up.is)
    (c.begin.ensures pair machine (subst (λ s. IsCoordinator pair s machine) c.in-Up.is is))

pub returns-in-Down : goal.returns-in-Down
returns-in-Down g c pair machine is =
    let rests = subst (λ s. IsCoordinator pair s machine) c.in-Down.is is in
    refused_call pair machine _ _ (down_still c.in-Down.is)
    c.refused.result _ _ (Starts pair
    (option_map which_of c.args.preference) machine) rests
    c.refused.ensures.coordinator c.refused.ensures.outcome refl
    (is_down rests.rests.down)
