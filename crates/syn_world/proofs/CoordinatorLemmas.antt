-- What is armed at a coordinator, and a stop of it, are steps of the world.
use Rattle.std.proofs.Common.{[], subst}
use Rattle.syn_disk.specs.declared.disk.Disk.{Ghosts}
use Rattle.syn_machine.specs.Coordinator.{CoordinatorMachine, no_call}
use Rattle.syn_runs.specs.World.{World as ModelWorld, CoordinatorDoes}
use Rattle.syn_world.specs.Coordinators.{CoordinatorStep, IsCoordinator}
use Rattle.syn_world.specs.declared.coordinator.CoordinatorHost.{CoordinatorHost}
use Rattle.syn_world.specs.Worlds.{IsRunning}
use Rattle.syn_world.specs.declared.running.Running.{Running}
use Rattle.syn_world.proofs.SessionLemmas.{eq_same, lift_coordinator}

-- the world goes so
abbrev pub coordinator_is : ModelWorld → CoordinatorMachine → ModelWorld
coordinator_is old machine = record old { coordinator = machine }

pub lift_device : (old : ModelWorld) (So : CoordinatorStep) (next : CoordinatorMachine)
    → So next no_call [] → CoordinatorDoes old So (coordinator_is old next)
lift_device old So next step =
    subst (CoordinatorDoes old So) (eq_same (coordinator_is old next))
    (lift_coordinator old So next no_call [] step)

pub stays_coordinator : {D : Type 0} {disk : Ghosts D} (world : Running D disk)
    (model : ModelWorld) → IsRunning world model → (coordinator : CoordinatorHost D disk)
    (next : CoordinatorMachine) → IsCoordinator model.pair coordinator next
    → IsRunning (record world { coordinator = coordinator }) (coordinator_is model next)
stays_coordinator world model is coordinator next host = record {
  machines = record {
    pair = is.machines.pair;
    left = is.machines.left;
    right = is.machines.right;
    coordinator = host;
  };
  lists = record {
    sent = is.lists.sent;
    acknowledged = is.lists.acknowledged;
    refusals = is.lists.refusals;
    reports = is.lists.reports;
    lawful = is.lists.lawful;
  };
}
