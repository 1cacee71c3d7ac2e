-- What a side's step leaves of a world.
use Rattle.std.proofs.Common.{◌≡◌, [], List, Result, refl}
use Rattle.std.proofs.lemmas.List.{append-nil}
use Rattle.syn_disk.specs.declared.disk.Disk.{Ghosts}
use Rattle.syn_machine.specs.Network.{Left, Message, Right}
use Rattle.syn_machine.specs.SideMachine.{SideMachine}
use Rattle.syn_runs.specs.World.{World as ModelWorld, set_side}
use Rattle.syn_world.specs.Outcomes.{Acknowledges, refused_in}
use Rattle.syn_world.specs.Sides.{IsHost}
use Rattle.syn_world.specs.declared.side.SideCall.{SideCall}
use Rattle.syn_world.specs.declared.side.SideHost.{SideHost}
use Rattle.syn_model.specs.Event.{Event}
use Rattle.syn_world.specs.Worlds.{EndsSo, Grows, GrowsBy, IsListed, IsRunning, RunsMachines}
use Rattle.syn_world.specs.declared.running.Running.{Running}
use Rattle.syn_world.proofs.StepLemmas.{side_next}

module _ {D : Type 0} {disk : Ghosts D} (world : Running D disk) (model : ModelWorld)
    (is : IsRunning world model) (call : SideCall D disk) (next : SideMachine) (events : List Event)
    (told : Acknowledges call.outcome events) (host : IsHost model.pair call.side next)
    (result : Result (Running D disk) (Running D disk)) where
  pub goes_left : ((old new : ModelWorld) (events : List Event)
      → RunsMachines (record world { left = call.side }) new → IsListed world.lists old
      → Acknowledges call.outcome events → Grows old new Left events call.outcome
      → EndsSo result new)
      → EndsSo result (side_next model Left next [] events (refused_in call.outcome))
  goes_left noted = noted model (side_next model Left next [] events (refused_in call.outcome))
      events (record {
        pair = is.machines.pair;
        left = host;
        right = is.machines.right;
        coordinator = is.machines.coordinator;
      }) is.lists told (record {
        sent = append-nil model.sent;
        reports = refl;
        acknowledged = refl;
        refusals = refl;
      })

  pub goes_right : ((old new : ModelWorld) (events : List Event)
      → RunsMachines (record world { right = call.side }) new → IsListed world.lists old
      → Acknowledges call.outcome events → Grows old new Right events call.outcome
      → EndsSo result new)
      → EndsSo result (side_next model Right next [] events (refused_in call.outcome))
  goes_right noted = noted model (side_next model Right next [] events (refused_in call.outcome))
      events (record {
        pair = is.machines.pair;
        left = is.machines.left;
        right = host;
        coordinator = is.machines.coordinator;
      }) is.lists told (record {
        sent = append-nil model.sent;
        reports = refl;
        acknowledged = refl;
        refusals = refl;
      })

module _ {D : Type 0} {disk : Ghosts D} (world : Running D disk) (model : ModelWorld)
    (is : IsRunning world model) (side : SideHost D disk) (next : SideMachine)
    (host : IsHost model.pair side next) where
  pub stays_left : IsRunning (record world { left = side }) (set_side model Left next)
  stays_left = record {
    machines = record {
      pair = is.machines.pair;
      left = host;
      right = is.machines.right;
      coordinator = is.machines.coordinator;
    };
    lists = record {
      sent = is.lists.sent;
      acknowledged = is.lists.acknowledged;
      refusals = is.lists.refusals;
      reports = is.lists.reports;
      lawful = is.lists.lawful;
    };
  }

  pub stays_right : IsRunning (record world { right = side }) (set_side model Right next)
  stays_right = record {
    machines = record {
      pair = is.machines.pair;
      left = is.machines.left;
      right = host;
      coordinator = is.machines.coordinator;
    };
    lists = record {
      sent = is.lists.sent;
      acknowledged = is.lists.acknowledged;
      refusals = is.lists.refusals;
      reports = is.lists.reports;
      lawful = is.lists.lawful;
    };
  }

-- after an answer
module _ {D : Type 0} {disk : Ghosts D} (world : Running D disk) (model : ModelWorld)
    (is : IsRunning world model) (call : SideCall D disk) (next : SideMachine)
    (messages : List Message) (events : List Event) (told : Acknowledges call.outcome events)
    (none : refused_in call.outcome ≡ []) (host : IsHost model.pair call.side next)
    (Said : Type 0) (said : Said) (result : Result (Running D disk) (Running D disk)) where
  pub hears_left : ((old new : ModelWorld) (events : List Event)
      → RunsMachines (record world { left = call.side }) new → IsListed world.lists old
      → Acknowledges call.outcome events → refused_in call.outcome ≡ [] → Said
      → GrowsBy old new Left messages events → EndsSo result new)
      → EndsSo result (side_next model Left next messages events [])
  hears_left noted = noted model (side_next model Left next messages events []) events (record {
    pair = is.machines.pair;
    left = host;
    right = is.machines.right;
    coordinator = is.machines.coordinator;
  }) is.lists told none said (record {
    sent = refl;
    reports = refl;
    acknowledged = refl;
    refusals = append-nil model.refusals;
  })

  pub hears_right : ((old new : ModelWorld) (events : List Event)
      → RunsMachines (record world { right = call.side }) new → IsListed world.lists old
      → Acknowledges call.outcome events → refused_in call.outcome ≡ [] → Said
      → GrowsBy old new Right messages events → EndsSo result new)
      → EndsSo result (side_next model Right next messages events [])
  hears_right noted = noted model (side_next model Right next messages events []) events (record {
    pair = is.machines.pair;
    right = host;
    left = is.machines.left;
    coordinator = is.machines.coordinator;
  }) is.lists told none said (record {
    sent = refl;
    reports = refl;
    acknowledged = refl;
    refusals = append-nil model.refusals;
  })
