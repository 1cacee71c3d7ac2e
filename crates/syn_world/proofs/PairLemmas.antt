-- No step changes the pair of a world.
use Rattle.std.proofs.Common.{◌≡◌, ◌∙◌, List, [], ◌∷◌, ap, refl, Option}
use Rattle.std.specs.Prelude.{slice_get}
use Rattle.syn_machine.specs.Coordinator.{Call, CoordinatorMachine}
use Rattle.syn_machine.specs.MachineSteps.{Effect, MachineCall}
use Rattle.syn_machine.specs.Network.{Left, Message, Right, Which}
use Rattle.syn_machine.specs.SideMachine.{SideMachine}
use Rattle.syn_runs.specs.World as world
use Rattle.syn_runs.specs.World.{At, Checkpoint, Coordinator, CoordinatorDoes, Deliver}
use Rattle.syn_runs.specs.World.{Delivers, Edits, Fail, Machine, MachineDoes, Open, Reopen}
use Rattle.syn_runs.specs.World.{Runs, SideDoes, Start, Step, Steps, Stop, Tick, Ticks, World}
use Rattle.syn_runs.specs.World.{set_side}
use Rattle.syn_model.specs.Event.{Event}
use Rattle.syn_machine.specs.MachineSteps as one

abbrev SamePair : World → World → Type 0
SamePair old new = new.pair ≡ old.pair

module _ (old : World) where
  side_set : (side : Which) (machine : SideMachine) → SamePair old (set_side old side machine)
  side_set Left machine = refl
  side_set Right machine = refl

  side_does : (side : Which) (So : Effect SideMachine (List Event)) (new : World)
      → SideDoes old side So new → SamePair old new
  side_does side So _ (world.side_does next events refusals so) = side_set side next

  coordinator_does : (So : Effect CoordinatorMachine Call) (new : World)
      → CoordinatorDoes old So new → SamePair old new
  coordinator_does So _ (world.coordinator_does next call refusals so) = refl

  machine_does : (machine : Machine) (call : MachineCall) (new : World)
      → MachineDoes old machine call new → SamePair old new
  machine_does (At side) call new so = side_does side _ new so
  machine_does Coordinator call new so = coordinator_does _ new so

  delivers : (message : Option Message) (new : World) → Delivers old message new
      → SamePair old new
  delivers _ _ world.no_message = refl
  delivers _ _ (world.to_no_side side session number request down) = refl
  delivers _ _ (world.to_side side session number request machine reply events so) =
      side_set side machine
  delivers _ _ (world.to_coordinator side session number reply machine call so) = refl

  ticks : (new : World) → Ticks old new → SamePair old new
  ticks _ (world.ticks machine call so) = refl

  keeps_pair : (step : Step) (new : World) → Steps old step new → SamePair old new
  keeps_pair (Edits side user edit) new so = side_does side _ new so
  keeps_pair (Start preference) new so = coordinator_does _ new so
  keeps_pair (Deliver message) new so = delivers (slice_get old.sent message) new so
  keeps_pair Tick new so = ticks new so
  keeps_pair (Checkpoint machine) new so = machine_does machine one.Checkpoint new so
  keeps_pair (Fail machine call) new so = machine_does machine (one.Fail call) new so
  keeps_pair (Stop machine calls) new so = machine_does machine (one.Stop calls) new so
  keeps_pair (Open machine) new so = machine_does machine one.Open new so
  keeps_pair (Reopen machine) new so = machine_does machine one.Reopen new so

-- nor does a run
pub run_keeps_pair : (old : World) (steps : List Step) (new : World) → Runs old steps new
    → new.pair ≡ old.pair
run_keeps_pair old [] new same = ap (λ w. w.pair) same
run_keeps_pair old (step ∷ steps) new (between, first, rest) =
    run_keeps_pair between steps new rest ∙ keeps_pair old step between first
