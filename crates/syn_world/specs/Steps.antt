-- Which of the model's steps a step is.
use Rattle.std.specs.Prelude.{option_map}
use Rattle.syn_runs.specs.World as model
use Rattle.syn_path.specs.Sides.{which_of}
use Rattle.syn_world.specs.declared.machine.Machine.{Machine}
use Rattle.syn_world.specs.declared.machine.Machine.TheVariants as machine
use Rattle.syn_tree.specs.Edits.{edit_of}
use Rattle.syn_world.specs.declared.step.Step.{Step}
use Rattle.syn_world.specs.declared.step.Step.TheVariants.{Edit, Start, Deliver, Tick, Checkpoint}
use Rattle.syn_world.specs.declared.step.Step.TheVariants.{Fail, Stop, Open, Reopen}

abbrev pub machine_of : Machine → model.Machine
machine_of (machine.Side side) = model.At (which_of side)
machine_of machine.Coordinator = model.Coordinator

abbrev pub step_of : Step → model.Step
step_of (Edit side user edit) = model.Edits (which_of side) user (edit_of edit)
step_of (Start preference) = model.Start (option_map which_of preference)
step_of (Deliver message) = model.Deliver message
step_of Tick = model.Tick
step_of (Checkpoint machine) = model.Checkpoint (machine_of machine)
step_of (Fail machine call) = model.Fail (machine_of machine) call
step_of (Stop machine calls) = model.Stop (machine_of machine) calls
step_of (Open machine) = model.Open (machine_of machine)
step_of (Reopen machine) = model.Reopen (machine_of machine)
