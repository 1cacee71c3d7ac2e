use Rattle.std.proofs.Common.{[], refl, subst, sym}
use Rattle.syn_machine.specs.MachineSteps.{Does}
use Rattle.syn_machine.specs.MachineSteps as one
use Rattle.syn_machine.specs.Network.{Left, Right}
use Rattle.syn_machine.specs.SideMachine.{side_kind}
use Rattle.syn_runs.specs.World.{At, Checkpoint}
use Rattle.syn_world.specs.Outcomes.{refused_in}
use Rattle.syn_world.specs.Sides.{side_disk}
use Rattle.syn_path.specs.Sides.{which_of}
use Rattle.syn_world.specs.Failures.{disks_in, failures_in, last_of}
use Rattle.syn_world.specs.Worlds.{GoesSo}
use Rattle.syn_world.proofs.FailureLemmas.{left_counts, right_counts}
use Rattle.syn_world.proofs.StepLemmas.{lift_side, side_next}
use Rattle.syn_world.proofs.WorldLemmas.{goes_left, goes_right}
use Rattle.syn_world.proofs.running.Running.checkpoint_side.Goals as goal

pub returns-in-Left : goal.returns-in-Left
returns-in-Left g c model is =
    let call = c.checkpoint-call.result in
    let so = c.checkpoint-call.ensures model.pair model.left is.machines.left in
    subst (λ s. GoesSo model (failures_in c.args.self) (Checkpoint (At (which_of s)))
    c.noted.result) (sym c.in-Left.is)
    (record {
      new = side_next model Left so.next [] so.events (refused_in call.outcome);
      steps = lift_side model Left (Does (side_kind model.pair) model.left one.Checkpoint) so.next
          so.events (refused_in call.outcome) so.step;
      ends = goes_left c.args.self model is call so.next so.events so.acknowledges so.is
          c.noted.result c.noted.ensures.ends;
      counts = left_counts g.D.Disk model
          (side_next model Left so.next [] so.events (refused_in call.outcome))
          (disks_in c.args.self) (disks_in (last_of c.noted.result)) (side_disk call.side)
          c.noted.ensures.disks so.counts refl refl;
    })

pub returns-in-Right : goal.returns-in-Right
returns-in-Right g c model is =
    let call = c.checkpoint-call-in-Right.result in
    let so = c.checkpoint-call-in-Right.ensures model.pair model.right is.machines.right in
    subst (λ s. GoesSo model (failures_in c.args.self) (Checkpoint (At (which_of s)))
    c.noted-in-Right.result)
    (sym c.in-Right.is) (record {
      new = side_next model Right so.next [] so.events (refused_in call.outcome);
      steps = lift_side model Right (Does (side_kind model.pair) model.right one.Checkpoint) so.next
          so.events (refused_in call.outcome) so.step;
      ends = goes_right c.args.self model is call so.next so.events so.acknowledges so.is
          c.noted-in-Right.result c.noted-in-Right.ensures.ends;
      counts = right_counts g.D.Disk model
          (side_next model Right so.next [] so.events (refused_in call.outcome))
          (disks_in c.args.self) (disks_in (last_of c.noted-in-Right.result)) (side_disk call.side)
          c.noted-in-Right.ensures.disks so.counts refl refl;
    })
