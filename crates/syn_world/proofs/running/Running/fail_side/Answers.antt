use Rattle.std.proofs.Common.{refl, subst, sym}
use Rattle.syn_machine.specs.MachineSteps.{Does}
use Rattle.syn_machine.specs.MachineSteps as one
use Rattle.syn_machine.specs.Network.{Left, Right}
use Rattle.syn_machine.specs.SideMachine.{side_kind}
use Rattle.syn_runs.specs.World.{At, Fail, Steps, set_side}
use Rattle.syn_world.specs.Sides.{side_disk}
use Rattle.syn_path.specs.Sides.{which_of}
use Rattle.syn_world.specs.Failures.{disks_in}
use Rattle.syn_world.proofs.FailureLemmas.{left_counts, right_counts}
use Rattle.syn_world.proofs.StepLemmas.{lift_device}
use Rattle.syn_world.proofs.WorldLemmas.{stays_left, stays_right}
use Rattle.syn_world.proofs.running.Running.fail_side.Goals as goal

pub returns-in-Left : goal.returns-in-Left
returns-in-Left g c model is =
    let so = c.fail.ensures model.pair model.left is.machines.left in
    record {
      new = set_side model Left so.next;
      steps = subst (λ w. Steps model (Fail (At (which_of w)) c.args.call)
          (set_side model Left so.next)) (sym c.in-Left.is)
          (lift_device model Left
          (Does (side_kind model.pair) model.left (one.Fail c.args.call)) so.next so.events
          so.acknowledges so.step);
      is = stays_left c.args.self model is c.fail.result so.next so.is;
      counts = left_counts g.D.Disk model (set_side model Left so.next)
          (disks_in c.args.self) (record (disks_in c.args.self) {
            left = side_disk c.fail.result;
          }) (side_disk c.fail.result) refl so.counts refl refl;
    }

pub returns-in-Right : goal.returns-in-Right
returns-in-Right g c model is =
    let so = c.fail-in-Right.ensures model.pair model.right is.machines.right in
    record {
      new = set_side model Right so.next;
      steps = subst (λ w. Steps model (Fail (At (which_of w)) c.args.call)
          (set_side model Right so.next)) (sym c.in-Right.is)
          (lift_device model Right
          (Does (side_kind model.pair) model.right (one.Fail c.args.call)) so.next so.events
          so.acknowledges so.step);
      is = stays_right c.args.self model is c.fail-in-Right.result so.next so.is;
      counts = right_counts g.D.Disk model (set_side model Right so.next)
          (disks_in c.args.self) (record (disks_in c.args.self) {
            right = side_disk c.fail-in-Right.result;
          }) (side_disk c.fail-in-Right.result) refl so.counts refl refl;
    }
