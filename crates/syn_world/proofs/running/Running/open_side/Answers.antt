use Rattle.std.proofs.Common.{[], refl, subst, sym}
use Rattle.syn_machine.specs.MachineSteps.{OpensDown}
use Rattle.syn_machine.specs.Network.{Left, Right}
use Rattle.syn_machine.specs.SideMachine.{side_kind}
use Rattle.syn_runs.specs.World.{At, Open}
use Rattle.syn_world.specs.Outcomes.{refused_in}
use Rattle.syn_world.specs.Sides.{CallIsStep, IsHost, side_disk}
use Rattle.syn_path.specs.Sides.{which_of}
use Rattle.syn_world.specs.Failures.{disks_in, failures_in, last_of}
use Rattle.syn_world.specs.Worlds.{GoesSo}
use Rattle.syn_world.proofs.FailureLemmas.{left_counts, right_counts}
use Rattle.syn_world.proofs.StepLemmas.{lift_side, side_next}
use Rattle.syn_world.proofs.WorldLemmas.{goes_left, goes_right}
use Rattle.syn_world.proofs.running.Running.open_side.Goals as goal

pub returns-in-Left : goal.returns-in-Left
returns-in-Left g c model is =
    let call = c.open-call.result in
    let before = g.D.Disk.failures (side_disk c.args.self.left) in
    let so = subst (λ p. CallIsStep p model.left before
    (OpensDown (side_kind p) model.left) c.open-call.result) is.machines.pair
    (c.open-call.ensures model.left (subst (λ p. IsHost p c.args.self.left model.left)
    (sym is.machines.pair) is.machines.left)) in
    subst (λ s. GoesSo model (failures_in c.args.self) (Open (At (which_of s))) c.noted.result)
    (sym c.in-Left.is) (record {
      new = side_next model Left so.next [] so.events (refused_in call.outcome);
      steps = lift_side model Left (OpensDown (side_kind model.pair) model.left) so.next
          so.events (refused_in call.outcome) so.step;
      ends = goes_left c.args.self model is call so.next so.events so.acknowledges so.is
          c.noted.result c.noted.ensures.ends;
      counts = left_counts g.D.Disk model
          (side_next model Left so.next [] so.events (refused_in call.outcome))
          (disks_in c.args.self) (disks_in (last_of c.noted.result)) (side_disk call.side)
          c.noted.ensures.disks so.counts refl refl;
    })

pub returns-in-Right : goal.returns-in-Right
returns-in-Right g c model is =
    let call = c.open-call-in-Right.result in
    let before = g.D.Disk.failures (side_disk c.args.self.right) in
    let so = subst (λ p. CallIsStep p model.right before
    (OpensDown (side_kind p) model.right) c.open-call-in-Right.result) is.machines.pair
    (c.open-call-in-Right.ensures model.right (subst (λ p. IsHost p c.args.self.right model.right)
    (sym is.machines.pair) is.machines.right)) in
    subst (λ s. GoesSo model (failures_in c.args.self) (Open (At (which_of s)))
    c.noted-in-Right.result) (sym c.in-Right.is)
    (record {
      new = side_next model Right so.next [] so.events (refused_in call.outcome);
      steps = lift_side model Right (OpensDown (side_kind model.pair) model.right) so.next
          so.events (refused_in call.outcome) so.step;
      ends = goes_right c.args.self model is call so.next so.events so.acknowledges so.is
          c.noted-in-Right.result c.noted-in-Right.ensures.ends;
      counts = right_counts g.D.Disk model
          (side_next model Right so.next [] so.events (refused_in call.outcome))
          (disks_in c.args.self) (disks_in (last_of c.noted-in-Right.result)) (side_disk call.side)
          c.noted-in-Right.ensures.disks so.counts refl refl;
    })
