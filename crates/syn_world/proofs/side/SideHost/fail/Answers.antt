use Rattle.std.proofs.Common.{[], ap, arith, refl, subst}
use Rattle.syn_machine.specs.MachineSteps.{Does, Fail, arming, is_done, is_down, with_device}
use Rattle.syn_machine.specs.SideMachine.{side_kind}
use Rattle.syn_world.specs.Sides.{IsHost, side_disk}
use Rattle.syn_world.proofs.HostLemmas.{down, stays_down}
use Rattle.syn_world.proofs.SideLemmas.{not_down}
use Rattle.syn_world.proofs.side.SideHost.fail.Goals as goal

pub returns-in-Up : goal.returns-in-Up
returns-in-Up g c pair machine is =
    let runs = subst (λ s. IsHost pair s machine) c.in-Up.is is in
    record {
      next = with_device (side_kind pair) machine machine.journal.status
          (record machine.journal.arms { fail = c.args.call }) 0;
      events = [];
      step = is_done _ _ _ (not_down pair c.in-Up.side machine runs) arming;
      acknowledges = refl;
      is = c.fail.ensures.runs pair machine runs;
      counts =
          omega (arith, c.fail.ensures.count, ap (λ s. g.D.Disk.failures (side_disk s)) c.in-Up.is);
    }

pub returns-in-Down : goal.returns-in-Down
returns-in-Down g c pair machine is =
    stays_down pair c.args.self c.in-Down.side machine c.in-Down.is is
    (Does (side_kind pair) machine (Fail c.args.call))
    (is_down (down pair c.args.self c.in-Down.side machine c.in-Down.is is))
