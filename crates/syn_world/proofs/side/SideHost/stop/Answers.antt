use Rattle.std.proofs.Common.{◌≡◌, ◌≢◌, [], ap, arith, refl, subst, sym}
use Rattle.syn_machine.specs.Machine.{Down, unarmed}
use Rattle.syn_machine.specs.MachineSteps.{Does, Stop, arming, is_done, with_device}
use Rattle.syn_machine.specs.SideMachine.{side_kind}
use Rattle.syn_world.specs.Sides.{IsHost, side_disk}
use Rattle.syn_world.proofs.HostLemmas.{down, stays_down}
use Rattle.syn_world.proofs.SideLemmas.{not_down}
use Rattle.syn_world.proofs.StopLemmas.{stops_after, stops_down}
use Rattle.syn_world.proofs.side.SideHost.stop.Goals as goal

pub returns-then-calls-eq0 : goal.returns-then-calls-eq0
returns-then-calls-eq0 g c pair machine is =
    let runs = subst (λ s. IsHost pair s machine) c.in-Up.is is in
    let none : c.args.calls ≡ 0 = omega arith in
    let next = with_device (side_kind pair) machine Down unarmed 0 in
    record {
      next = next;
      events = [];
      step = subst (λ n. Does (side_kind pair) machine (Stop n) next [] []) (sym none)
          (is_done _ _ _ (not_down pair c.in-Up.side machine runs) arming);
      acknowledges = refl;
      is = c.stop.ensures.rests pair machine runs;
      counts =
          omega (arith, c.stop.ensures.count, ap (λ s. g.D.Disk.failures (side_disk s)) c.in-Up.is);
    }

pub returns-else-calls-eq0 : goal.returns-else-calls-eq0
returns-else-calls-eq0 g c pair machine is =
    let runs = subst (λ s. IsHost pair s machine) c.in-Up.is is in
    let some : c.args.calls ≢ 0 = omega arith in
    record {
      next = with_device (side_kind pair) machine machine.journal.status
          (record machine.journal.arms { stop = c.args.calls }) 0;
      events = [];
      step = stops_after (side_kind pair) machine c.args.calls some
          (not_down pair c.in-Up.side machine runs);
      acknowledges = refl;
      is = c.stop_after.ensures.runs pair machine runs;
      counts =
          omega (
            arith,
            c.stop_after.ensures.count,
            ap (λ s. g.D.Disk.failures (side_disk s)) c.in-Up.is,
          );
    }

pub returns-in-Down : goal.returns-in-Down
returns-in-Down g c pair machine is =
    stays_down pair c.args.self c.in-Down.side machine c.in-Down.is is
    (Does (side_kind pair) machine (Stop c.args.calls))
    (stops_down (side_kind pair) machine c.args.calls
    (down pair c.args.self c.in-Down.side machine c.in-Down.is is))
