use Rattle.syn_coordinator.proofs.ArmLemmas.{armed_still}
use Rattle.syn_coordinator.proofs.TriedLemmas.{tries_still}
use Rattle.syn_coordinator.proofs.coordinator.Coordinator.arm.Goals as goal

pub returns-clause-stands : goal.returns-clause-stands
returns-clause-stands g c pair machine stands goes = record {
  journal =
      armed_still c.args.self.now.plan_runner.archive c.arm.new.self pair machine.journal
      stands.journal goes
      c.arm.ensures.stands c.arm.ensures.memory c.arm.ensures.readings c.arm.ensures.stop;
  running = stands.running;
  quiet = stands.quiet;
  untried = stands.untried;
  tries =
      tries_still c.args.self.now.plan_runner.tried machine.journal machine.journal.status _ 0
      (λ up. up) stands.tries;
}
