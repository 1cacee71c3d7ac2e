use Rattle.std.proofs.Common.{refl}
use Rattle.syn_machine.specs.Coordinator.{no_call}
use Rattle.syn_machine.specs.MachineSteps.{refused_by}
use Rattle.syn_coordinator.specs.Coordinators.{written}
use Rattle.syn_session.specs.Sendings.{messages_of}
use Rattle.syn_world.proofs.CallLemmas.{gathered_tells}
use Rattle.syn_world.proofs.coordinator.sessions.settle_started.Goals as goal

pub returns : goal.returns
returns g c =
    let is = c.gathered-outcome.ensures in
    let told = record no_call {
      kept = written c.args.coordinator;
      messages = messages_of c.args.sent.items;
    } in
    c.settle.ensures told refused_by (gathered_tells c.args.coordinator c.gathered-outcome.result
    c.kept.result.0.now c.args.sent _ _ told refused_by is.kept is.sent is.ended is.refused
    c.kept.ensures.written refl refl c.halted-refused.ensures)
