use Rattle.syn_daemon.proofs.checkpointer.run_checkpointer.Given as goal
use Rattle.syn_shared.specs.Shared.{IsFor}

abbrev pub invariant-loop : goal.invariant-loop
invariant-loop g l = IsFor l.server.shared.now l.pass
