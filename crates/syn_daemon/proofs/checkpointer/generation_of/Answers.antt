use Rattle.syn_daemon.proofs.checkpointer.generation_of.Goals as goal
use Rattle.syn_shared.proofs.HoldLemmas.{still}

pub leave-requires-clause-grown : goal.leave-requires-clause-grown
leave-requires-clause-grown g c = still _ _ c.enter-guard.result c.enter-guard.ensures.entered.1
