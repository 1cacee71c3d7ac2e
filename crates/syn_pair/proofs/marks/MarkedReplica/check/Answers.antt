use Rattle.syn_pair.proofs.marks.MarkedReplica.check.Goals as goal
use Rattle.syn_pair.specs.Marks.{of_cause, parted}

pub returns-then-self-clause-not_of : goal.returns-then-self-clause-not_of
returns-then-self-clause-not_of c = parted c.if-self.true

pub returns-in-Err-clause-not_of : goal.returns-in-Err-clause-not_of
returns-in-Err-clause-not_of c = of_cause c.in-Err.cause c.in-Err.ensures.cause
