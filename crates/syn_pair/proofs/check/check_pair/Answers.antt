use Rattle.syn_pair.proofs.check.check_pair.Goals as goal
use Rattle.syn_pair.specs.Belongs.{left_is_not, one_replica, right_is_not}

pub returns-then-are_one-clause-apart : goal.returns-then-are_one-clause-apart
returns-then-are_one-clause-apart c = one_replica (c.are_one.ensures.0 c.if-are_one.true)

pub returns-in-Err-clause-apart : goal.returns-in-Err-clause-apart
returns-in-Err-clause-apart c = left_is_not c.in-Err.cause c.in-Err.ensures.cause

pub returns-in-Err-check_at-clause-apart : goal.returns-in-Err-check_at-clause-apart
returns-in-Err-check_at-clause-apart c =
    right_is_not c.in-Err-check_at.cause c.in-Err-check_at.ensures.cause
