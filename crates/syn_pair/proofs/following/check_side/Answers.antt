use Rattle.std.proofs.Common.{arith}
use Rattle.syn_pair.proofs.following.check_side.Goals as goal
use Rattle.syn_pair.specs.Following.{last_session, other_pair}

pub returns-then-side-pair-clause-cannot : goal.returns-then-side-pair-clause-cannot
returns-then-side-pair-clause-cannot c = other_pair (omega (arith, c.if-side-pair.true))

pub returns-then-side-clause-cannot : goal.returns-then-side-clause-cannot
returns-then-side-clause-cannot c = last_session (omega (arith, c.if-side.true))
