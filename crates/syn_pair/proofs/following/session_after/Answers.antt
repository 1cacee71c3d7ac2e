use Rattle.syn_pair.proofs.following.session_after.Goals as goal
use Rattle.syn_pair.specs.Following.{left_has_none, one_replica, right_has_none}

pub returns-then-are_one-clause-cannot : goal.returns-then-are_one-clause-cannot
returns-then-are_one-clause-cannot c = one_replica (c.are_one.ensures.0 c.if-are_one.true)

pub returns-in-Err-clause-cannot : goal.returns-in-Err-clause-cannot
returns-in-Err-clause-cannot c = left_has_none c.in-Err.why c.in-Err.ensures.cannot

pub returns-in-Err-check_side-clause-cannot : goal.returns-in-Err-check_side-clause-cannot
returns-in-Err-check_side-clause-cannot c =
    right_has_none c.in-Err-check_side.why c.in-Err-check_side.ensures.cannot
