use Rattle.std.proofs.Common.{arith, refl}
use Rattle.syn_pair.proofs.check.check_history.Goals as goal
use Rattle.syn_pair.specs.Belongs.{older_position, older_replacement, older_session, other_event}
use Rattle.syn_pair.specs.Belongs.{other_replica}
use Rattle.syn_pair.specs.Sides.{side_of}

pub returns-then-are_different-clause-cause : goal.returns-then-are_different-clause-cause
returns-then-are_different-clause-cause c =
    λ archive. other_replica (side_of c.args.entry.now) refl
    (c.are_different.ensures.0 c.if-are_different.true)

pub returns-then-now-known-clause-cause : goal.returns-then-now-known-clause-cause
returns-then-now-known-clause-cause c =
    λ archive. older_session (side_of c.args.entry.now) refl (omega (arith, c.if-now-known.true))

pub returns-then-is_before-clause-cause : goal.returns-then-is_before-clause-cause
returns-then-is_before-clause-cause c =
    λ archive. older_replacement (side_of c.args.entry.now) refl
    (c.is_before.ensures.0 c.if-is_before.true)

pub returns-then-now-known-2-clause-cause : goal.returns-then-now-known-2-clause-cause
returns-then-now-known-2-clause-cause c =
    λ archive. older_position (side_of c.args.entry.now) refl
    (omega (arith, c.if-now-known-2.true))

pub returns-then-has_other_event-clause-cause : goal.returns-then-has_other_event-clause-cause
returns-then-has_other_event-clause-cause c =
    λ archive. other_event (side_of c.args.entry.now) refl
    (c.has_other_event.ensures.0 c.if-has_other_event.true)
