use Rattle.std.proofs.Common.{ap, arith, option_map, refl}
use Rattle.syn_history.specs.Events.{token_of}
use Rattle.syn_pair.proofs.check.check_known.Goals as goal
use Rattle.syn_pair.specs.Belongs.{older_known, older_than_known}
use Rattle.syn_pair.specs.Sides.{side_of}

pub returns-then-known-archive-clause-cause : goal.returns-then-known-archive-clause-cause
returns-then-known-archive-clause-cause c =
    older_than_known (side_of c.args.entry.now) refl (omega (arith, c.if-known-archive.true))

pub returns-then-token-known-clause-cause : goal.returns-then-token-known-clause-cause
returns-then-token-known-clause-cause c =
    older_known (side_of c.args.entry.now) (token_of c.in-Some.token) refl
    (ap (option_map token_of) c.in-Some.is) (omega (arith, c.if-token-known.true))
