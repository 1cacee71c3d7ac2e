use Rattle.std.proofs.Common.{arith, refl}
use Rattle.syn_pair.proofs.check.check_unknown.Goals as goal
use Rattle.syn_pair.specs.Belongs.{unknown}

pub returns-then-side-archive-clause-cause : goal.returns-then-side-archive-clause-cause
returns-then-side-archive-clause-cause c =
    unknown refl c.if-archive.true (omega (arith, c.if-side-archive.true))
