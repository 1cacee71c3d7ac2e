use Rattle.std.proofs.Common.{arith}
use Rattle.syn_pair.proofs.check.check_session.Goals as goal
use Rattle.syn_pair.specs.Belongs.{older_archive}

pub returns-then-side-archive-clause-cause : goal.returns-then-side-archive-clause-cause
returns-then-side-archive-clause-cause c =
    λ entry. older_archive (omega (arith, c.if-side-archive.true))
