use Rattle.std.proofs.Common.{subst}
use Rattle.syn_shared.proofs.LimitLemmas.{each_fits}
use Rattle.syn_shared.proofs.laws.limit_laws.Goals as goal
use Rattle.syn_shared.specs.Reads.{EachFits}

pub returns : goal.returns
returns g c = subst EachFits c.tree.ensures (each_fits _ c.entries-whole.ensures.fits)
