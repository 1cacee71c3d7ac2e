use Rattle.std.proofs.Common.{subst}
use Rattle.syn_agent.proofs.ListedLemmas.{lists_lawfully}
use Rattle.syn_agent.proofs.laws.listing_laws.Goals as goal
use Rattle.syn_agent.specs.inner.Lawful.{ListsLawfully}

pub returns : goal.returns
returns g c =
    let whole = c.entries-whole.ensures in
    subst ListsLawfully c.tree.ensures
    (lists_lawfully c.mark_laws.ensures.has _ whole.tree whole.fits)
