use Rattle.syn_replica.proofs.LawfulLemmas.{lawful_opens}
use Rattle.syn_replica.proofs.lawful.disk_laws.Goals as goal

pub returns : goal.returns
returns c pair bytes history error fits is why =
    lawful_opens c.opening_laws.ensures.one pair bytes history fits is error why
