use Rattle.syn_link.proofs.StreamLemmas.{cuts_do_not_matter}
use Rattle.syn_link.proofs.stream_laws.Goals as goal

pub returns : goal.returns
returns c = cuts_do_not_matter c.spelling_laws.ensures.u32
