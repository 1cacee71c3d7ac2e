use Rattle.syn_journal.proofs.CallLemmas.{stays_free}
use Rattle.syn_journal.proofs.laws.opening_laws.Goals as goal

pub returns : goal.returns
returns c = stays_free
