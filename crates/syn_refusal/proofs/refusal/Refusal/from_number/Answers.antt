use Rattle.syn_refusal.proofs.TableLemmas.{number-in-table}
use Rattle.syn_refusal.proofs.refusal.Refusal.from_number.Goals as goal

pub returns-clause-none : goal.returns-clause-none
returns-clause-none c = number-in-table c.args.wanted c.first_with.result c.first_with.ensures
