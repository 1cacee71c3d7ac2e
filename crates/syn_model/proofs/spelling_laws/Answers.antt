use Rattle.syn_model.proofs.SpellingLemmas.{spelling_unfolds}
use Rattle.syn_model.proofs.ToldSpellings.{spelling_tells}
use Rattle.syn_model.proofs.spelling_laws.Goals as goal

pub returns-clause-unfolds : goal.returns-clause-unfolds
returns-clause-unfolds c = spelling_unfolds

pub returns-clause-tells : goal.returns-clause-tells
returns-clause-tells c = spelling_tells
