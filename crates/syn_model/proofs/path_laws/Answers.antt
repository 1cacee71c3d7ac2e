use Rattle.syn_model.proofs.KeyLemmas.{paths_go_by_key}
use Rattle.syn_model.proofs.path_laws.Goals as goal

pub returns : goal.returns
returns c = record { order = paths_go_by_key }
