use Rattle.syn_tree.proofs.TurnLemmas.{runs_agree}
use Rattle.syn_tree.proofs.turn.turn_laws.Goals as goal

pub returns : goal.returns
returns c = runs_agree
