use Rattle.syn_simulate.proofs.player.Player.deliver.Goals as goal

pub returns : goal.returns
returns g c = c.step.ensures.plays
