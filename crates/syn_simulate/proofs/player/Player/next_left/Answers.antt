use Rattle.std.proofs.Common.{ap, length}
use Rattle.syn_simulate.proofs.LoopLemmas.{next_left_is}
use Rattle.syn_simulate.proofs.player.Player.next_left.Goals as goal

pub returns : goal.returns
returns g c state is =
    next_left_is c.args.self.now state is c.as_slice.result.now c.as_slice.ensures.value
    (length c.sent.result.now) (ap (λ l. length l) c.sent.ensures)
    c.lowest_unset.result c.lowest_unset.ensures.none c.lowest_unset.ensures.below
    c.lowest_unset.ensures.unset c.lowest_unset.ensures.set
