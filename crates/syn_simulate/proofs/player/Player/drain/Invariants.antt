use Rattle.syn_simulate.specs.Players.{IsPlayer}
use Rattle.syn_simulate.specs.States.{State}
use Rattle.syn_simulate.proofs.LoopLemmas.{HasDrained}
use Rattle.syn_simulate.proofs.player.Player.drain.Given as goal

abbrev pub invariant-loop-drained : goal.invariant-loop-drained
invariant-loop-drained g l =
    (state : State) → IsPlayer l.fn.self state → HasDrained state l._drained l.player
