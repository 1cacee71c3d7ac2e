use Rattle.std.proofs.Common.{◌≡◌, ◌++◌}
use Rattle.syn_simulate.specs.Players.{HasPlayedAll, IsPlayer}
use Rattle.syn_simulate.specs.States.{State}
use Rattle.syn_simulate.proofs.player.Player.play_all.Given as goal

abbrev pub invariant-loop-line : goal.invariant-loop-line
invariant-loop-line g l = record {
  whole : l.fn.lines.items ≡ l.yielded ++ l.line-iterator.rest.items;
  has : (state : State) → IsPlayer l.fn.self state → HasPlayedAll l.yielded state l.player;
}
