use Rattle.std.proofs.Common.{◌≡◌, ◌≤◌, ◌+◌, ◌-◌, ◌⊎◌, map}
use Rattle.std.specs.List.{range_with_len}
use Rattle.syn_runs.specs.World.{Deliver}
use Rattle.syn_simulate.specs.Players.{IsPlayer}
use Rattle.syn_simulate.specs.States.{State}
use Rattle.syn_simulate.proofs.LoopLemmas.{HasMoved}
use Rattle.syn_simulate.proofs.player.Player.deliver_all.Given as goal

abbrev pub invariant-loop-number : goal.invariant-loop-number
invariant-loop-number g l = record {
  from : l.first ≤ l.number;
  upto : (l.number ≡ l.first) ⊎ (l.number ≤ l.last + 1);
  has : (state : State) → IsPlayer l.fn.self state
      → HasMoved state (map Deliver (range_with_len l.first (l.number - l.first))) l.player;
}
