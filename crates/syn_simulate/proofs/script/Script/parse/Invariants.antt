use Rattle.std.proofs.Common.{◌≡◌, map, take}
use Rattle.syn_simulate.specs.Scripts.{SaySteps}
use Rattle.syn_simulate.proofs.script.Script.parse.Given as goal

abbrev pub invariant-loop-line : goal.invariant-loop-line
invariant-loop-line l = record {
  counted : l.number ≡ l.line-index;
  said : SaySteps (map (λ line. line.now) (take l.line-index l.line-items)) l.steps.items;
}
