use Rattle.std.proofs.Common.{◌≡◌, All, take, drop}
use Rattle.syn_model.specs.Path.{IsPath}
use Rattle.syn_history.specs.Past.{are_between}
use Rattle.syn_history.proofs.trail.are_rising.Given as goal

abbrev pub invariant-loop-touch : goal.invariant-loop-touch
invariant-loop-touch l =
    (are_between l.from l.position (drop l.touch-index l.touches)
    ≡ are_between l.floor l.position l.touches)
    × All (λ touch. IsPath touch.path) (take l.touch-index l.touches)
