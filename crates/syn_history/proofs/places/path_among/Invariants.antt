use Rattle.std.proofs.Common.{◌≡◌, drop}
use Rattle.syn_history.specs.Status.{path_at}
use Rattle.syn_history.proofs.places.path_among.Given as goal

abbrev pub invariant-loop-touch : goal.invariant-loop-touch
invariant-loop-touch l = path_at (drop l.touch-index l.touches) l.place ≡ path_at l.touches l.place
