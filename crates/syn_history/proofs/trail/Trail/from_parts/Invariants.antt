use Rattle.std.proofs.Common.{◌≡◌, ◌++◌}
use Rattle.syn_model.specs.Standing.{most_touches}
use Rattle.syn_history.proofs.trail.Trail.from_parts.Given as goal

abbrev pub invariant-loop-touch : goal.invariant-loop-touch
invariant-loop-touch l = record {
  whole : l.fn.parts.touches.items ≡ l.yielded ++ l.touch-iterator.rest.items;
  pushed : l.touches.items ≡ l.yielded;
  room : l.touches.capacity ≡ most_touches;
}
