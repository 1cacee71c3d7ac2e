use Rattle.std.proofs.Common.{◌≡◌, ◌≤◌, ◌+◌, ◌++◌, List, take}
use Rattle.std.specs.FinMap.{len}
use Rattle.syn_model.specs.Standing.{Touch}
use Rattle.syn_history.specs.Index.{last_positions}
use Rattle.syn_history.proofs.index.add_later.Given as goal

abbrev pub invariant-loop-touch : goal.invariant-loop-touch
invariant-loop-touch l = record {
  later : (earlier : List Touch) → l.initial.index ≡ last_positions earlier →
      l.index ≡ last_positions (earlier ++ take l.touch-index l.touches);
  room : len l.index ≤ len l.initial.index + l.touch-index;
}
