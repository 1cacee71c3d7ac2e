use Rattle.std.proofs.Common.{◌≡◌, ◌++◌}
use Rattle.std.specs.FinMap.{entries}
use Rattle.syn_placed.specs.Pairs.{rooted}
use Rattle.syn_change.specs.Changes.{GoesOn}
use Rattle.syn_change.proofs.RemovalLemmas.{AreRemoved, IsRemovalIn}
use Rattle.syn_change.proofs.removals.remove_extra.Given as goal

abbrev pub invariant-loop-pair : goal.invariant-loop-pair
invariant-loop-pair l = record {
  whole : rooted (l.yielded ++ l.pair-iterator) ≡ entries l.old;
  removed : AreRemoved l.initial.work l.wanted l.yielded l.work;
  edits : GoesOn (IsRemovalIn l.initial.work l.wanted l.yielded) l.initial.work
      l.initial.edits.items l.work l.edits.items;
}
