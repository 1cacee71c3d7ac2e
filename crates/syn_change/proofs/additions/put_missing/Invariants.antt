use Rattle.std.proofs.Common.{◌≡◌, ◌++◌, fold}
use Rattle.std.specs.FinMap.{entries, get}
use Rattle.syn_model.specs.Path.{Path}
use Rattle.syn_placed.specs.Pairs.{rooted}
use Rattle.syn_change.specs.Changes.{GoesOn}
use Rattle.syn_change.proofs.NeedLemmas.{IsAdditionIn}
use Rattle.syn_change.proofs.OverlayLemmas.{placing}
use Rattle.syn_change.proofs.additions.put_missing.Given as goal

abbrev pub invariant-loop-pair : goal.invariant-loop-pair
invariant-loop-pair l = record {
  whole : rooted (l.yielded ++ l.pair-iterator) ≡ entries l.wanted;
  placed : (q : Path) → get l.work q ≡ fold (placing q) (get l.initial.work q) l.yielded;
  edits : GoesOn (IsAdditionIn l.initial.work l.wanted l.yielded) l.initial.work
      l.initial.edits.items l.work l.edits.items;
}
