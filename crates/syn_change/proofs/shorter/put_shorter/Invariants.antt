use Rattle.std.proofs.Common.{◌≡◌, ◌++◌}
use Rattle.std.specs.FinMap.{entries, find, get}
use Rattle.syn_model.specs.Path.{Path, path_cmp}
use Rattle.syn_placed.specs.Pairs.{rooted}
use Rattle.syn_change.specs.Changes.{GoesOn}
use Rattle.syn_change.specs.inner.Shorter.{shortened}
use Rattle.syn_change.proofs.ShorterLemmas.{ShortensIn}
use Rattle.syn_change.proofs.shorter.put_shorter.Given as goal

abbrev pub invariant-loop-pair : goal.invariant-loop-pair
invariant-loop-pair l = record {
  whole : rooted (l.yielded ++ l.pair-iterator) ≡ entries l.wanted;
  short : (q : Path) → get l.work q
      ≡ shortened (get l.initial.work q) (find path_cmp q l.yielded);
  edits : GoesOn (ShortensIn l.initial.work l.wanted l.yielded) l.initial.work
      l.initial.edits.items l.work l.edits.items;
}
