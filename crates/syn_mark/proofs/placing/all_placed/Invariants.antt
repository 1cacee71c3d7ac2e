use Rattle.std.proofs.Common.{◌≡◌, true, take}
use Rattle.std.specs.List.{list_all}
use Rattle.syn_mark.specs.Marks.{AreMarkPairs}
use Rattle.syn_mark.specs.Placings.{stands_in}
use Rattle.syn_mark.proofs.placing.all_placed.Given as goal

abbrev pub invariant-loop-entry : goal.invariant-loop-entry
invariant-loop-entry l =
    (list_all (stands_in l.below) (take l.entry-index l.below) ≡ true)
    × AreMarkPairs (take l.entry-index l.below)
