use Rattle.std.proofs.Common.{◌≡◌, true, take}
use Rattle.std.specs.List.{list_all}
use Rattle.syn_tree.specs.Entries.{stands_in, AreLawful}
use Rattle.syn_tree.proofs.entries.all_stand.Given as goal

abbrev pub invariant-loop-entry : goal.invariant-loop-entry
invariant-loop-entry l =
    (list_all (stands_in l.list) (take l.entry-index l.list) ≡ true)
    × AreLawful (take l.entry-index l.list)
