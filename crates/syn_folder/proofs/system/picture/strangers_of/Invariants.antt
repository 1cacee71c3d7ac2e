use Rattle.std.proofs.Common.{map, take}
use Rattle.syn_folder.specs.Looks.{AreShown, ShowsStranger, told}
use Rattle.syn_folder.proofs.system.picture.strangers_of.Given as goal

abbrev pub invariant-loop-seen : goal.invariant-loop-seen
invariant-loop-seen l =
    AreShown (ShowsStranger l.at) (take l.seen-index l.looks) (map told l.strangers.items)
