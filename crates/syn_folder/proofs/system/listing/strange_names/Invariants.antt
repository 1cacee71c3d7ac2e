use Rattle.std.proofs.Common.{map, take}
use Rattle.syn_folder.specs.Looks.{AreShown, IsStrangeName, told}
use Rattle.syn_folder.proofs.system.listing.strange_names.Given as goal

abbrev pub invariant-loop-name : goal.invariant-loop-name
invariant-loop-name l =
    AreShown (IsStrangeName l.at l.path l.is_crowded)
    (map (λ n. n.now) (take l.name-index l.name-items)) (map told l.strangers.items)
