use Rattle.std.proofs.Common.{map, take}
use Rattle.syn_folder.specs.Looks.{AreShown, IsChildOf}
use Rattle.syn_folder.proofs.system.listing.children_of.Given as goal

abbrev pub invariant-loop-name : goal.invariant-loop-name
invariant-loop-name l =
    AreShown (IsChildOf l.at l.path) (map (λ n. n.now) (take l.name-index l.name-items))
    l.children.items
