use Rattle.std.proofs.Common.{◌≡◌, [], take}
use Rattle.syn_folder.specs.Strangers.{IsApart}
use Rattle.syn_folder.proofs.export.in_the_way.Given as goal

abbrev pub invariant-loop-stranger : goal.invariant-loop-stranger
invariant-loop-stranger l =
    l.found.items ≡ [] → IsApart (take l.stranger-index l.strangers) l.wanted
