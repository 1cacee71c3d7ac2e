use Rattle.std.proofs.Common.{take}
use Rattle.std.specs.Io.KnownBytes.{Appends}
use Rattle.syn_print.specs.Plans.{items_lines}
use Rattle.syn_print.proofs.plan.lines.show_items.Given as goal

abbrev pub invariant-loop-item : goal.invariant-loop-item
invariant-loop-item g l =
    Appends (g.W.Write.contents l.initial.output) (g.W.Write.contents l.output)
    (items_lines l.left l.right l.archive (take l.item-index l.items))
