use Rattle.std.proofs.Common.{map, take}
use Rattle.std.specs.Io.KnownBytes.{Appends}
use Rattle.syn_print.specs.Reports.{lines_of_named}
use Rattle.syn_print.specs.inner.Named.{named_of}
use Rattle.syn_print.proofs.report.show_named.Given as goal

abbrev pub invariant-loop-item : goal.invariant-loop-item
invariant-loop-item g l =
    Appends (g.W.Write.contents l.initial.output) (g.W.Write.contents l.output)
    (lines_of_named (map named_of (take l.item-index l.items)))
