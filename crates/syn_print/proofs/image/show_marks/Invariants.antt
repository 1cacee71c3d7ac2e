use Rattle.std.proofs.Common.{take}
use Rattle.std.specs.Io.KnownBytes.{Appends}
use Rattle.syn_print.specs.Images.{lines_of_marks}
use Rattle.syn_print.proofs.image.show_marks.Given as goal

abbrev pub invariant-loop-entry : goal.invariant-loop-entry
invariant-loop-entry g l =
    Appends (g.W.Write.contents l.initial.output) (g.W.Write.contents l.output)
    (lines_of_marks (take l.entry-index l.marks))
