use Rattle.std.proofs.Common.{◌≤◌, drop, reverse}
use Rattle.std.specs.Io.KnownBytes.{Appends}
use Rattle.syn_print.specs.Events.{lines_of}
use Rattle.syn_print.proofs.log.lines.show_log.Given as goal

abbrev pub invariant-loop-index : goal.invariant-loop-index
invariant-loop-index g l = record {
  shown : Appends (g.W.Write.contents l.initial.output) (g.W.Write.contents l.output)
      (lines_of (reverse (drop l.index l.logged)));
  above : l.first ≤ l.index;
}
