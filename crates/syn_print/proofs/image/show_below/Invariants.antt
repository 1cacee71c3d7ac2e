use Rattle.std.proofs.Common.{◌≡◌, ◌++◌, filter}
use Rattle.std.specs.FinMap.{entries}
use Rattle.std.specs.Io.KnownBytes.{Appends}
use Rattle.syn_placed.specs.Pairs.{is_below}
use Rattle.syn_print.specs.Images.{lines_of}
use Rattle.syn_print.proofs.image.show_below.Given as goal

abbrev pub invariant-loop-pair : goal.invariant-loop-pair
invariant-loop-pair g l = record {
  whole : l.yielded ++ l.pair-iterator ≡ filter (is_below l.directory) (entries l.tree);
  printed : Appends (g.W.Write.contents l.initial.output) (g.W.Write.contents l.output)
      (lines_of l.yielded);
}
