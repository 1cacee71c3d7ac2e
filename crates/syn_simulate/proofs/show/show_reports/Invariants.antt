use Rattle.std.proofs.Common.{take}
use Rattle.std.specs.Io.KnownBytes.{Appends}
use Rattle.syn_simulate.specs.Shown.{reports_shown}
use Rattle.syn_simulate.proofs.show.show_reports.Given as goal

abbrev pub invariant-loop-report : goal.invariant-loop-report
invariant-loop-report g l =
    Appends (g.W.Write.contents l.initial.output) (g.W.Write.contents l.output)
    (reports_shown (take l.report-index l.reports))
