use Rattle.std.proofs.Common.{◌≡◌, ◌+◌, ◌++◌, ◌∷◌, ◌∙◌, ◌<◌, [], ap, arith, length, subst, sym}
use Rattle.std.proofs.Common.{take, ℕ}
use Rattle.std.proofs.lemmas.Grind.{take_at_read}
use Rattle.std.proofs.lemmas.List.{flat_map_more}
use Rattle.std.specs.Io.KnownBytes.{Appends}
use Rattle.syn_session.specs.Reports.{report_model}
use Rattle.syn_session.specs.declared.report.Report.{Report}
use Rattle.syn_print.specs.Reports.{report_lines}
use Rattle.syn_simulate.specs.Shown.{reports_shown}
use Rattle.std.proofs.KnownBytes.{Appends-trans}
use Rattle.syn_simulate.proofs.show.show_reports.Goals as goal

pub loop-report-preserved : goal.loop-report-preserved
loop-report-preserved g c =
    let reports = c.args.reports.now in
    let index = c.loop-report.report-index in
    let one = c.loop-report-item.result in
    let old = g.W.Write.contents c.args.output.now in
    let middle = g.W.Write.contents c.loop-report.output in
    let new = g.W.Write.contents c.show_report.new.output in
    let less : index < length reports = omega arith in
    let taken : take (index + 1) reports ≡ take index reports ++ one ∷ [] =
    (take_at_read reports index one less).1
    ∙ ap (λ last. take index reports ++ last ∷ []) (sym c.loop-report-item.is) in
    let report_shown = λ (each : Report × ℕ). report_lines (report_model each.0) in
    let lines = ap reports_shown taken
    ∙ sym (flat_map_more report_shown [] (take index reports) one) in
    subst (Appends old new) (sym lines)
    (Appends-trans old middle new (reports_shown (take index reports))
    (report_lines (report_model one.0)) c.loop-report.invariant c.in_ok-show_report.ensures)
