use Rattle.std.proofs.Common.{◌∙◌, ◌++◌, ap, length, map, option_map, subst, sym}
use Rattle.std.proofs.lemmas.List.{length-map}
use Rattle.std.proofs.lemmas.Result.{on_ok_weaker}
use Rattle.std.specs.Io.KnownBytes.{Appends}
use Rattle.syn_model.specs.Path.{Path}
use Rattle.syn_model.specs.Refusal.{Refusal as Cause}
use Rattle.syn_refusal.specs.Refusals.{cause_of}
use Rattle.syn_refusal.specs.declared.refusal.Refusal.{Refusal}
use Rattle.syn_session.specs.Reports.{end_of, report_model}
use Rattle.syn_print.specs.Reports.{counts_line, ended_line, in_order, is_earlier, lines_of_named}
use Rattle.syn_print.specs.Reports.{named_in, session_line}
use Rattle.syn_print.specs.inner.Named.{named_of}
use Rattle.std.proofs.KnownBytes.{Appends-trans}
use Rattle.syn_print.proofs.report.show_report.Goals as goal

pub returns : goal.returns
returns g c =
    let report = c.args.report.now in
    let cause_and_path : Refusal × Path → Cause × Path = λ one. (cause_of one.0, one.1) in
    let model = report_model report in
    let first = session_line report.session (end_of report.end) in
    let counts = counts_line report.done report.marked (length model.conflicts)
    (length model.refused) in
    let named = lines_of_named (in_order is_earlier (named_in model)) in
    let ended = ended_line (option_map cause_of report.ended) in
    let old = g.W.Write.contents c.args.output.now in
    let one = g.W.Write.contents c.show_end.new.output in
    let two = g.W.Write.contents c.show_counts.new.output in
    let three = g.W.Write.contents c.show_named.new.output in
    let new = g.W.Write.contents c.show_ended.new.output in
    let lengths = sym (length-map report.refused.items cause_and_path) in
    let is_counts = ap (counts_line report.done report.marked (length model.conflicts)) lengths in
    let is_named = ap (map named_of) c.deref.ensures.value ∙ c.in_ok-items.ensures in
    let wrote_counts = subst (Appends one two) is_counts c.in_ok-show_counts.ensures in
    let wrote_named =
    subst (Appends two three) (ap lines_of_named is_named) c.in_ok-show_named.ensures in
    on_ok_weaker c.show_ended.result
    (λ wrote_ended.
    Appends-trans old one new first (counts ++ (named ++ ended)) c.in_ok-show_end.ensures
    (Appends-trans one two new counts (named ++ ended) wrote_counts
    (Appends-trans two three new named ended wrote_named wrote_ended)))
    c.show_ended.ensures
