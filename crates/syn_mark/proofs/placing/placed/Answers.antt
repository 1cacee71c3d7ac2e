use Rattle.std.proofs.Common.{sym, ap, ◌∙◌, subst}
use Rattle.std.specs.FinMap.{entries}
use Rattle.syn_model.specs.Mark.{IsMarks}
use Rattle.syn_placed.specs.Pairs.{under}
use Rattle.syn_mark.specs.Marks.{or_absent}
use Rattle.syn_mark.proofs.ChangeLemmas.{none_under, nothing_marks}
use Rattle.syn_mark.proofs.placing.placed.Goals as goal

pub returns-in_default-clause-ok : goal.returns-in_default-clause-ok
returns-in_default-clause-ok c =
    c.new-list.ensures.items ∙ (none_under c.args.at.now
    ∙ ap (λ o. under c.args.at.now (entries (or_absent o))) (sym c.in_default.is))

pub returns-in_default-clause-marks : goal.returns-in_default-clause-marks
returns-in_default-clause-marks c =
    subst (λ o. IsMarks (or_absent o)) (sym c.in_default.is) nothing_marks
