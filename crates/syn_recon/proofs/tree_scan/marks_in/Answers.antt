use Rattle.std.proofs.Common.{ap, ◌∙◌}
use Rattle.std.proofs.lemmas.Result.{IfOk-weaker}
use Rattle.syn_mark.specs.Placings.{marks_of}
use Rattle.syn_mark.proofs.MarkLemmas.{children-mark}
use Rattle.syn_recon.proofs.tree_scan.marks_in.Goals as goal

pub returns-clause-marks : goal.returns-clause-marks
returns-clause-marks c =
    let same = ap marks_of c.in_ok-children.ensures.children
    ∙ children-mark c.args.tree.now c.args.path.now in
    IfOk-weaker c.marks_at.result _ _ (λ listed is. is ∙ same) c.marks_at.ensures.marks
