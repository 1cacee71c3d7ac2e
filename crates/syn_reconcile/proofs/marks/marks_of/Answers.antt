use Rattle.std.proofs.Common.{◌∙◌, ap, option_map, sym}
use Rattle.syn_model.specs.Mark.{mark}
use Rattle.syn_tree.specs.Nodes.{part_of}
use Rattle.syn_reconcile.proofs.MarkLemmas.{mark_absent}
use Rattle.syn_reconcile.proofs.marks.marks_of.Goals as goal

pub returns-in-None : goal.returns-in-None
returns-in-None c =
    sym (ap (λ n. mark (part_of (option_map (λ there. there.now) n))) c.in-None.is ∙ mark_absent)
