use Rattle.std.proofs.Common.{ap, sym, ◌∙◌, Some}
use Rattle.syn_placed.proofs.FindLemmas.{below_root, not_empty}
use Rattle.syn_tree.proofs.measures.find.Goals as goal

pub returns-in-Some : goal.returns-in-Some
returns-in-Some c =
    ap (λ x. Some x) (c.as_found.ensures ∙ c.content.ensures) ∙ (c.in-Some.ensures ∙ sym
    (below_root c.args.at.now c.args.list.now (not_empty c.args.at.now
    (sym c.is_root.ensures.root ∙ c.if-is_root.false))))

pub returns-in-None : goal.returns-in-None
returns-in-None c =
    c.in-None.ensures ∙ sym
    (below_root c.args.at.now c.args.list.now (not_empty c.args.at.now
    (sym c.is_root.ensures.root ∙ c.if-is_root.false)))
