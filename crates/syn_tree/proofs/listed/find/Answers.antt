use Rattle.std.proofs.Common.{ap, sym, ◌∙◌, Some}
use Rattle.syn_placed.proofs.FindLemmas.{below_root}
use Rattle.syn_tree.proofs.listed.find.Goals as goal

pub returns-in-Some : goal.returns-in-Some
returns-in-Some c =
    ap (λ x. Some x) (c.as_found.ensures ∙ c.content.ensures) ∙ (c.in-Some.ensures ∙ sym
    (below_root c.args.names.now c.args.list.now (sym c.is_empty.ensures ∙ c.if-is_empty.false)))

pub returns-in-None : goal.returns-in-None
returns-in-None c =
    c.in-None.ensures ∙ sym
    (below_root c.args.names.now c.args.list.now (sym c.is_empty.ensures ∙ c.if-is_empty.false))
