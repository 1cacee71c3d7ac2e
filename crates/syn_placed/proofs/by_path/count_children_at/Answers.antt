use Rattle.std.proofs.Common.{ap, ◌∙◌}
use Rattle.syn_placed.proofs.CountLemmas.{kids, kids-within}
use Rattle.syn_placed.proofs.by_path.count_children_at.Goals as goal

pub returns : goal.returns
returns g c =
    c.count_children.ensures ∙ (ap (kids c.names-names.result.now) c.part_at.ensures
    ∙ (kids-within c.names-names.result.now c.args.list.now
    ∙ ap (λ p. kids p c.args.list.now) c.names-names.ensures.names))
