use Rattle.std.proofs.Common.{ap, ◌∙◌}
use Rattle.syn_placed.proofs.CountLemmas.{kids, kids-within}
use Rattle.syn_placed.proofs.by_key.count_children_at.Goals as goal

pub returns : goal.returns
returns g c =
    c.count_children.ensures ∙ (ap (kids c.args.at.now) c.part_at.ensures
    ∙ kids-within c.args.at.now c.args.list.now)
