use Rattle.std.proofs.Common.{ap, ◌∙◌}
use Rattle.syn_placed.specs.Pairs.{is_child}
use Rattle.syn_placed.proofs.ParentLemmas.{child-parent}
use Rattle.syn_placed.proofs.by_key.is_child.Goals as goal

pub returns : goal.returns
returns g c =
    c.is_child.ensures ∙ (child-parent c.args.above.now c.key.result.now
    ∙ ap (is_child c.args.above.now) c.key.ensures)
