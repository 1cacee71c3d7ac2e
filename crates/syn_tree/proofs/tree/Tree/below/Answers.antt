use Rattle.std.proofs.Common.{filter, sym, ap, ap₂, ◌∙◌}
use Rattle.std.specs.FinMap.{entries}
use Rattle.syn_placed.specs.Pairs.{is_below}
use Rattle.syn_placed.proofs.TreeLemmas.{entries-with}
use Rattle.syn_placed.proofs.BelowLemmas.{below_rooted}
use Rattle.syn_tree.proofs.tree.Tree.below.Goals as goal

pub returns : goal.returns
returns c =
    let at = c.args.path.now in
    let ds = c.self.inside.list.items in
    c.over.ensures ∙ (c.part_below.ensures
    ∙ (ap₂ (λ p xs. filter (is_below p) xs) c.key.ensures c.deref.ensures.value
    ∙ (sym (below_rooted at ds)
    ∙ (ap (filter (is_below at)) (sym (entries-with ds c.self.invariant.rising))
    ∙ ap (λ t. filter (is_below at) (entries t)) c.self.view_is))))
