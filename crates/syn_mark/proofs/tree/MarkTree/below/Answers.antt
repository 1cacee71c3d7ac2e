use Rattle.std.proofs.Common.{filter, sym, ap, ◌∙◌}
use Rattle.std.specs.FinMap.{entries}
use Rattle.syn_placed.specs.Pairs.{is_below}
use Rattle.syn_mark.proofs.MarkLemmas.{entries_of}
use Rattle.syn_mark.proofs.tree.MarkTree.below.Goals as goal

pub returns : goal.returns
returns c =
    let at = c.args.path.now in
    c.part_below.ensures ∙ (ap (filter (is_below at)) c.deref.ensures.value
    ∙ (ap (filter (is_below at)) (sym (entries_of c.self.inside.list.items c.self.invariant))
    ∙ ap (λ t. filter (is_below at) (entries t)) c.self.view_is))
