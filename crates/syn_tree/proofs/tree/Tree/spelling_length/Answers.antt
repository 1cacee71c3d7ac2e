use Rattle.std.proofs.Common.{sym, ap, ◌∙◌}
use Rattle.syn_model.specs.Limits.{tree_spelling_length}
use Rattle.syn_placed.specs.Pairs.{spelling_length}
use Rattle.syn_placed.proofs.TreeLemmas.{entries-with}
use Rattle.syn_tree.proofs.tree.Tree.spelling_length.Goals as goal

pub returns : goal.returns
returns c =
    c.self.invariant.counted
    ∙ (sym (ap spelling_length (entries-with c.self.inside.list.items c.self.invariant.rising))
    ∙ ap tree_spelling_length c.self.view_is)
