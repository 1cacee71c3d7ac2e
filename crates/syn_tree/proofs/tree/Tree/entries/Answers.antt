use Rattle.std.proofs.Common.{sym, ap, ◌∙◌}
use Rattle.std.specs.FinMap.{entries}
use Rattle.syn_placed.specs.Pairs.{rooted}
use Rattle.syn_placed.proofs.TreeLemmas.{entries-with}
use Rattle.syn_tree.proofs.tree.Tree.entries.Goals as goal

pub returns-clause-all : goal.returns-clause-all
returns-clause-all c =
    ap rooted (c.over.ensures ∙ c.deref.ensures.value) ∙ (sym
    (entries-with c.self.inside.list.items c.self.invariant.rising) ∙ ap entries c.self.view_is)
