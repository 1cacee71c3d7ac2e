use Rattle.std.proofs.Common.{sym, ap, ap₂, ◌∙◌}
use Rattle.std.specs.FinMap.{entries}
use Rattle.syn_placed.specs.Pairs.{within}
use Rattle.syn_mark.proofs.MarkLemmas.{entries_of}
use Rattle.syn_mark.proofs.tree.MarkTree.subtree.Goals as goal

pub returns : goal.returns
returns c =
    c.part_at.ensures ∙ (ap₂ within c.names.ensures.names c.deref.ensures.value
    ∙ (ap (within c.args.path.now) (sym (entries_of c.self.inside.list.items c.self.invariant))
    ∙ ap (λ t. within c.args.path.now (entries t)) c.self.view_is))
