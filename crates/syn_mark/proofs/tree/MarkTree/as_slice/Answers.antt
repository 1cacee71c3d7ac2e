use Rattle.std.proofs.Common.{◌∙◌}
use Rattle.syn_mark.proofs.MarkLemmas.{entries_are}
use Rattle.syn_mark.proofs.tree.MarkTree.as_slice.Goals as goal

pub returns-clause-all : goal.returns-clause-all
returns-clause-all c =
    c.as_slice.ensures.value
    ∙ entries_are c.self.inside.list.items c.args.self.now c.self.invariant c.self.view_is
