use Rattle.syn_mark.proofs.MarkLemmas.{entries_are}
use Rattle.syn_mark.proofs.tree.MarkTree.into_vec.Goals as goal

pub returns-clause-all : goal.returns-clause-all
returns-clause-all c =
    entries_are c.self.inside.list.items c.args.self c.self.invariant c.self.view_is
