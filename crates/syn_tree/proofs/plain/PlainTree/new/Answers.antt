use Rattle.syn_tree.proofs.EmptyLemmas.{empty_kept, empty_with}
use Rattle.syn_tree.proofs.plain.PlainTree.new.Goals as goal

pub invariant_of-result : goal.invariant_of-result
invariant_of-result c =
    empty_kept c.in_ok-list.list.items _ c.in_ok-list.ensures.items c.in_ok-list.ensures.capacity

pub returns-clause-ok : goal.returns-clause-ok
returns-clause-ok c = empty_with c.in_ok-list.list.items c.in_ok-list.ensures.items
