use Rattle.syn_tree.proofs.EmptyLemmas.{empty_entries, empty_with}
use Rattle.syn_tree.proofs.entries.Entries.new.Goals as goal

pub invariant_of-result : goal.invariant_of-result
invariant_of-result c = empty_entries c.new.result.items c.new.ensures.items

pub returns : goal.returns
returns c = empty_with c.new.result.items c.new.ensures.items
