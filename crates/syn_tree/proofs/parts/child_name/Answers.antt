use Rattle.std.proofs.Common.{sym, ◌∙◌}
use Rattle.syn_placed.proofs.ParentLemmas.{child-parent}
use Rattle.syn_tree.proofs.ListingLemmas.{named_last, not_named}
use Rattle.syn_tree.proofs.parts.child_name.Goals as goal

pub returns-then-is_child-clause-name : goal.returns-then-is_child-clause-name
returns-then-is_child-clause-name c =
    let above = c.args.above.now in
    let path = c.args.key.now in
    let child = sym (child-parent above path) ∙ (sym c.is_child.ensures ∙ c.if-is_child.true) in
    c.last_name.ensures.name ∙ named_last above path child

pub returns-else-is_child-clause-name : goal.returns-else-is_child-clause-name
returns-else-is_child-clause-name c =
    let above = c.args.above.now in
    let path = c.args.key.now in
    let other = sym (child-parent above path) ∙ (sym c.is_child.ensures ∙ c.if-is_child.false) in
    sym (not_named above path other)
