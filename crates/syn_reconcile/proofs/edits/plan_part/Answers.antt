use Rattle.std.proofs.Common.{map, subst}
use Rattle.syn_change.specs.Changes.{AreChanges}
use Rattle.syn_model.specs.Tree.{Tree, replace}
use Rattle.syn_tree.specs.Edits.{edit_of}
use Rattle.syn_reconcile.proofs.edits.plan_part.Goals as goal

pub returns-clause-changes : goal.returns-clause-changes
returns-clause-changes c =
    let replica = c.args.replica.now in
    let path = c.args.path.now in
    subst (λ (t : Tree). AreChanges replica (replace replica path t)
    (map edit_of c.in_ok-edits.edits.items)) c.in_ok-node.ensures.part
    c.in_ok-edits.ensures.changes
