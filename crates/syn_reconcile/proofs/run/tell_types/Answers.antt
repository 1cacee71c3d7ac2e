use Rattle.std.proofs.Common.{subst}
use Rattle.syn_model.specs.Plan.{CanBePlanned}
use Rattle.syn_reconcile.proofs.PlannableLemmas.{marks_plannable, tree_plannable}
use Rattle.syn_reconcile.proofs.run.tell_types.Goals as goal

pub returns-clause-folder : goal.returns-clause-folder
returns-clause-folder g c =
    subst CanBePlanned c.tree.ensures
    (tree_plannable c.tree.result.now c.entries.ensures.tree c.entries.ensures.fits)

pub returns-clause-replica : goal.returns-clause-replica
returns-clause-replica g c =
    tree_plannable c.args.replica.now c.entries-2.ensures.tree c.entries-2.ensures.fits

pub returns-clause-archive : goal.returns-clause-archive
returns-clause-archive g c =
    subst CanBePlanned c.tree-2.ensures
    (marks_plannable c.tree-2.result.now c.as_slice.ensures.marks c.as_slice.ensures.fits)
