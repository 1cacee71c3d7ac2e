use Rattle.std.proofs.Common.{◌∙◌, ap}
use Rattle.std.proofs.lemmas.Result.{IfErr-weaker, IfOk-weaker}
use Rattle.syn_model.specs.Tree.{subtree}
use Rattle.syn_model.proofs.TreeLemmas.{subtree-root}
use Rattle.syn_change.proofs.PartLemmas.{directory_there}
use Rattle.syn_change.proofs.plan.copy_whole.Goals as goal

pub returns-clause-ok : goal.returns-clause-ok
returns-clause-ok c =
    let tree = c.args.tree.now in
    IfOk-weaker c.copy_part.result _ _
    (λ copy is. is ∙ (ap (subtree tree) c.root-root.ensures ∙ subtree-root tree))
    c.copy_part.ensures.part

pub returns-clause-memory : goal.returns-clause-memory
returns-clause-memory c =
    IfErr-weaker c.copy_part.result _ _
    (λ e refused. directory_there c.args.tree.now c.root-root.result e c.root-root.ensures
    c.entries.ensures.tree.rooted refused) c.copy_part.ensures.refused
