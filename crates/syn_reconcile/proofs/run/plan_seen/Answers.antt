use Rattle.std.proofs.Common.{◌∙◌, ap, option_map}
use Rattle.syn_model.specs.Plan.{plan, scan_of}
use Rattle.syn_model.specs.Tree.{Tree}
use Rattle.syn_path.specs.Sides.{which_of}
use Rattle.syn_reconcile.proofs.run.plan_seen.Goals as goal

pub returns-in-Ok-clause-plan : goal.returns-in-Ok-clause-plan
returns-in-Ok-clause-plan g c =
    let preference = option_map which_of c.args.preference in
    let folder = g.F.EditedFolder.tree c.args.folder.now in
    let replica = c.args.replica.now in
    c.in-Ok.ensures.items
    ∙ (ap (λ (t : Tree). plan preference (scan_of t) (scan_of replica) c.tree-3.result.now)
    c.tree-2.ensures
    ∙ ap (λ (t : Tree). plan preference (scan_of folder) (scan_of replica) t) c.tree-3.ensures)
