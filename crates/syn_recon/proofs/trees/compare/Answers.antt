use Rattle.std.proofs.Common.{◌∙◌, ap₂, option_map}
use Rattle.syn_model.specs.Dirty.{Scan}
use Rattle.syn_model.specs.Plan.{plan}
use Rattle.syn_path.specs.Sides.{which_of}
use Rattle.syn_recon.proofs.trees.compare.Goals as goal

pub returns-in-Ok-plan-clause-items : goal.returns-in-Ok-plan-clause-items
returns-in-Ok-plan-clause-items c =
    c.in-Ok-plan.ensures.ok
    ∙ ap₂ (λ (l r : Scan). plan (option_map which_of c.args.preference) l r c.args.archive.now)
    c.in-Ok.ensures.scan c.in-Ok-scan_tree.ensures.scan
