use Rattle.std.proofs.Common.{◌≡◌, ◌∙◌, ap₂, None, option_map}
use Rattle.std.proofs.lemmas.Result.{IfOk-weaker}
use Rattle.syn_model.specs.Plan.{plan}
use Rattle.syn_scan.specs.Found.{scan_of}
use Rattle.syn_dirty.specs.Paths.{paths_at}
use Rattle.syn_recon.specs.Items.{items_of}
use Rattle.syn_recon.specs.inner.Walks.{decided, merged}
use Rattle.syn_recon.specs.inner.Decided.{walk}
use Rattle.syn_recon.proofs.PlanLemmas.{plan_is_walk}
use Rattle.syn_recon.proofs.walk.plan.Goals as goal
use Rattle.syn_path.specs.Sides.{which_of}

pub returns-clause-ok : goal.returns-clause-ok
returns-clause-ok c =
    let left = c.args.left.now in
    let right = c.args.right.now in
    let archive = c.args.archive.now in
    let preference = option_map which_of c.args.preference in
    let decide = decided preference (scan_of left) (scan_of right) archive in
    IfOk-weaker c.items_along.result (λ items. items_of items.items
    ≡ walk decide (merged (paths_at c.deref.result.now) (paths_at c.deref-2.result.now)) None)
    (λ items. items_of items.items ≡ plan preference (scan_of left) (scan_of right) archive)
    (λ items is. is ∙ (ap₂ (λ ls rs. walk decide (merged (paths_at ls) (paths_at rs)) None)
    c.deref.ensures.value c.deref-2.ensures.value
    ∙ plan_is_walk preference left right archive (paths_at c.in_ok-lefts.lefts.items)
    (paths_at c.in_ok-rights.rights.items) c.tree.ensures.found c.tree-2.ensures.found
    c.as_slice.ensures.marks.part.parents c.as_slice.ensures.fits c.in_ok-lefts.ensures.ok
    c.in_ok-rights.ensures.ok))
    c.items_along.ensures.ok
