use Rattle.std.proofs.Common.{◌≡◌, ◌<◌, ℕ, IfOk, OnOk, option_map, subst}
use Rattle.std.specs.FinMap.{len}
use Rattle.syn_archive.specs.Archive.{marks_shown, pair_of as marks_pair}
use Rattle.syn_model.specs.Plan.{plan, scan_of}
use Rattle.syn_model.specs.Tree.{Tree}
use Rattle.syn_path.specs.Sides.{which_of}
use Rattle.syn_recon.specs.Items.{items_of}
use Rattle.syn_reconcile.proofs.run.plan.Goals as goal

pub returns-clause-plan : goal.returns-clause-plan
returns-clause-plan g c =
    subst (λ (t : Tree). IfOk c.plan_seen.result (λ compared. items_of compared.items.items
    ≡ plan (option_map which_of c.args.preference)
    (scan_of (g.F.EditedFolder.tree c.args.folder.now)) (scan_of t)
    (marks_shown c.args.archive.now))) c.tree.ensures c.plan_seen.ensures.plan

pub returns-clause-emptied : goal.returns-clause-emptied
returns-clause-emptied g c refuse =
    subst (λ (t : Tree). OnOk c.plan_seen.result (1 < len (marks_shown c.args.archive.now)
    → (1 < len (g.F.EditedFolder.tree c.args.folder.now)) × (1 < len t))) c.tree.ensures
    (c.plan_seen.ensures.emptied refuse)

pub returns-clause-pair : goal.returns-clause-pair
returns-clause-pair g c =
    subst (λ (n : ℕ). OnOk c.plan_seen.result (marks_pair c.args.archive.now ≡ n)) c.pair.ensures
    c.plan_seen.ensures.pair
