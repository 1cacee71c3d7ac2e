use Rattle.std.proofs.Common.{◌≡◌, map, subst}
use Rattle.syn_change.specs.Changes.{AreChanges}
use Rattle.syn_model.proofs.ExitLemmas.{is_err_of_exit}
use Rattle.syn_model.specs.Tree.{Tree, replace}
use Rattle.syn_replica.specs.ErrorRefusals.{refusal_of}
use Rattle.syn_tree.specs.Edits.{edit_of}
use Rattle.syn_tree.specs.Nodes.{part_of}
use Rattle.syn_shared.proofs.parts.planned_within.Goals as goal

pub returns-in_err-fetch-clause-touched : goal.returns-in_err-fetch-clause-touched
returns-in_err-fetch-clause-touched g c history why stands some =
    is_err_of_exit c.from_residual.result c.in_err-fetch.field-0.0 (λ e. refusal_of e ≡ why)
    c.from_residual.ensures.1 (c.in_err-fetch.ensures.refused history why stands some)

pub returns-clause-changes : goal.returns-clause-changes
returns-clause-changes g c =
    subst (λ (t : Tree). AreChanges t (replace t c.args.path.now (part_of c.args.new))
    (map edit_of c.in_ok-changes_with.field-0.items)) c.tree.ensures
    c.in_ok-changes_with.ensures.changes
