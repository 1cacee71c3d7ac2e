use Rattle.std.proofs.Common.{◌≡◌, Some, sym, ap, ◌∙◌, subst}
use Rattle.std.proofs.lemmas.Result.{err_from_is_err_and}
use Rattle.syn_model.specs.Refusal.{first_cause}
use Rattle.syn_model.specs.Standing.{edit_refusal}
use Rattle.syn_tree.specs.Edits.{edit_of}
use Rattle.syn_tree.specs.Refusals.{refusal_in as tree_refusal_in, refusal_of as of_tree}
use Rattle.syn_history.specs.Events.{event_of}
use Rattle.syn_replica.specs.Updates.{early_causes}
use Rattle.syn_replica.proofs.StandingLemmas.{edit_refused, edit_passed}
use Rattle.syn_replica.proofs.standing.Standing.check.Goals as goal

pub returns-in_err-check-in-Edited : goal.returns-in_err-check-in-Edited
returns-in_err-check-in-Edited c =
    let p = err_from_is_err_and c.from_residual.result c.from_residual.ensures.1 in
    let standing = c.args.self.now in
    let e = c.in_err-check-in-Edited.field-0.0 in
    let refused = edit_refused standing c.in-Edited.user (edit_of c.in-Edited.edit) (of_tree e)
    (ap (λ s. edit_refusal s.tree (edit_of c.in-Edited.edit)) (sym c.self.view_is)
    ∙ sym c.in_err-check-in-Edited.ensures) in
    rw (p.1, p.2) (subst (λ event. Some (of_tree e)
    ≡ first_cause (early_causes standing (event_of event))) (sym c.in-Edited.is) (sym refused))

pub returns-in_ok-check-in-Edited : goal.returns-in_ok-check-in-Edited
returns-in_ok-check-in-Edited c =
    let standing = c.args.self.now in
    let none = ap (λ s. edit_refusal s.tree (edit_of c.in-Edited.edit)) (sym c.self.view_is)
    ∙ (sym c.check.ensures ∙ ap tree_refusal_in c.in_ok-check-in-Edited.was) in
    c.check_position.ensures
    ∙ (sym (edit_passed standing c.in-Edited.user (edit_of c.in-Edited.edit) none)
    ∙ sym (ap (λ event. first_cause (early_causes standing (event_of event))) c.in-Edited.is))
