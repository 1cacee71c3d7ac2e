use Rattle.std.proofs.Common.{◌∙◌, ap, sym}
use Rattle.std.proofs.lemmas.Result.{err_from_is_err_and}
use Rattle.syn_history.specs.Events.{event_of}
use Rattle.syn_model.specs.Standing.{refusal_at}
use Rattle.syn_replica.specs.Updates.{tree_refusal}
use Rattle.syn_replica.proofs.StandingLemmas.{of_cause, tree_at}
use Rattle.syn_replica.proofs.standing.Standing.change_by.Goals as goal

pub returns-in_err-change-in-Replaced-clause-refused :
    goal.returns-in_err-change-in-Replaced-clause-refused
returns-in_err-change-in-Replaced-clause-refused c =
    let p = err_from_is_err_and c.from_residual-in_err-change-in-Replaced.result
    c.from_residual-in_err-change-in-Replaced.ensures.1 in
    let standing = c.args.self.now in
    let event = event_of c.args.event in
    rw (p.1, p.2) (of_cause c.in_err-change-in-Replaced.field-0.0 (refusal_at standing event)
    (λ other. tree_at standing event _ c.requires
    (ap (λ s. tree_refusal s.tree event) (sym c.self.view_is)
    ∙ (ap (λ e. tree_refusal c.self.inside.tree (event_of e)) c.in-Replaced.is
    ∙ c.in_err-change-in-Replaced.ensures.refused other))))
