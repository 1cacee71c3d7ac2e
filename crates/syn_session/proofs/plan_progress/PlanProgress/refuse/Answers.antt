use Rattle.std.proofs.Common.{◌<◌, ◌∙◌, ap, sym, subst, length, ltb-true, slice_index_or}
use Rattle.syn_model.specs.Decision.{path_of}
use Rattle.syn_session.proofs.PlanLemmas.{stands_at}
use Rattle.syn_session.proofs.plan_progress.PlanProgress.refuse.Goals as goal

pub returns-clause-passes : goal.returns-clause-passes
returns-clause-passes c left right reached planned is at none =
    let cursor = c.args.self.now.cursor in
    let less = subst (λ l. cursor < length l) c.deref.ensures.value
    (ltb-true _ _ (sym c.in-Some.ensures.lookup.0)) in
    let there = c.in-Some.ensures.lookup.1
    ∙ ap (λ l. slice_index_or l cursor c.in-Some.item.now) c.deref.ensures.value in
    let here = stands_at left right c.args.self.now.items.items cursor planned at c.in-Some.item.now
    less there in
    c.pass_refused.ensures.passes left right reached planned is at
    (ap path_of here ∙ (sym c.path.ensures ∙ sym c.in_ok-path.ensures)) none
