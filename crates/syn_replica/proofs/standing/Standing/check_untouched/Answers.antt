use Rattle.std.proofs.Common.{◌≡◌, ◌<◌, ◌⊎◌, Some, None, Err, if◌then◌else◌, sym, ap, ◌∙◌, subst}
use Rattle.std.proofs.Common.{length}
use Rattle.std.proofs.lemmas.Result.{err_from_is_err_and}
use Rattle.syn_history.specs.Past.{Past, past_in}
use Rattle.syn_history.specs.Refusals.{refusal_of as of_history}
use Rattle.syn_model.specs.History.{History, floor, standing_of}
use Rattle.syn_model.specs.Refusal.{Touched, first_cause}
use Rattle.syn_replica.specs.Causes.{since_causes}
use Rattle.syn_replica.proofs.SinceLemmas.{since_below, since_told}
use Rattle.syn_replica.proofs.standing.Standing.check_untouched.Goals as goal
use Rattle.syn_replica.proofs.standing.Standing.check_untouched.Goals.{In_ok-touched}

pub returns-in_err-touched-clause-cause : goal.returns-in_err-touched-clause-cause
returns-in_err-touched-clause-cause c history same =
    let p = err_from_is_err_and c.from_residual.result c.from_residual.ensures.1 in
    let since = c.args.since in
    let past = ap past_in (c.self.view_is ∙ same) in
    let is = c.in_err-touched.ensures.refusals in
    let below = c.touched.ensures.below.0 (c.in_err-touched.was ∙ ap (λ e. Err e) is) in
    let told = subst (λ (p : Past). (since < p.floor) ⊎ (p.position < since)) past below in
    rw (p.1, p.2)
    (ap (λ e. Some (of_history e)) is ∙ sym (since_below history c.args.path.now since told))

answer : (c : In_ok-touched) (history : History) → c.args.self.now ≡ standing_of history →
    first_cause (since_causes history c.args.path.now c.args.since)
    ≡ (if c.in_ok-touched.touched then Some Touched else None)
answer c history same =
    let since = c.args.since in
    let past = ap past_in (c.self.view_is ∙ same) in
    let no : (since < floor history) ⊎ (length history < since) → ⊥ = λ h.
    let refused = c.touched.ensures.below.1
    (subst (λ (p : Past). (since < p.floor) ⊎ (p.position < since)) (sym past) h) in
    let met = sym c.in_ok-touched.was ∙ refused in cc met in
    since_told history c.args.path.now since no ∙ ap (λ b. if b then Some Touched else None)
    (sym (c.in_ok-touched.ensures.quiet history past))

pub returns-then-touched-clause-cause : goal.returns-then-touched-clause-cause
returns-then-touched-clause-cause c history same =
    let k = (goal.at.returns-then-touched-clause-cause c).In_ok-touched in
    sym (answer k history same ∙ ap (λ b. if b then Some Touched else None) c.if-touched.true)

pub returns-else-touched-clause-cause : goal.returns-else-touched-clause-cause
returns-else-touched-clause-cause c history same =
    let k = (goal.at.returns-else-touched-clause-cause c).In_ok-touched in
    sym (answer k history same ∙ ap (λ b. if b then Some Touched else None) c.if-touched.false)
