use Rattle.std.proofs.Common.{inl, inr, refl}
use Rattle.std.proofs.lemmas.Result.{err_from_is_err_and}
use Rattle.syn_command.proofs.preview.plan_between.Goals as goal

pub returns-in_err-left-clause-cause : goal.returns-in_err-left-clause-cause
returns-in_err-left-clause-cause g c =
    let p = err_from_is_err_and c.from_residual.result c.from_residual.ensures.1 in
    rw (p.1, p.2) (elim c.in_err-left.ensures.cause [
      | inl memory ↦ inl memory
      | inr cause ↦ inr (inl (cause, refl))
    ])

pub returns-in_err-right-clause-cause : goal.returns-in_err-right-clause-cause
returns-in_err-right-clause-cause g c =
    let p = err_from_is_err_and c.from_residual-in_err-right.result
    c.from_residual-in_err-right.ensures.1 in
    rw (p.1, p.2) (elim c.in_err-right.ensures.cause [
      | inl memory ↦ inl memory
      | inr cause ↦ inr (inr cause)
    ])
