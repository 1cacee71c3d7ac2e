use Rattle.std.proofs.Common.{◌<◌, arith, length, rules, subst}
use Rattle.std.proofs.lemmas.Result.{err_from_is_err_and}
use Rattle.syn_user.proofs.lawful.body_of.Goals as goal
use Rattle.syn_user.specs.inner.Parts.{too_long, wanting}

pub returns-then-not-has_body-clause-refused : goal.returns-then-not-has_body-clause-refused
returns-then-not-has_body-clause-refused c = too_long (c.has_body.ensures.long (search rules))

pub returns-in_err-body-clause-refused : goal.returns-in_err-body-clause-refused
returns-in_err-body-clause-refused c =
    let p = err_from_is_err_and c.from_residual.result c.from_residual.ensures.1 in
    rw (p.1, p.2) wanting

pub returns-then-len-gt-LONGEST_BODY-clause-refused :
    goal.returns-then-len-gt-LONGEST_BODY-clause-refused
returns-then-len-gt-LONGEST_BODY-clause-refused c =
    too_long (subst (λ b. 65536 < length b) c.in_ok-body.ensures (omega arith))
