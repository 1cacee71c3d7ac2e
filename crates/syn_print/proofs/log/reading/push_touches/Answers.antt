use Rattle.std.proofs.Common.{◌≤◌, subst, sym}
use Rattle.std.proofs.lemmas.Result.{err_from_is_err_and}
use Rattle.syn_model.specs.Limits.{greatest}
use Rattle.syn_print.proofs.DamageLemmas.{reading_weaker}
use Rattle.syn_print.specs.inner.Damages.{HasGreatest}
use Rattle.syn_print.proofs.log.reading.push_touches.Goals as goal

pub returns-in_err-position-clause-cause : goal.returns-in_err-position-clause-cause
returns-in_err-position-clause-cause c =
    let p = err_from_is_err_and c.from_residual.result c.from_residual.ensures.1 in
    let touch = c.touch-item.result in
    let most = c.position.result in
    rw (p.1, p.2) (reading_weaker c.in_err-position.field-0.0 (greatest ≤ most)
    (HasGreatest c.args.touches.now)
    (λ is. (
      touch,
      (c.loop-touch.touch-index, c.loop-touch-test.true, sym c.touch-item.is),
      subst (λ n. greatest ≤ n) c.position.ensures.position is,
    )) c.in_err-position.ensures.cause)
