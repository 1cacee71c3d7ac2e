use Rattle.std.proofs.Common.{sym, inr}
use Rattle.std.proofs.lemmas.Result.{err_from_is_err_and}
use Rattle.syn_history.specs.Events.{event_of}
use Rattle.syn_replica.proofs.StandingLemmas.{early_at}
use Rattle.syn_replica.proofs.standing.Standing.add.Goals as goal

pub returns-in_err-check-clause-refused : goal.returns-in_err-check-clause-refused
returns-in_err-check-clause-refused c =
    let p = err_from_is_err_and c.from_residual.result c.from_residual.ensures.1 in
    rw (p.1, p.2)
    (inr (early_at c.args.self.now (event_of c.args.event) _ (sym c.in_err-check.ensures)))
