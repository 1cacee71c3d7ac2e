use Rattle.syn_model.proofs.ExitLemmas.{is_err_of_exit, match_of_exit}
use Rattle.syn_replica.specs.Refusals.{IsOneOf, hiding_refusals}
use Rattle.syn_replica.proofs.MachineLemmas.{starts}
use Rattle.syn_replica.proofs.MeaningLemmas.{hidden, open_refusal}
use Rattle.syn_replica.proofs.StandLemmas.{opened_each}
use Rattle.syn_replica.proofs.replica.Replica.open.Goals as goal

pub returns-clause-each : goal.returns-clause-each
returns-clause-each g c number history fits stands =
    opened_each _ (g.D.Disk.seen c.args.disk) number history c.in_ok-journaled.ensures.opened fits
    stands

pub returns-in_err-journaled-clause-wrong_pair : goal.returns-in_err-journaled-clause-wrong_pair
returns-in_err-journaled-clause-wrong_pair g c other =
    let refused = c.in_err-journaled.field-0.0 in
    let seen = g.D.Disk.seen c.args.disk in
    is_err_of_exit c.from_residual.result refused (λ refused. IsOneOf hiding_refusals refused.0)
    c.from_residual.ensures.1 (hidden refused.0 c.args.pair seen
    (open_refusal refused.0 c.args.pair seen c.in_err-journaled.ensures.refused) other)

pub returns-clause-world : goal.returns-clause-world
returns-clause-world g c number machine wanted fits rests =
    starts _ number machine (c.in_ok-journaled.ensures.world number machine wanted fits rests)

pub returns-in_err-journaled-clause-world : goal.returns-in_err-journaled-clause-world
returns-in_err-journaled-clause-world g c number machine wanted fits rests =
    match_of_exit c.from_residual.result c.in_err-journaled.field-0.0 _ _ c.from_residual.ensures.1
    (c.in_err-journaled.ensures.world number machine wanted fits rests)
