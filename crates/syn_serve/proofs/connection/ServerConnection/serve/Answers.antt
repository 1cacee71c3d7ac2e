use Rattle.std.proofs.lemmas.Result.{err_from_is_err_and}
use Rattle.syn_shared.proofs.HoldLemmas.{later_same, later_twice}
use Rattle.syn_serve.proofs.connection.ServerConnection.serve.Goals as goal
use Rattle.syn_serve.specs.Runs.{none, one_more}

pub loop-init : goal.loop-init
loop-init g c = record { is_for = c.requires; later = later_same _ _; answered = none }

pub loop-preserved : goal.loop-preserved
loop-preserved g c =
    let told = c.in_ok-serve_next.ensures in
    let exchanged = rw c.in_default.is at told.exchanges in record {
      is_for = told.of;
      later = later_twice _ _ _ _ c.loop.invariant.later told.later;
      answered = one_more _ _ c.loop.invariant.answered exchanged;
    }

pub returns-in-Ended-clause-later : goal.returns-in-Ended-clause-later
returns-in-Ended-clause-later g c =
    later_twice _ _ _ _ c.loop.invariant.later c.in_ok-serve_next.ensures.later

pub returns-in_err-serve_next-clause-serves : goal.returns-in_err-serve_next-clause-serves
returns-in_err-serve_next-clause-serves g c =
    let p = err_from_is_err_and c.from_residual.result c.from_residual.ensures.1 in
    rw (p.1, p.2) (record {
      last = _;
      answered = c.loop.invariant.answered;
      ends = c.in_err-serve_next.ensures.exchanges;
    })

pub returns-in_err-serve_next-clause-later : goal.returns-in_err-serve_next-clause-later
returns-in_err-serve_next-clause-later g c =
    later_twice _ _ _ _ c.loop.invariant.later c.in_err-serve_next.ensures.later
