use Rattle.std.proofs.Common.{◌∙◌, ap, arith, length}
use Rattle.syn_session.proofs.WaitingLemmas.{resent_all, written_back}
use Rattle.syn_session.proofs.requests.count_resends.Goals as goal

pub returns : goal.returns
returns c =
    let same = ap length c.deref_mut-one-items.ensures.value in
    let whole = c.deref_mut-one-items.ensures.len in
    written_back c.args.waiting.now.len c.loop-one.one-items c.args.waiting.now.items
    c.loop-one.invariant.long (omega (arith, same, whole))
    ∙ resent_all c.args.waiting.now.items c.loop-one.one-items c.loop-one.invariant.long
    (λ k d less. c.loop-one.invariant.passed k d
    (let test = c.loop-one-test.false in omega (arith, less, test, same)))
