use Rattle.std.proofs.Common.{true≢false, sym, ◌∙◌}
use Rattle.syn_replica.specs.Readings.{bytes_of_each}
use Rattle.syn_replica.proofs.RememberedLemmas.{unread}
use Rattle.syn_replica.proofs.remembered.RememberedState.read.Goals as goal

pub returns-clause-unread : goal.returns-clause-unread
returns-clause-unread c =
    let told = c.read_replica.ensures in
    unread c.read_replica.result c.args.wanted c.args.image.now
    (bytes_of_each c.args.payloads.now)
    (λ old. true≢false (sym (c.is_old_replica.ensures.1 old) ∙ c.if-is_old_replica.false))
    told.refusals told.damaged told.other
