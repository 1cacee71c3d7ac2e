use Rattle.std.proofs.lemmas.Result.{IfOk-weaker}
use Rattle.syn_replica.specs.Readings.{bytes_of_each}
use Rattle.syn_replica.proofs.RememberedLemmas.{unread_old}
use Rattle.syn_replica.proofs.remembered.RememberedState.read_old.Goals as goal

pub returns-clause-one : goal.returns-clause-one
returns-clause-one c =
    IfOk-weaker c.read_replica.result _ _ (λ read one other fits given. one other fits given.0)
    c.read_replica.ensures.one

pub returns-clause-unread : goal.returns-clause-unread
returns-clause-unread c =
    let told = c.read_replica.ensures in
    unread_old c.read_replica.result c.args.image.now (bytes_of_each c.args.payloads.now)
    told.refusals told.damaged told.other
