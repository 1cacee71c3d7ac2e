use Rattle.syn_replica.proofs.KeepingLemmas.{is_lawful, is_read_as}
use Rattle.syn_replica.proofs.remembered.RememberedState.keeping_laws.Goals as goal

pub returns-clause-written : goal.returns-clause-written
returns-clause-written c number =
    let laws = c.history_laws.ensures in is_lawful laws.image laws.payload number

pub returns-clause-read : goal.returns-clause-read
returns-clause-read c number = is_read_as c.opening_laws.ensures.one number
