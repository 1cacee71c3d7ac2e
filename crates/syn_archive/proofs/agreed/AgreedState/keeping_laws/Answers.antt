use Rattle.syn_archive.proofs.KeepingLemmas.{is_lawful, is_read_as}
use Rattle.syn_archive.proofs.agreed.AgreedState.keeping_laws.Goals as goal

pub returns-clause-written : goal.returns-clause-written
returns-clause-written c number =
    let laws = c.archive_laws.ensures in is_lawful laws.sound laws.image laws.record number

pub returns-clause-read : goal.returns-clause-read
returns-clause-read c number = is_read_as c.opening_laws.ensures.one number
