use Rattle.syn_journal.proofs.ReadLemmas.{reads_disk}
use Rattle.syn_journal.proofs.journaled.Journaled.reopen.Goals as goal

pub returns-clause-world : goal.returns-clause-world
returns-clause-world g c number machine is =
    let told = c.reopen_journal.ensures in
    reads_disk number (g.S.State.kept_as number) g.S.State.pair g.S.State.gives g.S.State.follows
    g.S.State.unread g.S.State.unread_again g.S.State.of_journal g.S.State.why
    (c.keeping_laws.ensures.read number)
    c.args.self.now c.reopen_journal.new.self machine is g.met.D.Disk.seen_may_stay
    c.reopen_journal.result told.opened told.follows told.refused told.state told.halts told.halted
    told.room told.unchanged told.device
