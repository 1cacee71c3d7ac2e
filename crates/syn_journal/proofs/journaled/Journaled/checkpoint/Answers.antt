use Rattle.syn_journal.proofs.ImageLemmas.{images}
use Rattle.syn_journal.proofs.journaled.Journaled.checkpoint.Goals as goal

pub returns-clause-world : goal.returns-clause-world
returns-clause-world g c number machine is =
    images (g.S.State.kept_as number) c.args.self.now c.checkpoint_journal.new.self
    g.S.State.spelling machine
    is (c.keeping_laws.ensures.written number) g.met.D.Disk.counts_now _
    c.checkpoint_journal.ensures.journal
    c.checkpoint_journal.ensures.state
