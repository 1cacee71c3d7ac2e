use Rattle.syn_journal.specs.Journaled.{state_of}
use Rattle.syn_journal.proofs.RecordLemmas.{records}
use Rattle.syn_journal.proofs.Results.{err_part, ok_part}
use Rattle.syn_journal.proofs.journaled.Journaled.write.Goals as goal

pub returns-clause-world : goal.returns-clause-world
returns-clause-world g c number machine added is adds =
    records (g.S.State.kept_as number) c.args.self.now c.append_to_journal.new.self
    g.S.State.spelling machine
    added c.args.payload.now (g.S.State.makes (state_of c.args.self.now) c.args.update) is adds
    (c.keeping_laws.ensures.written number) c.layout_laws.ensures.left g.met.D.Disk.counts_now _
    c.append_to_journal.ensures.journal (ok_part g.S.State.why c.append_to_journal.result _ _
    c.append_to_journal.ensures.state)
    (err_part g.S.State.why c.append_to_journal.result _ _ c.append_to_journal.ensures.state)
