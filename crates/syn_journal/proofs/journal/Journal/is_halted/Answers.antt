use Rattle.syn_journal.proofs.Meanings.{has, sizes}
use Rattle.syn_journal.proofs.journal.Journal.is_halted.Goals as goal

pub returns-clause-stands : goal.returns-clause-stands
returns-clause-stands g c running =
    let journal = c.args.self.now in
    let step = journal.in_step running in
    record {
      running = running;
      holds = has _ journal.cursor.half journal.cursor.generation journal.cursor.gate _ step.whole;
      durable = step.durable;
      gate = sizes _ journal.cursor.half journal.cursor.generation journal.cursor.gate _ step.whole;
    }
