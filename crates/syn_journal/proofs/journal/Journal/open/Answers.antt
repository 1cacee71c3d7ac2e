use Rattle.std.proofs.Common.{refl}
use Rattle.syn_journal.proofs.Meanings.{has, sizes}
use Rattle.syn_journal.proofs.Openings.{read_in_step, read_whole}
use Rattle.syn_journal.proofs.journal.Journal.open.Goals as goal

pub invariant_of-result : goal.invariant_of-result
invariant_of-result g c =
    let read = c.in-Ok.ensures in
    record {
      in_step =
          λ _. read_in_step _ _ c.in-Ok.cursor c.in-Ok.contents
          c.read_contents.ensures.untouched.same read.whole _ read.other read.durable;
    }

pub returns-in-Ok-clause-opened : goal.returns-in-Ok-clause-opened
returns-in-Ok-clause-opened g c =
    let cursor = c.in-Ok.cursor in
    let seen = g.D.Disk.seen c.read_contents.new.disk in
    let whole = read_whole _ _ cursor c.in-Ok.contents c.read_contents.ensures.untouched.same
    c.in-Ok.ensures.whole in
    record {
      running = refl;
      holds = has seen cursor.half cursor.generation cursor.gate _ whole;
      durable = c.in-Ok.ensures.durable;
      gate = sizes seen cursor.half cursor.generation cursor.gate _ whole;
    }
