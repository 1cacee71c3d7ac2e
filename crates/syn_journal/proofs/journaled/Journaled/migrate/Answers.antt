use Rattle.std.proofs.Common.{Some, inr, sym, ap, subst}
use Rattle.syn_journal.specs.Migrations.{Migrates}
use Rattle.syn_journal.proofs.Migrations.{migrates, not_written}
use Rattle.syn_journal.proofs.journaled.Journaled.migrate.Goals as goal

pub returns-in-Ok-clause-device : goal.returns-in-Ok-clause-device
returns-in-Ok-clause-device g c =
    let found = c.in_ok-machine.ensures in
    migrates g.S.State.pair g.S.State.gives_old g.S.State.spelling c.args.disk
    c.in_ok-machine.machine found.opened found.device _ _ c.in-Ok.ensures.journal
    g.met.D.Disk.seen_may_stay g.met.D.Disk.counts_now

pub returns-in-Err-clause-device : goal.returns-in-Err-clause-device
returns-in-Err-clause-device g c =
    let found = c.in_ok-machine.ensures in
    subst (Migrates g.D.Disk g.S.State.pair g.S.State.gives_old g.S.State.spelling
    (Some (g.S.State.why c.in-Err.error)) c.args.disk) (sym c.into_disk.ensures)
    (migrates g.S.State.pair g.S.State.gives_old g.S.State.spelling c.args.disk
    c.in_ok-machine.machine found.opened found.device _ _ c.in-Err.ensures.journal
    g.met.D.Disk.seen_may_stay g.met.D.Disk.counts_now)

pub returns-in-Err-clause-refused : goal.returns-in-Err-clause-refused
returns-in-Err-clause-refused g c =
    let answer = c.in-Err.ensures.answer in
    inr (
      answer.0,
      answer.1,
      not_written g.S.State.pair g.S.State.gives_old g.S.State.spelling c.args.disk
          c.in_ok-machine.machine c.in_ok-machine.ensures.opened c.in_ok-machine.ensures.device _ _
          c.in-Err.ensures.journal answer.0 (ap (λ r. Some r) answer.2),
    )
