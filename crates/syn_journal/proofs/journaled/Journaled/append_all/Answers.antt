use Rattle.std.proofs.Common.{Err, Some, ap, sym, subst}
use Rattle.syn_disk.specs.Calls.{Makes}
use Rattle.syn_journal.specs.Journal.{disk_of}
use Rattle.syn_journal.specs.Refusals.{MakesIfDevice}
use Rattle.syn_journal.specs.Appending.{AppendsAll}
use Rattle.syn_journal.specs.Openings.{bytes_of_each}
use Rattle.syn_journal.proofs.AppendLemmas.{all_appended, err_is, none_appended}
use Rattle.syn_journal.proofs.AppendLemmas.{not_err, same_calls}
use Rattle.syn_journal.proofs.journaled.Journaled.append_all.Goals as goal

pub returns-in-Ok-clause-disk : goal.returns-in-Ok-clause-disk
returns-in-Ok-clause-disk g c =
    let told = c.in-Ok.ensures in
    let old = g.D.Disk.arms (disk_of c.args.journal) in
    let new = g.D.Disk.arms (disk_of c.append_all.new.self) in
    all_appended c.args.journal c.append_all.new.self (bytes_of_each c.args.payloads.now)
    told.any_moment (λ h. not_err _ _ (told.halted.1 h))
    (λ long. not_err _ _ (told.full.1 ((λ h. not_err _ _ (told.halted.1 h)), long)))
    told.failures (subst (λ n. Makes n old new) (same_calls c.args.payloads.now) told.calls)

pub returns-in-Err-clause-disk : goal.returns-in-Err-clause-disk
returns-in-Err-clause-disk g c =
    let told = c.in-Err.ensures in
    let e = c.in-Err.error in
    let old = g.D.Disk.arms (disk_of c.args.journal) in
    let new = g.D.Disk.arms (disk_of c.append_all.new.self) in
    let payloads = bytes_of_each c.args.payloads.now in
    subst (λ d. AppendsAll c.args.journal d payloads (Some (g.S.State.why c.refused.result)))
    (sym c.into_disk.ensures)
    (subst (λ w. AppendsAll c.args.journal (disk_of c.append_all.new.self) payloads (Some w))
    (sym c.refused.ensures.why)
    (none_appended c.args.journal c.append_all.new.self payloads told.any_moment e
    (λ is. told.halted.0 (ap (λ x. Err x) is), λ h. err_is _ _ (told.halted.1 h))
    (λ is. told.full.0 (ap (λ x. Err x) is), λ h. err_is _ _ (told.full.1 h))
    told.refusals told.unchanged told.failures
    (subst (λ n. MakesIfDevice e n old new) (same_calls c.args.payloads.now) told.calls)))
