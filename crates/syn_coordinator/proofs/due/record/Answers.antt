use Rattle.std.proofs.Common.{◌≡◌, rules, subst, sym}
use Rattle.syn_archive.specs.Keepings.{recorded_at}
use Rattle.syn_image.specs.Archives.{kept_for}
use Rattle.syn_model.specs.Archive.{IsLawfulKept, RecordedDir}
use Rattle.syn_coordinator.specs.inner.Recording.{Leaves, Records}
use Rattle.syn_coordinator.proofs.RecordLemmas.{leaves, records}
use Rattle.syn_coordinator.proofs.due.record.Goals as goal

pub returns-in-Record-clause-records : goal.returns-in-Record-clause-records
returns-in-Record-clause-records g c pair machine is =
    let old = c.args.archive.now in
    let what = recorded_at c.in-Record.path c.as_ref.result in
    let same : what ≡ kept_for c.args.item_record.now = search rules in
    subst (λ k. Records c.record.new.self pair machine k c.outcome_of.result) same
    (records old c.record.new.self what pair machine is
    (subst (λ k. IsLawfulKept k) (sym same) c.is_lawful.ensures) c.record.result
    c.record.ensures.refused c.record.ensures.cause c.record.ensures.refusals
    c.record.ensures.machine.halted (c.record.ensures.world pair machine is)
    c.outcome_of.result c.outcome_of.ensures)

pub returns-in-Dir-clause-records : goal.returns-in-Dir-clause-records
returns-in-Dir-clause-records g c pair machine is =
    let old = c.args.archive.now in
    let what = RecordedDir c.in-Dir.path in
    let same : what ≡ kept_for c.args.item_record.now = search rules in
    subst (λ k. Records c.record_dir.new.self pair machine k c.outcome_of-in-Dir.result) same
    (records old c.record_dir.new.self what pair machine is
    (subst (λ k. IsLawfulKept k) (sym same) c.is_lawful.ensures) c.record_dir.result
    c.record_dir.ensures.refused c.record_dir.ensures.cause c.record_dir.ensures.refusals
    c.record_dir.ensures.machine.halted (c.record_dir.ensures.world pair machine is)
    c.outcome_of-in-Dir.result c.outcome_of-in-Dir.ensures)

pub returns-in-Dir-clause-leaves : goal.returns-in-Dir-clause-leaves
returns-in-Dir-clause-leaves g c =
    let old = c.args.archive.now in
    let what = RecordedDir c.in-Dir.path in
    let same : what ≡ kept_for c.args.item_record.now = search rules in
    subst (λ k. Leaves old c.record_dir.new.self k c.outcome_of-in-Dir.result) same
    (leaves old c.record_dir.new.self what c.record_dir.result c.record_dir.ensures.cause
    c.record_dir.ensures.machine.unchanged c.record_dir.ensures.machine.readings
    c.outcome_of-in-Dir.result c.outcome_of-in-Dir.ensures)
