use Rattle.std.proofs.Common.{◌<◌, ◌∙◌, ap, arith, inl, inr, refl, subst, sym}
use Rattle.std.specs.Prelude.{◌^◌}
use Rattle.syn_archive.specs.Archive.{disk_of, shown}
use Rattle.syn_archive.specs.Disks.{DiskStands}
use Rattle.syn_archive.specs.Refusals.{refusal_of}
use Rattle.syn_journal.proofs.Spent.{counted, none_counted}
use Rattle.syn_world.proofs.StartLemmas.{archive_stands_for, coordinator_starts}
use Rattle.syn_world.proofs.coordinator.open.start_coordinator.Goals as goal

pub returns-in-Ok-clause-starts : goal.returns-in-Ok-clause-starts
returns-in-Ok-clause-starts g c kept can =
    let fits : c.args.pair < 2 ^ 64 = omega arith in
    coordinator_starts g.D.Disk c.args.pair c.args.disk kept fits can c.in-Ok.archive c.new.result
    c.in-Ok.ensures.device.untouched c.in-Ok.ensures.each c.keeps_on_disk.ensures
    g.met.D.Disk.seen_may_stay c.opening_laws.ensures c.in-Ok.ensures.device.arms
    c.new.ensures.stands

pub returns-in-Ok-clause-holds : goal.returns-in-Ok-clause-holds
returns-in-Ok-clause-holds g c = record {
  archive = shown c.in-Ok.archive;
  stands = subst (λ p. DiskStands p (g.D.Disk.seen c.args.disk) (shown c.in-Ok.archive))
      (sym (c.in-Ok.ensures.wanted c.args.pair refl)) c.in-Ok.ensures.given;
}

pub returns-in-Ok-clause-failures : goal.returns-in-Ok-clause-failures
returns-in-Ok-clause-failures g c =
    ap (λ archive. g.D.Disk.failures (disk_of archive)) c.new.ensures.archive
    ∙ c.in-Ok.ensures.device.failures

pub returns-in-Err-clause-cause : goal.returns-in-Err-clause-cause
returns-in-Err-clause-cause g c = record {
  error = c.in-Err.error;
  is = c.refusal.ensures;
  cause = c.in-Err.ensures.refusals;
}

pub returns-in-Err-clause-failures : goal.returns-in-Err-clause-failures
returns-in-Err-clause-failures g c = record {
  grew = λ device. counted (refusal_of c.in-Err.error) _ _ (sym c.refusal.ensures ∙ device)
      c.in-Err.ensures.device.failures;
  same = λ other. none_counted (refusal_of c.in-Err.error) _ _
      (λ device. other (c.refusal.ensures ∙ device)) c.in-Err.ensures.device.failures;
}

pub returns-in-Err-clause-refused : goal.returns-in-Err-clause-refused
returns-in-Err-clause-refused g c kept can =
    let fits : c.args.pair < 2 ^ 64 = omega arith in
    elim (c.in-Err.ensures.lawful c.args.pair kept fits
    (archive_stands_for g.D.Disk c.args.pair c.args.disk kept fits can) (inr refl)) [
      | inl device ↦ inl (c.refusal.ensures ∙ ap refusal_of device)
      | inr memory ↦ inr (c.refusal.ensures ∙ ap refusal_of memory)
    ]
