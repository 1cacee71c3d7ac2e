use Rattle.std.proofs.Common.{None, Some, inl, inr, sym, subst, arith}
use Rattle.syn_journal.specs.Endings.{ReadsOrBreaks}
use Rattle.syn_journal.specs.Migrations.{Migrated, NotMigrated}
use Rattle.syn_journal.proofs.Migrations.{more_made, only_read}
use Rattle.syn_model.specs.Version.{One, Two}
use Rattle.syn_archive.specs.Disks.{DiskKeepsIn}
use Rattle.syn_archive.specs.Refusals.{of_journal, refusal_of}
use Rattle.syn_archive.specs.inner.Agreements.{GivesOld, IsUnreadOld}
use Rattle.syn_archive.proofs.MigrateLemmas.{any_moment, image_of, kept_stands, lawful_migrate}
use Rattle.syn_archive.proofs.MigrateLemmas.{migrate_refusal, migrated_each, migrated_image}
use Rattle.syn_archive.proofs.MigrateLemmas.{migrated_stands, old_disk, seen_after}
use Rattle.syn_archive.proofs.MigrateLemmas.{was_old, whole, young_refusal}
use Rattle.syn_archive.proofs.archive.Archive.migrate.Goals as goal

-- ---- it was opened

pub returns-in-Ok-clause-migrated : goal.returns-in-Ok-clause-migrated
returns-in-Ok-clause-migrated g c One number kept fits d =
    absurd (c.in-Ok.ensures.old (old_disk number (g.D.Disk.seen c.args.disk) kept d))
returns-in-Ok-clause-migrated g c Two number kept fits d = c.in-Ok.ensures.each number kept fits d

-- ---- it was migrated

pub returns-in-Ok-migrate-clause-stands : goal.returns-in-Ok-migrate-clause-stands
returns-in-Ok-migrate-clause-stands g c =
    let laws = c.archive_laws.ensures in
    migrated_stands laws.sound laws.image laws.image_fits _ _ c.in-Ok-migrate.ensures.migrated

pub returns-in-Ok-migrate-clause-migrated : goal.returns-in-Ok-migrate-clause-migrated
returns-in-Ok-migrate-clause-migrated g c =
    let laws = c.archive_laws.ensures in
    migrated_each laws.sound laws.image laws.image_fits _ (g.D.Disk.seen c.args.disk)
    (subst (λ bytes. Migrated (λ a. a.pair) GivesOld image_of bytes c.in-Ok-migrate.journaled)
    c.in-Err.ensures.device.untouched.same c.in-Ok-migrate.ensures.migrated)

pub returns-in-Ok-migrate-clause-image : goal.returns-in-Ok-migrate-clause-image
returns-in-Ok-migrate-clause-image g c =
    let laws = c.archive_laws.ensures in
    migrated_image laws.sound laws.image laws.image_fits _ (g.D.Disk.seen c.args.disk)
    (subst (λ bytes. Migrated (λ a. a.pair) GivesOld image_of bytes c.in-Ok-migrate.journaled)
    c.in-Err.ensures.device.untouched.same c.in-Ok-migrate.ensures.migrated)

pub returns-in-Ok-migrate-clause-any_moment : goal.returns-in-Ok-migrate-clause-any_moment
returns-in-Ok-migrate-clause-any_moment g c =
    let laws = c.archive_laws.ensures in
    let found = c.in-Err.ensures in
    any_moment laws.sound laws.image laws.image_fits None c.args.disk _
    (whole c.args.disk c.in-Err.refused.1 _ c.in-Err.refused.0 None c.in-OldVersion.is
    found.device c.in-Ok-migrate.ensures.device)

pub returns-in-Ok-migrate-clause-seen : goal.returns-in-Ok-migrate-clause-seen
returns-in-Ok-migrate-clause-seen g c =
    let laws = c.archive_laws.ensures in
    let found = c.in-Err.ensures in
    seen_after laws.sound laws.image laws.image_fits None c.args.disk _
    (whole c.args.disk c.in-Err.refused.1 _ c.in-Err.refused.0 None c.in-OldVersion.is
    found.device c.in-Ok-migrate.ensures.device)

pub returns-in-Ok-migrate-clause-writes : goal.returns-in-Ok-migrate-clause-writes
returns-in-Ok-migrate-clause-writes g c old =
    more_made 1 7 8 (g.D.Disk.arms c.args.disk) (g.D.Disk.arms c.in-Err.refused.1) _
    (subst (λ e. ReadsOrBreaks 1 (Some (refusal_of e)) (g.D.Disk.arms c.args.disk)
    (g.D.Disk.arms c.in-Err.refused.1)) c.in-OldVersion.is c.in-Err.ensures.device.arms)
    c.in-Ok-migrate.ensures.device.arms (omega arith)

pub returns-in-Ok-migrate-clause-calls : goal.returns-in-Ok-migrate-clause-calls
returns-in-Ok-migrate-clause-calls g c =
    let made = returns-in-Ok-migrate-clause-writes g c (was_old c.in-Err.refused.0
    (g.D.Disk.seen c.args.disk) c.in-OldVersion.is c.in-Err.ensures.refusals) in
    record { calls = made.calls; enough = omega (arith, made.enough); made = made.made }

-- ---- the migration was refused

pub returns-in-Err-migrate-clause-any_moment : goal.returns-in-Err-migrate-clause-any_moment
returns-in-Err-migrate-clause-any_moment g c =
    let laws = c.archive_laws.ensures in
    let found = c.in-Err.ensures in
    any_moment laws.sound laws.image laws.image_fits
    (Some (refusal_of c.in-Err-migrate.refused.0)) c.args.disk _
    (whole c.args.disk c.in-Err.refused.1 c.in-Err-migrate.refused.1 c.in-Err.refused.0
    (Some (refusal_of c.in-Err-migrate.refused.0)) c.in-OldVersion.is found.device
    c.in-Err-migrate.ensures.device)

pub returns-in-Err-migrate-clause-seen : goal.returns-in-Err-migrate-clause-seen
returns-in-Err-migrate-clause-seen g c =
    let laws = c.archive_laws.ensures in
    let found = c.in-Err.ensures in
    seen_after laws.sound laws.image laws.image_fits
    (Some (refusal_of c.in-Err-migrate.refused.0)) c.args.disk _
    (whole c.args.disk c.in-Err.refused.1 c.in-Err-migrate.refused.1 c.in-Err.refused.0
    (Some (refusal_of c.in-Err-migrate.refused.0)) c.in-OldVersion.is found.device
    c.in-Err-migrate.ensures.device)

pub returns-in-Err-migrate-clause-refusals : goal.returns-in-Err-migrate-clause-refusals
returns-in-Err-migrate-clause-refusals g c =
    let laws = c.archive_laws.ensures in
    let e = c.in-Err-migrate.refused.0 in
    migrate_refusal laws.sound laws.image laws.image_fits e (g.D.Disk.seen c.args.disk)
    (was_old c.in-Err.refused.0 (g.D.Disk.seen c.args.disk) c.in-OldVersion.is
    c.in-Err.ensures.refusals)
    (subst (λ bytes. NotMigrated (λ a. a.pair) GivesOld image_of of_journal IsUnreadOld e
    bytes) c.in-Err.ensures.device.untouched.same c.in-Err-migrate.ensures.refused)

pub returns-in-Err-migrate-clause-lawful : goal.returns-in-Err-migrate-clause-lawful
returns-in-Err-migrate-clause-lawful g c version number kept fits d =
    lawful_migrate c.in-Err-migrate.refused.0 version (g.D.Disk.seen c.args.disk) number kept fits d
    (returns-in-Err-migrate-clause-refusals g c)

pub returns-in-Err-migrate-clause-greatest : goal.returns-in-Err-migrate-clause-greatest
returns-in-Err-migrate-clause-greatest g c at =
    returns-in-Err-migrate-clause-lawful g c One at.pair at.archive at.fits (kept_stands at.keeps)

pub returns-in-Err-migrate-clause-calls : goal.returns-in-Err-migrate-clause-calls
returns-in-Err-migrate-clause-calls g c =
    let found = c.in-Err.ensures in
    (whole c.args.disk c.in-Err.refused.1 c.in-Err-migrate.refused.1 c.in-Err.refused.0
    (Some (refusal_of c.in-Err-migrate.refused.0)) c.in-OldVersion.is found.device
    c.in-Err-migrate.ensures.device).arms

-- ---- it was not opened, for another cause than its version

pub returns-in_default : goal.returns-in_default
returns-in_default g c =
    let found = c.in-Err.ensures in
    let e = c.in-Err.refused.0 in
    let seen = g.D.Disk.seen c.args.disk in
    let refusal = young_refusal e seen c.in_default.not-OldVersion found.refusals in
    record {
      given = tt;
      stands = tt;
      migrated = tt;
      image = tt;
      same = λ young. found.device.untouched;
      any_moment = λ number kept left generation fits keeps. only_read g.D.Disk.moment
          g.D.Disk.left_since g.D.Disk.seen g.D.Disk.may_leave c.args.disk c.in-Err.refused.1 _
          found.device.untouched;
      seen = λ number kept left generation fits keeps. inl
          (subst (DiskKeepsIn One number kept left generation)
          (sym found.device.untouched.same) keeps);
      refusals = refusal;
      lawful = λ version number kept fits d. lawful_migrate e version seen number kept fits d
          refusal;
      greatest = λ at. lawful_migrate e One seen at.pair at.archive at.fits (kept_stands at.keeps)
          refusal;
      untouched = inr found.device.untouched;
      failures = found.device.failures;
      calls = found.device.arms;
      writes = λ old. tt;
    }
