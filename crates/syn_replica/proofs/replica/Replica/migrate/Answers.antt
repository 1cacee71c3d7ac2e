use Rattle.std.proofs.Common.{None, Some, inl, inr, sym, subst, arith}
use Rattle.syn_journal.proofs.Migrations.{more_made, only_read}
use Rattle.syn_journal.specs.Journaled.{disk_of}
use Rattle.syn_journal.specs.Migrations.{Migrated, Migrates, NotMigrated}
use Rattle.syn_model.specs.Version.{One, Two}
use Rattle.syn_replica.specs.ErrorRefusals.{refusal_of}
use Rattle.syn_replica.specs.declared.error.ReplicaError.TheVariants.{Journal}
use Rattle.syn_replica.specs.Disks.{DiskKeepsIn}
use Rattle.syn_journal.specs.Endings.{ReadsOrBreaks}
use Rattle.syn_replica.specs.Replica.{pair_of, standing_shown}
use Rattle.syn_replica.specs.inner.Memories.{GivesOld, IsUnreadOld, image_of}
use Rattle.syn_replica.proofs.MigrateCauses.{migrates_greatest, migrates_lawful}
use Rattle.syn_replica.proofs.MigrateLemmas.{any_moment, migrate_refusal, migrated_each}
use Rattle.syn_replica.proofs.MigrateLemmas.{migrated_gives, not_both, old_disk, seen_after}
use Rattle.syn_replica.proofs.MigrateLemmas.{was_old, whole, young_refusal}
use Rattle.syn_replica.proofs.replica.Replica.migrate.Given.{Over}
use Rattle.syn_replica.proofs.replica.Replica.migrate.Goals as goal
use Rattle.syn_replica.proofs.replica.Replica.migrate.Goals.{In-Err-migrate, In-Ok-migrate}

-- ---- it was opened

pub returns-in-Ok-clause-migrated : goal.returns-in-Ok-clause-migrated
returns-in-Ok-clause-migrated g c One number history small there =
    let replica = c.in-Ok.replica in
    let bytes = g.D.Disk.seen c.args.disk in
    absurd (not_both (pair_of replica) bytes (standing_shown replica) c.in-Ok.ensures.given
    (old_disk number bytes history there))
returns-in-Ok-clause-migrated g c Two number history small there =
    c.in-Ok.ensures.each number history small there

-- ---- it was migrated

pub returns-in-Ok-migrate-clause-gives : goal.returns-in-Ok-migrate-clause-gives
returns-in-Ok-migrate-clause-gives g c =
    let laws = c.history_laws.ensures in
    migrated_gives laws.image laws.standing_fits
    (record { journaled = c.in-Ok-migrate.journaled; tried = None; digests = c.new.result }) _
    c.in-Ok-migrate.ensures.migrated

pub returns-in-Ok-migrate-clause-migrated : goal.returns-in-Ok-migrate-clause-migrated
returns-in-Ok-migrate-clause-migrated g c =
    let laws = c.history_laws.ensures in
    migrated_each laws.image laws.standing_fits _ (g.D.Disk.seen c.args.disk)
    (subst (λ bytes. Migrated (λ m. m.pair) GivesOld image_of bytes c.in-Ok-migrate.journaled)
    c.in-Err.ensures.device.untouched.same c.in-Ok-migrate.ensures.migrated)

made : (g : Over) (c : In-Ok-migrate g) → Migrates g.D.Disk (λ m. m.pair) GivesOld image_of None
    c.args.disk (disk_of c.in-Ok-migrate.journaled)
made g c =
    whole c.args.disk c.in-Err.refused.1 _ c.in-Err.refused.0 None c.in-OldVersion.is
    c.in-Err.ensures.device c.in-Ok-migrate.ensures.device

pub returns-in-Ok-migrate-clause-any_moment : goal.returns-in-Ok-migrate-clause-any_moment
returns-in-Ok-migrate-clause-any_moment g c =
    let laws = c.history_laws.ensures in
    any_moment laws.image laws.standing_fits None c.args.disk _
    (made g (goal.at.returns-in-Ok-migrate-clause-any_moment g c).In-Ok-migrate)

pub returns-in-Ok-migrate-clause-seen : goal.returns-in-Ok-migrate-clause-seen
returns-in-Ok-migrate-clause-seen g c =
    let laws = c.history_laws.ensures in
    seen_after laws.image laws.standing_fits None c.args.disk _
    (made g (goal.at.returns-in-Ok-migrate-clause-seen g c).In-Ok-migrate)

pub returns-in-Ok-migrate-clause-writes : goal.returns-in-Ok-migrate-clause-writes
returns-in-Ok-migrate-clause-writes g c old =
    more_made 1 7 8 (g.D.Disk.arms c.args.disk) (g.D.Disk.arms c.in-Err.refused.1) _
    (subst (λ e. ReadsOrBreaks 1 (Some (refusal_of e)) (g.D.Disk.arms c.args.disk)
    (g.D.Disk.arms c.in-Err.refused.1)) c.in-OldVersion.is c.in-Err.ensures.device.arms)
    c.in-Ok-migrate.ensures.device.arms (omega arith)

pub returns-in-Ok-migrate-clause-calls : goal.returns-in-Ok-migrate-clause-calls
returns-in-Ok-migrate-clause-calls g c =
    let made = returns-in-Ok-migrate-clause-writes g c (was_old c.in-Err.refused.0
    (g.D.Disk.seen c.args.disk) c.in-OldVersion.is c.in-Err.ensures.refusals) in
    record { calls = made.calls; enough = omega (arith, made.enough); made = made.made }

-- ---- the migration was refused

refused : (g : Over) (c : In-Err-migrate g) → Migrates g.D.Disk (λ m. m.pair) GivesOld image_of
    (Some (refusal_of c.in-Err-migrate.refused.0)) c.args.disk c.in-Err-migrate.refused.1
refused g c =
    whole c.args.disk c.in-Err.refused.1 c.in-Err-migrate.refused.1 c.in-Err.refused.0
    (Some (refusal_of c.in-Err-migrate.refused.0)) c.in-OldVersion.is c.in-Err.ensures.device
    c.in-Err-migrate.ensures.device

pub returns-in-Err-migrate-clause-any_moment : goal.returns-in-Err-migrate-clause-any_moment
returns-in-Err-migrate-clause-any_moment g c =
    let laws = c.history_laws.ensures in
    any_moment laws.image laws.standing_fits (Some (refusal_of c.in-Err-migrate.refused.0))
    c.args.disk _ (refused g (goal.at.returns-in-Err-migrate-clause-any_moment g c).In-Err-migrate)

pub returns-in-Err-migrate-clause-seen : goal.returns-in-Err-migrate-clause-seen
returns-in-Err-migrate-clause-seen g c =
    let laws = c.history_laws.ensures in
    seen_after laws.image laws.standing_fits (Some (refusal_of c.in-Err-migrate.refused.0))
    c.args.disk _ (refused g (goal.at.returns-in-Err-migrate-clause-seen g c).In-Err-migrate)

pub returns-in-Err-migrate-clause-refusals : goal.returns-in-Err-migrate-clause-refusals
returns-in-Err-migrate-clause-refusals g c =
    let laws = c.history_laws.ensures in
    let e = c.in-Err-migrate.refused.0 in
    migrate_refusal laws.image laws.standing_fits e (g.D.Disk.seen c.args.disk)
    (was_old c.in-Err.refused.0 (g.D.Disk.seen c.args.disk) c.in-OldVersion.is
    c.in-Err.ensures.refusals)
    (subst (λ bytes. NotMigrated (λ m. m.pair) GivesOld image_of (λ by. Journal by) IsUnreadOld e
    bytes) c.in-Err.ensures.device.untouched.same c.in-Err-migrate.ensures.refused)

pub returns-in-Err-migrate-clause-lawful : goal.returns-in-Err-migrate-clause-lawful
returns-in-Err-migrate-clause-lawful g c version number history small there =
    migrates_lawful version number (g.D.Disk.seen c.args.disk) history small there
    c.in-Err-migrate.refused.0 (returns-in-Err-migrate-clause-refusals g c)

pub returns-in-Err-migrate-clause-calls : goal.returns-in-Err-migrate-clause-calls
returns-in-Err-migrate-clause-calls g c =
    (refused g (goal.at.returns-in-Err-migrate-clause-calls g c).In-Err-migrate).arms

-- ---- it was not opened, for another cause than its version

pub returns-in_default : goal.returns-in_default
returns-in_default g c =
    let found = c.in-Err.ensures in
    let e = c.in-Err.refused.0 in
    let seen = g.D.Disk.seen c.args.disk in
    let cause = young_refusal e seen c.in_default.not-OldVersion found.refusals in
    record {
      given = tt;
      migrated = tt;
      tried = tt;
      gives = tt;
      image = λ value generation has old. tt;
      same = λ young. found.device.untouched;
      any_moment = λ number history left generation small keeps. only_read g.D.Disk.moment
          g.D.Disk.left_since g.D.Disk.seen g.D.Disk.may_leave c.args.disk c.in-Err.refused.1 _
          found.device.untouched;
      seen = λ number history left generation small keeps. inl
          (subst (DiskKeepsIn One number history left generation)
          (sym found.device.untouched.same) keeps);
      refusals = cause;
      greatest = λ full. migrates_greatest e seen full cause;
      lawful = λ version number history small there. migrates_lawful version number seen history
          small there e cause;
      untouched = inr found.device.untouched;
      failures = found.device.failures;
      calls = found.device.arms;
      writes = λ old. tt;
    }
