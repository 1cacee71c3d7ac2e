use Rattle.std.proofs.Common.{inl, inr, subst, sym}
use Rattle.syn_journal.proofs.Moments.{and_then}
use Rattle.syn_model.specs.Version.{One}
use Rattle.syn_replica.specs.Disks as replica
use Rattle.syn_replica.specs.Migrating.{KeepsOrMigrates}
use Rattle.syn_command.proofs.MigrateLemmas.{keeps_stands, no_old_archive, not_lawful, only_read}
use Rattle.syn_command.proofs.MigrateLemmas.{stays, then_leaves}
use Rattle.syn_command.proofs.image.migrate_image.Goals as goal

-- ---- a replica, which was read as an archive's disk before

pub returns-in-Ok-migrate-clause-replica : goal.returns-in-Ok-migrate-clause-replica
returns-in-Ok-migrate-clause-replica g c version number history fits stands =
    let read = only_read _ c.in-Err-Damaged-default.field-0-0-is
    c.in-Err-Damaged-default.ensures.untouched in
    c.in-Ok-migrate.ensures.migrated version number history fits
    (subst (λ bytes. replica.DiskStandsIn version number bytes history) (sym read.same) stands)

pub returns-in-Ok-migrate-clause-replica_moments :
    goal.returns-in-Ok-migrate-clause-replica_moments
returns-in-Ok-migrate-clause-replica_moments g c number history left generation fits keeps =
    let read = only_read _ c.in-Err-Damaged-default.field-0-0-is
    c.in-Err-Damaged-default.ensures.untouched in
    then_leaves g.D.Disk (KeepsOrMigrates number history left generation) _ _ _ read
    (c.in-Ok-migrate.ensures.any_moment number history left generation fits
    (subst (replica.DiskKeepsIn One number history left generation) (sym read.same) keeps))

pub returns-in-Err-migrate-clause-archive_moments :
    goal.returns-in-Err-migrate-clause-archive_moments
returns-in-Err-migrate-clause-archive_moments g c number kept left generation fits keeps =
    not_lawful _ c.in-Err-Damaged-default.field-0-0-is
    (c.in-Err-Damaged-default.ensures.lawful One number kept fits
    (keeps_stands One number kept left generation _ keeps))

pub returns-in-Err-migrate-clause-replica_moments :
    goal.returns-in-Err-migrate-clause-replica_moments
returns-in-Err-migrate-clause-replica_moments g c number history left generation fits keeps =
    let read = only_read _ c.in-Err-Damaged-default.field-0-0-is
    c.in-Err-Damaged-default.ensures.untouched in
    then_leaves g.D.Disk (KeepsOrMigrates number history left generation) _ _ _ read
    (c.in-Err-migrate.ensures.any_moment number history left generation fits
    (subst (replica.DiskKeepsIn One number history left generation) (sym read.same) keeps))

pub returns-in-Err-migrate-clause-untouched : goal.returns-in-Err-migrate-clause-untouched
returns-in-Err-migrate-clause-untouched g c =
    let read = only_read _ c.in-Err-Damaged-default.field-0-0-is
    c.in-Err-Damaged-default.ensures.untouched in
    elim c.in-Err-migrate.ensures.untouched
    [ inl device ↦ inl device | inr same ↦ inr (and_then _ _ _ read same) ]

pub returns-in-Ok-migrate-clause-same : goal.returns-in-Ok-migrate-clause-same
returns-in-Ok-migrate-clause-same g c not_old =
    let read = only_read _ c.in-Err-Damaged-default.field-0-0-is
    c.in-Err-Damaged-default.ensures.untouched in
    and_then _ _ _ read (c.in-Ok-migrate.ensures.same
    (λ old. not_old (inr (subst replica.IsOldDisk read.same old))))

pub returns-in-Err-migrate-clause-same : goal.returns-in-Err-migrate-clause-same
returns-in-Err-migrate-clause-same g c not_old =
    let read = only_read _ c.in-Err-Damaged-default.field-0-0-is
    c.in-Err-Damaged-default.ensures.untouched in
    and_then _ _ _ read (c.in-Err-migrate.ensures.same
    (λ old. not_old (inr (subst replica.IsOldDisk read.same old))))

-- ---- an archive's disk that is refused

pub returns-in-Err-clause-replica_moments : goal.returns-in-Err-clause-replica_moments
returns-in-Err-clause-replica_moments g c number history left generation fits keeps =
    stays g.D.Disk (KeepsOrMigrates number history left generation) _ _ (c.in-Err.ensures.same
    (no_old_archive One number history left generation _ keeps))

pub returns-in-Err-clause-same : goal.returns-in-Err-clause-same
returns-in-Err-clause-same g c not_old = c.in-Err.ensures.same (λ old. not_old (inl old))
