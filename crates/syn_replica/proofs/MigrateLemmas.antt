-- What a migration of a machine says of a replica.
use Rattle.std.proofs.Common.{◌≡◌, ◌⊎◌, ◌+◌, ◌<◌, ◌≤◌, ◌^◌, ℕ, List, [], length, refl, sym, ap}
use Rattle.std.proofs.Common.{subst, inl, inr, ⊎_elim, Option, Some, None, Ok, arith}
use Rattle.std.proofs.lemmas.Option.{none-some}
use Rattle.syn_disk.specs.Stops.{LeavesOnly}
use Rattle.syn_disk.specs.declared.disk.Disk.{Ghosts}
use Rattle.syn_journal.specs.Layout.{IsBeforeOrAfter, Value, image_alone, longest_image, meaning}
use Rattle.syn_journal.specs.Refusals as journal
use Rattle.syn_journal.specs.declared.error.JournalError.{JournalError}
use Rattle.syn_journal.specs.declared.error.JournalError.TheVariants as refused
use Rattle.syn_journal.specs.Migrations.{Holds, IsUnwritten, Migrated, Migrates, NotMigrated}
use Rattle.syn_journal.specs.Migrations.{NotWritten}
use Rattle.syn_journal.proofs.Migrations.{after_reads}
use Rattle.syn_model.proofs.SoundStandings.{history-is_standing}
use Rattle.syn_model.specs.History.{History, standing_of}
use Rattle.syn_model.specs.Image.{StandsForIn, image_spelling}
use Rattle.syn_model.specs.Laws.{ImageStands, ImagesFit}
use Rattle.syn_model.specs.Refusal.{Refusal}
use Rattle.syn_model.specs.Standing.{Standing}
use Rattle.syn_model.specs.Version.{One, Two, Version, current_version}
use Rattle.syn_replica.specs.declared.error.ReplicaError.{ReplicaError}
use Rattle.syn_replica.specs.declared.error.ReplicaError.TheVariants.{Tree, History as OfHistory}
use Rattle.syn_replica.specs.declared.error.ReplicaError.TheVariants.{Journal, Memory, Touched}
use Rattle.syn_replica.specs.declared.error.ReplicaError.TheVariants.{OldSession, Damaged}
use Rattle.syn_replica.specs.declared.error.ReplicaError.TheVariants.{WrongPair, OldVersion}
use Rattle.syn_replica.specs.Disks.{DiskGives, DiskKeepsIn, DiskStandsIn, IsOldDisk, IsOpenRefusal}
use Rattle.syn_replica.specs.Migrating.{IsAtGreatest, IsMigrateRefusal, KeepsOrMigrates}
use Rattle.syn_journal.specs.Endings.{Reads}
use Rattle.syn_replica.specs.ErrorRefusals.{refusal_of}
use Rattle.syn_replica.specs.Replica.{Stands, disk_of, pair_of, standing_shown}
use Rattle.syn_replica.specs.declared.remembered.Remembered.{Remembered}
use Rattle.syn_replica.specs.declared.replica.Replica.{Replica}
use Rattle.syn_replica.specs.inner.Memories.{GivesOld, IsUnreadOld, image_of}
use Rattle.syn_replica.proofs.MeaningLemmas.{old_value}
use Rattle.syn_disk.proofs.LeftLemmas.{leaves_weaker}
use Rattle.syn_replica.proofs.VersionLemmas.{not_old, old_of}

-- ---- versions

-- a disk that stands for a history in version 1 has an image of it
pub old_disk : (pair : ℕ) (bytes : List ℕ) (history : History) →
    DiskStandsIn One pair bytes history → IsOldDisk bytes
old_disk pair bytes history there = record {
  value = there.value;
  means = there.means;
  old = old_of pair there.value.image there.value.payloads _ there.stands.gives;
}

-- and gives nothing in version 2
pub not_both : (pair : ℕ) (bytes : List ℕ) (standing : Standing) → DiskGives pair bytes standing →
    ¬ IsOldDisk bytes
not_both pair bytes standing gives old =
    not_old pair gives.value.image gives.value.payloads standing gives.gives
    (old_value bytes gives.value gives.means old)

-- ---- refusals

asked_none : {asked : ℕ} → None ≡ Some asked → ⊥
asked_none is = none-some _ is

-- why a disk that is not old is not opened, of whatever pair
pub young_refusal : (e : ReplicaError) (bytes : List ℕ) → ¬ (e ≡ OldVersion) →
    IsOpenRefusal e None bytes → IsMigrateRefusal e bytes
young_refusal (Tree e) bytes young h = absurd h
young_refusal (OfHistory e) bytes young h = absurd h
young_refusal (Journal refused.Full) bytes young h = absurd h
young_refusal (Journal refused.JournalFull) bytes young h = absurd h
young_refusal (Journal refused.Device) bytes young h = tt
young_refusal (Journal refused.Halted) bytes young h = absurd h
young_refusal (Journal refused.Memory) bytes young h = tt
young_refusal (Journal refused.NoImage) bytes young h = h
young_refusal (Journal refused.Damaged) bytes young h = h
young_refusal Memory bytes young h = tt
young_refusal Touched bytes young h = absurd h
young_refusal OldSession bytes young h = absurd h
young_refusal Damaged bytes young h = inl h
young_refusal WrongPair bytes young h = absurd (asked_none h.other.wanted_is)
young_refusal OldVersion bytes young h = absurd (young refl)

by_journal : (by : JournalError) (bytes : List ℕ) →
    journal.IsOpenRefusal by (meaning bytes) → IsMigrateRefusal (Journal by) bytes
by_journal refused.Full bytes h = absurd h
by_journal refused.JournalFull bytes h = absurd h
by_journal refused.Device bytes h = tt
by_journal refused.Halted bytes h = absurd h
by_journal refused.Memory bytes h = tt
by_journal refused.NoImage bytes h = h
by_journal refused.Damaged bytes h = h

by_meaning : (e : ReplicaError) (bytes : List ℕ) (value : Value) → meaning bytes ≡ Ok value →
    IsOldDisk bytes → IsUnreadOld e value.image value.payloads → IsMigrateRefusal e bytes
by_meaning (Tree e) bytes value means old h = absurd h
by_meaning (OfHistory e) bytes value means old h = absurd h
by_meaning (Journal e) bytes value means old h = absurd h
by_meaning Memory bytes value means old h = tt
by_meaning Touched bytes value means old h = absurd h
by_meaning OldSession bytes value means old h = absurd h
by_meaning Damaged bytes value means old h =
    inr (old, record { value = value; means = means; nothing = h })
by_meaning WrongPair bytes value means old h = absurd h
by_meaning OldVersion bytes value means old h = absurd h

module _ (stands : ImageStands) (fit : ImagesFit) where
  -- an image that is too long is none of a standing, so that the generation is the greatest
  at_greatest : (bytes : List ℕ) → IsUnwritten (λ m. m.pair) GivesOld image_of bytes →
      IsAtGreatest bytes
  at_greatest bytes h = by_cause h.cause
    where
      fits : length (image_of h.state) ≤ longest_image
      fits = fit h.state.pair h.state.standing h.held.given.1

      by_cause : (h.generation + 1 ≡ 2 ^ 64) ⊎ (longest_image < length (image_of h.state)) →
          IsAtGreatest bytes
      by_cause (inl last) = record {
        pair = h.state.pair;
        fits = h.held.fits;
        standing = h.state.standing;
        value = h.value;
        generation = h.generation;
        journal = h.held.journal;
        gives = h.held.given.0;
        greatest = last;
      }
      by_cause (inr long) = absurd (omega (arith, fits, long))

  by_writing : (by : JournalError) (bytes : List ℕ) →
      NotWritten (λ m. m.pair) GivesOld image_of by bytes → IsMigrateRefusal (Journal by) bytes
  by_writing refused.Full bytes h = at_greatest bytes h
  by_writing refused.JournalFull bytes h = absurd h
  by_writing refused.Device bytes h = tt
  by_writing refused.Halted bytes h = absurd h
  by_writing refused.Memory bytes h = tt
  by_writing refused.NoImage bytes h = absurd h
  by_writing refused.Damaged bytes h = absurd h

  -- why a disk of version 1 is not migrated
  pub migrate_refusal : (e : ReplicaError) (bytes : List ℕ) → IsOldDisk bytes →
      NotMigrated (λ m. m.pair) GivesOld image_of (λ by. Journal by) IsUnreadOld e bytes →
      IsMigrateRefusal e bytes
  migrate_refusal e bytes old (inl (inl h)) =
      subst (λ x. IsMigrateRefusal x bytes) (sym h.1) (by_journal h.0 bytes h.2)
  migrate_refusal e bytes old (inl (inr h)) = by_meaning e bytes h.0 h.1 old h.2
  migrate_refusal e bytes old (inr h) =
      subst (λ x. IsMigrateRefusal x bytes) (sym h.1) (by_writing h.0 bytes h.2)

  -- ---- what it leaves

  -- before or after the image was written
  pub keeps_or_migrates : (number : ℕ) (history : History) (left generation : ℕ) (old : List ℕ)
      (keeps : DiskKeepsIn One number history left generation old) (bytes : List ℕ) →
      IsBeforeOrAfter keeps.value generation
      (image_alone (image_spelling number (standing_of history))) (generation + 1) bytes →
      KeepsOrMigrates number history left generation bytes
  keeps_or_migrates number history left generation old keeps bytes (inl has) =
      inl (record {
        value = keeps.value;
        journal = has;
        stands = keeps.stands;
        left_is = keeps.left_is;
      })
  keeps_or_migrates number history left generation old keeps bytes (inr has) =
      inr (record { journal = has; stands = stands number history keeps.stands.lawful })

  module _ {D : Type 0} {disk : Ghosts D} where
    module _ (replica : Replica D disk) (bytes : List ℕ)
        (m : Migrated (λ m. m.pair) GivesOld image_of bytes replica.journaled) where
      -- its disk gives what it shows, by its image alone
      pub migrated_gives : DiskGives (pair_of replica) (disk.seen (disk_of replica))
          (standing_shown replica)
      migrated_gives = record {
        value = image_alone (image_spelling (pair_of replica) (standing_shown replica));
        means = m.runs.holds.means;
        gives = record {
          first = standing_shown replica;
          events = [];
          sound = m.held.given.1;
          image_is = refl;
          payloads_are = refl;
          allowed = tt;
          last = refl;
        };
      }

      -- it stands for each history that the disk stood for
      renewed_stands : (number : ℕ) (history : History) → number < 2 ^ 64 →
          DiskStandsIn One number bytes history →
          (number ≡ pair_of replica) × Stands replica history
      renewed_stands number history fits d =
          let other : Remembered = record { pair = number; standing = standing_of history } in
          let same = m.one other fits (record {
            value = d.value;
            means = d.means;
            given = (d.stands.gives, history-is_standing history d.stands.lawful);
          }) in (
            ap (λ m. m.pair) same,
            record {
              remembers = record {
                lawful = d.stands.lawful;
                standing = sym (ap (λ m. m.standing) same);
              };
              value = image_alone (image_spelling (pair_of replica) (standing_shown replica));
              runs = m.runs;
              means =
                  subst (λ s. StandsForIn current_version (pair_of replica)
                  (image_spelling (pair_of replica) s) [] history) (ap (λ m. m.standing) same)
                  (stands (pair_of replica) history d.stands.lawful);
            },
          )

      pub migrated_each : (version : Version) (number : ℕ) (history : History) →
          number < 2 ^ 64 → DiskStandsIn version number bytes history →
          (number ≡ pair_of replica) × Stands replica history
      migrated_each One number history fits d = renewed_stands number history fits d
      migrated_each Two number history fits d =
          absurd (not_both number bytes (standing_of history)
          (record { value = d.value; means = d.means; gives = d.stands.gives }) (record {
            value = m.value;
            means = m.held.journal.means;
            old = old_of (pair_of replica) m.value.image m.value.payloads _ m.held.given.0;
          }))

    module _ (ended : Option Refusal) (old new : D)
        (migrates : Migrates disk (λ m. m.pair) GivesOld image_of ended old new)
        (number : ℕ) (history : History) (left generation : ℕ) (fits : number < 2 ^ 64)
        (keeps : DiskKeepsIn One number history left generation (disk.seen old)) where
      held : Holds (λ m. m.pair) GivesOld (disk.seen old) keeps.value generation
          (record { pair = number; standing = standing_of history })
      held = record {
        journal = keeps.journal;
        fits = fits;
        given = (keeps.stands.gives, history-is_standing history keeps.stands.lawful);
      }

      pub any_moment : LeavesOnly disk.moment disk.left_since old new (λ bytes.
          disk.may_leave old bytes ⊎ KeepsOrMigrates number history left generation bytes)
      any_moment = leaves_weaker disk.moment disk.left_since old new _ _
          (λ bytes left_there. ⊎_elim (λ was. inl was)
          (λ now. inr (keeps_or_migrates number history left generation (disk.seen old) keeps bytes
          now)) left_there) (migrates.any_moment keeps.value generation _ held)

      pub seen_after : KeepsOrMigrates number history left generation (disk.seen new)
      seen_after = keeps_or_migrates number history left generation (disk.seen old) keeps
          (disk.seen new) (migrates.seen keeps.value generation _ held)

-- ---- after an opening that was refused

pub was_old : (e : ReplicaError) (bytes : List ℕ) → e ≡ OldVersion →
    IsOpenRefusal e None bytes → IsOldDisk bytes
was_old e bytes is refused = subst (λ x. IsOpenRefusal x None bytes) is refused

-- a migration of the disk that came back is one of the disk as it was
pub whole : {D : Type 0} {disk : Ghosts D} (old mid new : D) (e : ReplicaError)
    (ended : Option Refusal) → e ≡ OldVersion → Reads disk (Some (refusal_of e)) old mid →
    Migrates disk (λ m. m.pair) GivesOld image_of ended mid new →
    Migrates disk (λ m. m.pair) GivesOld image_of ended old new
whole {disk = disk} old mid new e ended is reads migrates =
    let read = subst (λ x. Reads disk (Some (refusal_of x)) old mid) is reads in
    after_reads (λ m. m.pair) GivesOld image_of ended old mid new read.untouched read.failures
    read.arms migrates
