-- What a migration of a machine says of an archive.
use Rattle.std.proofs.Common.{◌≡◌, ◌⊎◌, ◌<◌, ◌^◌, ◌+◌, ◌∙◌, ℕ, List, [], length, inl, inr}
use Rattle.std.proofs.Common.{⊎_elim, refl, sym, ap, subst, Ok, Option, Some, None, arith, ◌≤◌}
use Rattle.std.proofs.lemmas.Option.{none-some}
use Rattle.syn_disk.specs.Stops.{LeavesOnly}
use Rattle.syn_disk.specs.declared.disk.Disk.{Ghosts}
use Rattle.syn_journal.specs.Journal as journal
use Rattle.syn_journal.specs.Layout.{HasJournal, IsBeforeOrAfter, Value, bytes_left, image_alone}
use Rattle.syn_journal.specs.Layout.{longest_image, meaning}
use Rattle.syn_journal.specs.Refusals as journal_refusals
use Rattle.syn_journal.specs.declared.error.JournalError.{JournalError}
use Rattle.syn_journal.specs.declared.error.JournalError.TheVariants as refused_by
use Rattle.syn_journal.specs.Endings.{Reads}
use Rattle.syn_journal.specs.Migrations.{Holds, IsUnwritten, Migrated, Migrates, NotMigrated}
use Rattle.syn_journal.specs.Migrations.{NotWritten}
use Rattle.syn_journal.proofs.Migrations.{after_reads, one_journal}
use Rattle.syn_model.specs.Archive as model
use Rattle.syn_model.specs.ArchiveImage.{ArchiveImageStands, ArchiveImagesFit, ArchiveStandsFor}
use Rattle.syn_model.specs.ArchiveImage.{ArchiveStandsForIn, StandsForSound}
use Rattle.syn_model.specs.Limits.{greatest}
use Rattle.syn_model.specs.MarkSpelling.{IsOldArchiveImage, archive_spelling}
use Rattle.syn_model.specs.Path.{Bytes}
use Rattle.syn_model.specs.Refusal.{Refusal}
use Rattle.syn_model.specs.Version.{Version, One, Two}
use Rattle.syn_archive.specs.Archive.{Stands, generation_shown, journal_of, pair_of, shown}
use Rattle.syn_archive.specs.Disks.{DiskKeepsIn, DiskStandsIn, IsAtGreatest}
use Rattle.syn_archive.specs.Disks.{IsMigrateRefusal, IsOldDisk, IsOpenRefusal, KeepsOrMigrates}
use Rattle.syn_archive.specs.Disks.{StandsForNoneIn}
use Rattle.syn_archive.specs.Refusals.{of_journal, refusal_of}
use Rattle.syn_archive.specs.inner.Agreements.{GivesOld, IsUnreadOld, agreed_archive}
use Rattle.syn_archive.specs.declared.agreed.Agreed.{Agreed}
use Rattle.syn_archive.specs.declared.archive.Archive.{Archive}
use Rattle.syn_archive.specs.declared.error.ArchiveError.{ArchiveError}
use Rattle.syn_archive.specs.declared.error.ArchiveError.TheVariants.{NoParent, Root, Full}
use Rattle.syn_archive.specs.declared.error.ArchiveError.TheVariants.{JournalFull, Device, Halted}
use Rattle.syn_archive.specs.declared.error.ArchiveError.TheVariants.{Memory, NoImage, Damaged}
use Rattle.syn_archive.specs.declared.error.ArchiveError.TheVariants.{OldVersion, WrongPair}
use Rattle.syn_journal.proofs.Meanings.{no_value, one_value}
use Rattle.syn_archive.proofs.OpeningLemmas.{not_old}
use Rattle.syn_disk.proofs.LeftLemmas.{leaves_weaker}

-- ---- versions

-- an archive's image of the first version is old, and one of the second is not
pub is_old : (pair : ℕ) (image : Bytes) (payloads : List Bytes) (archive : model.Archive) →
    ArchiveStandsForIn One pair image payloads archive → IsOldArchiveImage image
is_old pair image payloads archive stands = (_, stands.image_is)

pub old_disk : (pair : ℕ) (bytes : List ℕ) (archive : model.Archive) →
    DiskStandsIn One pair bytes archive → IsOldDisk bytes
old_disk pair bytes archive d =
    (d.value, d.means, is_old pair d.value.image d.value.payloads archive d.stands)

-- a disk of the first version stands for nothing in the second
pub not_both : (pair : ℕ) (bytes : List ℕ) (archive : model.Archive) → IsOldDisk bytes →
    DiskStandsIn Two pair bytes archive → ⊥
not_both pair bytes archive old d =
    not_old pair d.value.image d.value.payloads archive d.stands
    (subst (λ v. IsOldArchiveImage v.image)
    (one_value (meaning bytes) old.0 d.value old.1 d.means) old.2)

pub kept_stands : {version : Version} {pair : ℕ} {archive : model.Archive} {left generation : ℕ}
    {bytes : List ℕ} → DiskKeepsIn version pair archive left generation bytes →
    DiskStandsIn version pair bytes archive
kept_stands keeps =
    record { value = keeps.value; means = keeps.journal.means; stands = keeps.stands }

none_in : (image : Bytes) (payloads : List Bytes) → IsOldArchiveImage image →
    StandsForNoneIn One image payloads → (version : Version) →
    StandsForNoneIn version image payloads
none_in image payloads old none One pair archive fits stands = none pair archive fits stands
none_in image payloads old none Two pair archive fits stands =
    not_old pair image payloads archive stands old

none_young : (image : Bytes) (payloads : List Bytes) → ¬ IsOldArchiveImage image →
    StandsForNoneIn Two image payloads → (version : Version) →
    StandsForNoneIn version image payloads
none_young image payloads young none One pair archive fits stands =
    young (is_old pair image payloads archive stands)
none_young image payloads young none Two pair archive fits stands = none pair archive fits stands

-- ---- refusals

-- why a disk that is not old is not opened, of whatever pair
pub young_refusal : (e : ArchiveError) (bytes : List ℕ) → ¬ (e ≡ OldVersion) →
    IsOpenRefusal e None bytes → IsMigrateRefusal e bytes
young_refusal NoParent bytes young h = absurd h
young_refusal Root bytes young h = absurd h
young_refusal Full bytes young h = absurd h
young_refusal JournalFull bytes young h = absurd h
young_refusal Device bytes young h = tt
young_refusal Halted bytes young h = absurd h
young_refusal Memory bytes young h = tt
young_refusal NoImage bytes young h = h
young_refusal Damaged bytes young (inl h) = inl h
young_refusal Damaged bytes young (inr h) =
    inr (h.0, h.1, none_young h.0.image h.0.payloads h.2 h.3)
young_refusal WrongPair bytes young h = absurd (none-some _ h.2.wanted_is)
young_refusal OldVersion bytes young h = absurd (young refl)

-- what a lawful disk is refused for
pub lawful_migrate : (e : ArchiveError) (version : Version) (bytes : List ℕ) (number : ℕ)
    (kept : model.Archive) → number < 2 ^ 64 → DiskStandsIn version number bytes kept →
    IsMigrateRefusal e bytes → (e ≡ Full) ⊎ ((e ≡ Device) ⊎ (e ≡ Memory))
lawful_migrate NoParent version bytes number kept fits d h = absurd h
lawful_migrate Root version bytes number kept fits d h = absurd h
lawful_migrate Full version bytes number kept fits d h = inl refl
lawful_migrate JournalFull version bytes number kept fits d h = absurd h
lawful_migrate Device version bytes number kept fits d h = inr (inl refl)
lawful_migrate Halted version bytes number kept fits d h = absurd h
lawful_migrate Memory version bytes number kept fits d h = inr (inr refl)
lawful_migrate NoImage version bytes number kept fits d h =
    absurd (no_value (meaning bytes) d.value _ d.means h)
lawful_migrate Damaged version bytes number kept fits d (inl h) =
    absurd (no_value (meaning bytes) d.value _ d.means h)
lawful_migrate Damaged version bytes number kept fits d (inr h) =
    absurd (h.2 version number kept fits
    (subst (λ v. ArchiveStandsForIn version number v.image v.payloads kept)
    (one_value (meaning bytes) d.value h.0 d.means h.1) d.stands))
lawful_migrate WrongPair version bytes number kept fits d h = absurd h
lawful_migrate OldVersion version bytes number kept fits d h = absurd h

by_journal : (by : JournalError) (bytes : List ℕ) →
    journal_refusals.IsOpenRefusal by (meaning bytes) → IsMigrateRefusal (of_journal by) bytes
by_journal refused_by.Full bytes h = absurd h
by_journal refused_by.JournalFull bytes h = absurd h
by_journal refused_by.Device bytes h = tt
by_journal refused_by.Halted bytes h = absurd h
by_journal refused_by.Memory bytes h = tt
by_journal refused_by.NoImage bytes h = h
by_journal refused_by.Damaged bytes h = inl h

by_meaning : (e : ArchiveError) (bytes : List ℕ) (value : Value) → meaning bytes ≡ Ok value →
    IsOldDisk bytes → IsUnreadOld e value.image value.payloads → IsMigrateRefusal e bytes
by_meaning NoParent bytes value means old h = absurd h
by_meaning Root bytes value means old h = absurd h
by_meaning Full bytes value means old h = absurd h
by_meaning JournalFull bytes value means old h = absurd h
by_meaning Device bytes value means old h = absurd h
by_meaning Halted bytes value means old h = absurd h
by_meaning Memory bytes value means old h = tt
by_meaning NoImage bytes value means old h = absurd h
by_meaning Damaged bytes value means old h =
    inr (
      value,
      means,
      none_in value.image value.payloads
          (subst (λ v. IsOldArchiveImage v.image) (one_value (meaning bytes) old.0 value old.1
          means) old.2) h,
    )
by_meaning WrongPair bytes value means old h = absurd h
by_meaning OldVersion bytes value means old h = absurd h

abbrev pub image_of : Agreed → Bytes
image_of agreed = archive_spelling agreed.pair (agreed_archive agreed)

module _ (sound : StandsForSound) (stands : ArchiveImageStands) (fit : ArchiveImagesFit) where
  -- an image that is too long is none of an archive, so that the generation is the greatest
  at_greatest : (bytes : List ℕ) → IsUnwritten (λ a. a.pair) GivesOld image_of bytes →
      IsAtGreatest bytes
  at_greatest bytes h = by_cause h.cause
    where
      archive : model.Archive
      archive = agreed_archive h.state

      fits : length (image_of h.state) ≤ longest_image
      fits = fit h.state.pair archive
          (sound One h.state.pair h.value.image h.value.payloads archive h.held.given)

      by_cause : (h.generation + 1 ≡ 2 ^ 64) ⊎ (longest_image < length (image_of h.state)) →
          IsAtGreatest bytes
      by_cause (inl last) =
          let number : h.generation ≡ greatest = omega (arith, last) in
          record {
            pair = h.state.pair;
            fits = h.held.fits;
            archive = archive;
            left = bytes_left h.value;
            keeps = record {
              value = h.value;
              journal = subst (HasJournal bytes h.value) number h.held.journal;
              stands = h.held.given;
              left_is = refl;
            };
          }
      by_cause (inr long) = absurd (omega (arith, fits, long))

  by_writing : (by : JournalError) (bytes : List ℕ) →
      NotWritten (λ a. a.pair) GivesOld image_of by bytes → IsMigrateRefusal (of_journal by) bytes
  by_writing refused_by.Full bytes h = at_greatest bytes h
  by_writing refused_by.JournalFull bytes h = absurd h
  by_writing refused_by.Device bytes h = tt
  by_writing refused_by.Halted bytes h = absurd h
  by_writing refused_by.Memory bytes h = tt
  by_writing refused_by.NoImage bytes h = absurd h
  by_writing refused_by.Damaged bytes h = absurd h

  -- why a disk of the first version is not migrated
  pub migrate_refusal : (e : ArchiveError) (bytes : List ℕ) → IsOldDisk bytes →
      NotMigrated (λ a. a.pair) GivesOld image_of of_journal IsUnreadOld e bytes →
      IsMigrateRefusal e bytes
  migrate_refusal e bytes old (inl (inl h)) =
      subst (λ x. IsMigrateRefusal x bytes) (sym h.1) (by_journal h.0 bytes h.2)
  migrate_refusal e bytes old (inl (inr h)) = by_meaning e bytes h.0 h.1 old h.2
  migrate_refusal e bytes old (inr h) =
      subst (λ x. IsMigrateRefusal x bytes) (sym h.1) (by_writing h.0 bytes h.2)

  -- ---- what it leaves

  -- the image that was written stands for the archive
  image_stands : (pair : ℕ) (value : Value) (kept : model.Archive) →
      ArchiveStandsForIn One pair value.image value.payloads kept →
      ArchiveStandsFor pair (archive_spelling pair kept) [] kept
  image_stands pair value kept means =
      stands pair kept (sound One pair value.image value.payloads kept means)

  -- before or after the image was written
  pub keeps_or_migrates : (number : ℕ) (kept : model.Archive) (left generation : ℕ) (old : List ℕ)
      (keeps : DiskKeepsIn One number kept left generation old) (bytes : List ℕ) →
      IsBeforeOrAfter keeps.value generation (image_alone (archive_spelling number kept))
      (generation + 1) bytes → KeepsOrMigrates number kept left generation bytes
  keeps_or_migrates number kept left generation old keeps bytes (inl has) =
      inl (record {
        value = keeps.value;
        journal = has;
        stands = keeps.stands;
        left_is = keeps.left_is;
      })
  keeps_or_migrates number kept left generation old keeps bytes (inr has) =
      inr (record {
        journal = has;
        stands = image_stands number keeps.value kept keeps.stands;
      })

  module _ {D : Type 0} {disk : Ghosts D} where
    pub migrated_stands : (archive : Archive D disk) (bytes : List ℕ) →
        Migrated (λ a. a.pair) GivesOld image_of bytes archive.journaled →
        Stands archive (shown archive)
    migrated_stands archive bytes m = record {
      remembers = refl;
      value = image_alone (archive_spelling (pair_of archive) (shown archive));
      runs = m.runs;
      means = image_stands (pair_of archive) m.value (shown archive) m.held.given;
    }

    module _ (archive : Archive D disk) (bytes : List ℕ)
        (m : Migrated (λ a. a.pair) GivesOld image_of bytes archive.journaled) where
      -- what the disk gave in the first version is what was migrated
      same_given : (number : ℕ) (kept : model.Archive) → number < 2 ^ 64 →
          DiskStandsIn One number bytes kept →
          (number ≡ pair_of archive) × (kept ≡ shown archive)
      same_given number kept fits d =
          let other : Agreed = record {
            pair = number;
            last_session = kept.last_session;
            marks = kept.marks;
          } in
          let same = m.one other fits
          (record { value = d.value; means = d.means; given = d.stands }) in
          (ap (λ a. a.pair) same, ap agreed_archive same)

      pub migrated_each : (version : Version) (number : ℕ) (kept : model.Archive) →
          number < 2 ^ 64 → DiskStandsIn version number bytes kept →
          (number ≡ pair_of archive) × Stands archive kept
      migrated_each One number kept fits d =
          let same = same_given number kept fits d in
          (same.0, subst (Stands archive) (sym same.1) (migrated_stands archive bytes m))
      migrated_each Two number kept fits d =
          absurd (not_both number bytes kept (old_disk (pair_of archive) bytes (shown archive)
          (record { value = m.value; means = m.held.journal.means; stands = m.held.given })) d)

      pub migrated_image : (number : ℕ) (kept : model.Archive) (left generation : ℕ) →
          number < 2 ^ 64 → DiskKeepsIn One number kept left generation bytes →
          (generation_shown archive ≡ generation + 1)
          × journal.Stands (journal_of archive) (image_alone (archive_spelling number kept))
      migrated_image number kept left generation fits keeps =
          let same = same_given number kept fits (kept_stands keeps) in
          let numbers = (one_journal bytes keeps.value m.value generation m.generation keeps.journal
          m.held.journal).1 in (
            m.next ∙ ap (λ n. n + 1) (sym numbers),
            subst (λ n. journal.Stands (journal_of archive) (image_alone (archive_spelling n kept)))
                (sym same.0)
                (subst (λ a. journal.Stands (journal_of archive)
                (image_alone (archive_spelling (pair_of archive) a))) (sym same.1) m.runs),
          )

    module _ (ended : Option Refusal) (old new : D)
        (migrates : Migrates disk (λ a. a.pair) GivesOld image_of ended old new)
        (number : ℕ) (kept : model.Archive) (left generation : ℕ) (fits : number < 2 ^ 64)
        (keeps : DiskKeepsIn One number kept left generation (disk.seen old)) where
      held : Holds (λ a. a.pair) GivesOld (disk.seen old) keeps.value generation
          (record { pair = number; last_session = kept.last_session; marks = kept.marks })
      held = record { journal = keeps.journal; fits = fits; given = keeps.stands }

      pub any_moment : LeavesOnly disk.moment disk.left_since old new (λ bytes.
          disk.may_leave old bytes ⊎ KeepsOrMigrates number kept left generation bytes)
      any_moment = leaves_weaker disk.moment disk.left_since old new _ _
          (λ bytes left_there. ⊎_elim (λ was. inl was)
          (λ now. inr (keeps_or_migrates number kept left generation (disk.seen old) keeps bytes
          now)) left_there) (migrates.any_moment keeps.value generation _ held)

      pub seen_after : KeepsOrMigrates number kept left generation (disk.seen new)
      seen_after = keeps_or_migrates number kept left generation (disk.seen old) keeps
          (disk.seen new) (migrates.seen keeps.value generation _ held)

-- ---- after an opening that was refused

pub was_old : (e : ArchiveError) (bytes : List ℕ) → e ≡ OldVersion →
    IsOpenRefusal e None bytes → IsOldDisk bytes
was_old e bytes is refused = subst (λ x. IsOpenRefusal x None bytes) is refused

-- a migration of the disk that came back is one of the disk as it was
pub whole : {D : Type 0} {disk : Ghosts D} (old mid new : D) (e : ArchiveError)
    (ended : Option Refusal) → e ≡ OldVersion → Reads disk (Some (refusal_of e)) old mid →
    Migrates disk (λ a. a.pair) GivesOld image_of ended mid new →
    Migrates disk (λ a. a.pair) GivesOld image_of ended old new
whole {disk = disk} old mid new e ended is reads migrates =
    let read = subst (λ x. Reads disk (Some (refusal_of x)) old mid) is reads in
    after_reads (λ a. a.pair) GivesOld image_of ended old mid new read.untouched read.failures
    read.arms migrates
