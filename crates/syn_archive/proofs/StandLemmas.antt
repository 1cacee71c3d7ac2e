-- What an archive and its disk stand for goes on.
use Rattle.std.proofs.Common.{◌≡◌, ◌⊎◌, ℕ, ◌-◌, ◌+◌}
use Rattle.std.proofs.Common.{List, [], ◌∷◌, ◌++◌, sym, ap, ap₂, ◌∙◌}
use Rattle.std.proofs.Common.{subst, inl, inr, arith}
use Rattle.syn_disk.specs.declared.disk.Disk.{Ghosts}
use Rattle.syn_journal.specs.Journal as journal
use Rattle.syn_journal.specs.Layout.{Value, HasJournal, LeftBehindPayload, half_size, image_alone}
use Rattle.syn_journal.specs.Layout.{with_payload, record_size, bytes_left, IsBeforeOrAfter}
use Rattle.syn_disk.specs.Stops.{LeavesOnly}
use Rattle.syn_model.specs.Path.{Bytes}
use Rattle.syn_model.specs.Version.{current_version}
use Rattle.syn_model.specs.Archive.{Archive, Kept, CanKeep, after_kept}
use Rattle.syn_model.specs.MarkSpelling.{archive_spelling, kept_spelling}
use Rattle.syn_model.specs.ArchiveImage.{ArchiveStandsFor, RecordGoesOn, StandsForSound}
use Rattle.syn_model.specs.ArchiveImage.{ArchiveImageStands}
use Rattle.syn_archive.specs.Disks.{DiskKeeps, DiskCompacted, kept_size}
use Rattle.syn_archive.specs.Archive.{Stands, journal_of, disk_of, pair_of, left_shown}
use Rattle.syn_archive.specs.Archive.{generation_shown}
use Rattle.syn_archive.specs.declared.archive.Archive.{Archive as Shown}

-- the payload of what can be kept takes the value one record on
pub payload_keeps : RecordGoesOn → (pair : ℕ) (value : Value) (payload : Bytes) (archive : Archive)
    (kept : Kept) → ArchiveStandsFor pair value.image value.payloads archive →
    CanKeep archive kept → payload ≡ kept_spelling kept →
    ArchiveStandsFor pair value.image (value.payloads ++ payload ∷ []) (after_kept archive kept)
payload_keeps goes_on pair value payload archive kept stands can e =
    subst
    (λ p. ArchiveStandsFor pair value.image (value.payloads ++ p ∷ []) (after_kept archive kept))
    (sym e) (goes_on pair value.image value.payloads archive kept stands can)

pub stop_keeps : RecordGoesOn → LeftBehindPayload → (pair : ℕ) (value : Value) (payload : Bytes)
    (archive : Archive) (kept : Kept) (left generation : ℕ) →
    ArchiveStandsFor pair value.image value.payloads archive → CanKeep archive kept →
    payload ≡ kept_spelling kept → bytes_left value ≡ left → (bytes : Bytes) →
    IsBeforeOrAfter value generation (with_payload value payload) generation bytes →
    DiskKeeps pair archive left generation bytes
    ⊎ DiskKeeps pair (after_kept archive kept) (left - kept_size kept) generation bytes
stop_keeps goes_on less pair value payload archive kept left generation stands can e same bytes
    (inl has) =
    inl (record { value = value; journal = has; stands = stands; left_is = same })
stop_keeps goes_on less pair value payload archive kept left generation stands can e same bytes
    (inr has) =
    inr (record {
      value = with_payload value payload;
      journal = has;
      stands = payload_keeps goes_on pair value payload archive kept stands can e;
      left_is = less value payload ∙ ap₂ (λ n p. n - record_size p) same e;
    })

-- the bytes that are left are those after the value
pub left_behind : {D : Type 0} {disk : Ghosts D} (archive : Shown D disk) (value : Value) →
    journal.Stands (journal_of archive) value → bytes_left value ≡ left_shown archive
left_behind archive value runs = ap (λ gate. half_size - 1 - gate) (sym runs.gate)

-- the image of what an archive shows stands for it
pub image_keeps : StandsForSound → ArchiveImageStands → (pair : ℕ) (value : Value) (image : Bytes)
    (archive : Archive) → ArchiveStandsFor pair value.image value.payloads archive →
    image ≡ archive_spelling pair archive → ArchiveStandsFor pair image [] archive
image_keeps sound stands pair value image archive means e =
    subst (λ bytes. ArchiveStandsFor pair bytes [] archive) (sym e)
    (stands pair archive (sound current_version pair value.image value.payloads archive means))

pub stop_compacts : StandsForSound → ArchiveImageStands → (pair : ℕ) (value : Value) (image : Bytes)
    (archive : Archive) (left generation : ℕ) →
    ArchiveStandsFor pair value.image value.payloads archive →
    image ≡ archive_spelling pair archive → bytes_left value ≡ left → (bytes : Bytes) →
    IsBeforeOrAfter value generation (image_alone image) (generation + 1) bytes →
    DiskKeeps pair archive left generation bytes ⊎ DiskCompacted pair archive (generation + 1) bytes
stop_compacts sound stands pair value image archive left generation means e left_is bytes
    (inl has) =
    inl (record { value = value; journal = has; stands = means; left_is = left_is })
stop_compacts sound stands pair value image archive left generation means e left_is bytes
    (inr has) =
    inr (record {
      journal = subst (λ i. HasJournal bytes (image_alone i) (generation + 1)) e has;
      stands =
          subst (λ i. ArchiveStandsFor pair i [] archive) e
          (image_keeps sound stands pair value image archive means e);
    })

-- its disk keeps the archive with the bytes that it shows to be left
pub keeps_now : {D : Type 0} {disk : Ghosts D} (archive : Shown D disk) (kept : Archive) →
    Stands archive kept → DiskKeeps (pair_of archive) kept (left_shown archive)
    (generation_shown archive) (disk.seen (disk_of archive))
keeps_now archive kept stands =
    record {
      value = stands.value;
      journal = stands.runs.holds;
      stands = stands.means;
      left_is = left_behind archive stands.value stands.runs;
    }

-- and so does each stop where nothing was written
pub not_written : {D : Type 0} {disk : Ghosts D}
    (only_now : (d : D) (c : List ℕ) → disk.left_since d (disk.moment d) c → disk.may_leave d c)
    (archive : Shown D disk) (kept : Archive) → Stands archive kept → (P : List ℕ → Type 0) →
    P (disk.seen (disk_of archive)) →
    LeavesOnly disk.moment disk.left_since (disk_of archive) (disk_of archive) P
not_written only_now archive kept stands P here = record {
  later = omega arith;
  each = λ c left. subst P (sym (stands.runs.durable c (only_now _ c left))) here;
  before = λ t c le left. inl left;
}
