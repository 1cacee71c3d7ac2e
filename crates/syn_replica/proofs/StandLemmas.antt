-- What a replica and its disk stand for goes on.
use Rattle.std.proofs.Common.{◌≡◌, ◌⊎◌, ◌<◌, ◌^◌, ℕ, ◌+◌, ◌-◌, List, [], ◌∷◌, ◌++◌, sym}
use Rattle.std.proofs.Common.{ap, ap₂, ◌∙◌, subst, inl, inr, arith}
use Rattle.syn_disk.specs.declared.disk.Disk.{Ghosts}
use Rattle.syn_journal.specs.Layout.{Value, half_size, HasJournal}
use Rattle.syn_journal.specs.Layout.{LeftBehindPayload, meaning, with_payload, image_alone}
use Rattle.syn_journal.specs.Layout.{record_size, bytes_left, IsBeforeOrAfter}
use Rattle.syn_journal.specs.Journal as journal
use Rattle.syn_journal.specs.Journaled.{Opened}
use Rattle.syn_disk.specs.Stops.{LeavesOnly}
use Rattle.syn_model.specs.Laws.{AllowedGoesOn, PayloadGoesOn, StandingSteps, ImageStands}
use Rattle.syn_model.specs.Path.{Bytes}
use Rattle.syn_model.specs.Event.{Event}
use Rattle.syn_model.specs.Standing.{Standing, standing_after, refusal_at, IsAllowedAt}
use Rattle.syn_model.specs.History.{History, IsAllowed, IsHistory, standing_of}
use Rattle.syn_model.specs.Spelling.{event_spelling}
use Rattle.syn_model.specs.Image.{StandsFor, image_spelling}
use Rattle.syn_replica.specs.Disks.{DiskStands, DiskKeeps, DiskCompacted, event_size}
use Rattle.syn_replica.specs.declared.remembered.Remembered.{Remembered}
use Rattle.syn_replica.specs.declared.replica.Replica.{Replica}
use Rattle.syn_replica.specs.inner.Memories.{Gives as Given}
use Rattle.syn_replica.specs.Replica.{Remembers, Stands, standing_shown, pair_of, journal_of}
use Rattle.syn_replica.specs.Replica.{disk_of, left_shown, generation_shown}
use Rattle.syn_journal.proofs.Meanings.{one_value}

-- the payload of an allowed event takes the value one event on
pub payload_stands : PayloadGoesOn → (pair : ℕ) (value : Value) (payload : Bytes)
    (history : History) (event : Event) → StandsFor pair value.image value.payloads history →
    IsAllowed history event → payload ≡ event_spelling event →
    StandsFor pair value.image (value.payloads ++ payload ∷ []) (history ++ event ∷ [])
payload_stands goes_on pair value payload history event stands allowed e =
    subst (λ p. StandsFor pair value.image (value.payloads ++ p ∷ []) (history ++ event ∷ []))
    (sym e) (goes_on pair value.image value.payloads history event stands allowed)

pub stop_keeps : PayloadGoesOn → LeftBehindPayload → (pair : ℕ) (value : Value) (payload : Bytes)
    (history : History) (event : Event) (left generation : ℕ) →
    StandsFor pair value.image value.payloads history → IsAllowed history event →
    payload ≡ event_spelling event → bytes_left value ≡ left → (bytes : Bytes) →
    IsBeforeOrAfter value generation (with_payload value payload) generation bytes →
    DiskKeeps pair history left generation bytes
    ⊎ DiskKeeps pair (history ++ event ∷ []) (left - event_size event) generation bytes
stop_keeps goes_on less pair value payload history event left generation stands allowed e same bytes
    (inl has) =
    inl (record { value = value; journal = has; stands = stands; left_is = same })
stop_keeps goes_on less pair value payload history event left generation stands allowed e same bytes
    (inr has) =
    inr (record {
      value = with_payload value payload;
      journal = has;
      stands = payload_stands goes_on pair value payload history event stands allowed e;
      left_is = less value payload ∙ ap₂ (λ n p. n - record_size p) same e;
    })

-- an image of what is kept, and no payload
pub image_stands : ImageStands → (pair : ℕ) (history : History) (standing : Standing)
    (image : Bytes) → IsHistory history → standing ≡ standing_of history →
    image ≡ image_spelling pair standing → StandsFor pair image [] history
image_stands stands pair history standing image lawful same e =
    subst (λ bytes. StandsFor pair bytes [] history) (sym (e ∙ ap (image_spelling pair) same))
    (stands pair history lawful)

pub stop_compacts : ImageStands → (pair : ℕ) (value : Value) (history : History)
    (standing : Standing) (image : Bytes) (left generation : ℕ) →
    StandsFor pair value.image value.payloads history → standing ≡ standing_of history →
    image ≡ image_spelling pair standing → bytes_left value ≡ left → (bytes : Bytes) →
    IsBeforeOrAfter value generation (image_alone image) (generation + 1) bytes →
    DiskKeeps pair history left generation bytes
    ⊎ DiskCompacted pair history standing (generation + 1) bytes
stop_compacts stands pair value history standing image left generation before same e left_is bytes
    (inl has) =
    inl (record { value = value; journal = has; stands = before; left_is = left_is })
stop_compacts stands pair value history standing image left generation before same e left_is bytes
    (inr has) =
    inr (record {
      journal = subst (λ i. HasJournal bytes (image_alone i) (generation + 1)) e has;
      stands =
          subst (λ i. StandsFor pair i [] history) e
          (image_stands stands pair history standing image before.lawful same e);
    })

-- the bytes that are left are those after the value
pub left_behind : {D : Type 0} {disk : Ghosts D} (replica : Replica D disk) (value : Value) →
    journal.Stands (journal_of replica) value → bytes_left value ≡ left_shown replica
left_behind replica value runs = ap (λ gate. half_size - 1 - gate) (sym runs.gate)

-- what is allowed where the replica stands is allowed after the history
pub allowed_after : (standing : Standing) (history : History) (event : Event) →
    standing ≡ standing_of history → IsAllowedAt standing event → IsAllowed history event
allowed_after standing history event same allowed =
    record {
      lawful = allowed.lawful;
      not_refused = ap (λ s. refusal_at s event) (sym same)
          ∙ allowed.not_refused;
    }

-- with the event the replica remembers the longer history
pub remembers_more : AllowedGoesOn → StandingSteps → {D : Type 0} {disk : Ghosts D}
    (old new : Replica D disk) (history : History) (event : Event) → Remembers old history →
    IsAllowed history event → standing_shown new ≡ standing_after (standing_shown old) event →
    Remembers new (history ++ event ∷ [])
remembers_more goes_on steps old new history event r allowed makes = record {
  lawful = goes_on history event r.lawful allowed;
  standing = makes ∙ (ap (λ s. standing_after s event) r.standing ∙ sym (steps history event));
}

-- a replica that has what its disk gives stands for each history that the disk stands for
pub opened_each : {D : Type 0} {disk : Ghosts D} (replica : Replica D disk) (bytes : List ℕ)
    (number : ℕ) (history : History) → Opened (λ m. m.pair) Given bytes replica.journaled →
    number < 2 ^ 64 → DiskStands number bytes history →
    (number ≡ pair_of replica) × Stands replica history
opened_each replica bytes number history opened fits d =
    let other : Remembered = record { pair = number; standing = standing_of history } in
    let same = opened.one other fits
    (record { value = d.value; means = d.means; given = d.stands.gives }) in (
      ap (λ m. m.pair) same,
      record {
        remembers =
            record { lawful = d.stands.lawful; standing = sym (ap (λ m. m.standing) same) };
        value = opened.value;
        runs = opened.runs;
        means =
            subst (λ n. StandsFor n opened.value.image opened.value.payloads history)
            (ap (λ m. m.pair) same)
            (subst (λ v. StandsFor number v.image v.payloads history)
            (one_value (meaning bytes) d.value opened.value d.means opened.means) d.stands);
      },
    )

-- its disk keeps the history with the bytes that it shows to be left
pub keeps_now : {D : Type 0} {disk : Ghosts D} (replica : Replica D disk) (history : History) →
    Stands replica history → DiskKeeps (pair_of replica) history (left_shown replica)
    (generation_shown replica) (disk.seen (disk_of replica))
keeps_now replica history stands =
    record {
      value = stands.value;
      journal = stands.runs.holds;
      stands = stands.means;
      left_is = left_behind replica stands.value stands.runs;
    }

-- and so does each stop where nothing was written
pub not_written : {D : Type 0} {disk : Ghosts D}
    (only_now : (d : D) (c : List ℕ) → disk.left_since d (disk.moment d) c → disk.may_leave d c)
    (replica : Replica D disk) (history : History) →
    Stands replica history → (P : List ℕ → Type 0) → P (disk.seen (disk_of replica)) →
    LeavesOnly disk.moment disk.left_since (disk_of replica) (disk_of replica) P
not_written only_now replica history stands P here = record {
  later = omega arith;
  each = λ c left. subst P (sym (stands.runs.durable c (only_now _ c left))) here;
  before = λ t c le left. inl left;
}

-- as for what keeps the history as it was, or else
pub kept_unwritten : {D : Type 0} {disk : Ghosts D}
    (only_now : (d : D) (c : List ℕ) → disk.left_since d (disk.moment d) c → disk.may_leave d c)
    (replica : Replica D disk) (history : History) → Stands replica history →
    (Q : List ℕ → Type 0) → LeavesOnly disk.moment disk.left_since (disk_of replica)
    (disk_of replica) (λ bytes. DiskKeeps (pair_of replica) history (left_shown replica)
    (generation_shown replica) bytes ⊎ Q bytes)
kept_unwritten only_now replica history stands Q =
    not_written only_now replica history stands _ (inl (keeps_now replica history stands))

-- a disk that keeps a history stands for it
pub keeps_stands : {pair : ℕ} {history : History} {left generation : ℕ} {bytes : List ℕ} →
    DiskKeeps pair history left generation bytes → DiskStands pair bytes history
keeps_stands keeps =
    record { value = keeps.value; means = keeps.journal.means; stands = keeps.stands }
