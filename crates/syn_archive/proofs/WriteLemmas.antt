-- What a machine's write makes of an archive.
use Rattle.std.specs.Prelude.{Result, Ok, Err, IfErr}
use Rattle.std.proofs.Common.{◌≡◌, ◌≢◌, ◌⊎◌, ◌≤◌, ◌<◌, ◌∙◌, Option, Some, None, length, inl, refl}
use Rattle.std.proofs.Common.{◌+◌, sym, ap, ap₂, subst, arith}
use Rattle.std.proofs.lemmas.Option.{none-some}
use Rattle.syn_disk.specs.Stops.{LeavesOnly}
use Rattle.syn_disk.specs.declared.disk.Disk.{Ghosts}
use Rattle.syn_journal.specs.Journal as journal
use Rattle.syn_journal.specs.Layout.{LeftBehindPayload, IsBeforeOrAfter, record_size, with_payload}
use Rattle.syn_journal.specs.Layout.{image_alone}
use Rattle.syn_model.specs.Path.{Bytes}
use Rattle.syn_model.specs.Refusal.{Refusal}
use Rattle.syn_model.specs.Refusal as reason
use Rattle.syn_model.specs.Archive as model
use Rattle.syn_model.specs.Archive.{Kept, Session, Recorded, RecordedDir, CanKeep, after_kept}
use Rattle.syn_model.specs.ArchiveImage.{ArchiveStandsFor, RecordGoesOn}
use Rattle.syn_model.specs.MarkSpelling.{archive_spelling, kept_spelling}
use Rattle.syn_journal.specs.Endings.{ended}
use Rattle.syn_journal.specs.Journaled.{Appends, IsOfWrite, generation_after, left_after}
use Rattle.syn_journal.specs.Journaled.{Compacts as MachineCompacts}
use Rattle.syn_archive.specs.Archive.{HasRecord, KeepsBeforeOrAfter, KeepsReadings, Stands, disk_of}
use Rattle.syn_archive.specs.Archive.{IsHalted, generation_shown, journal_of, left_shown, pair_of}
use Rattle.syn_archive.specs.Archive.{KeepsOrCompacts, SameMemory, room_shown, shown}
use Rattle.syn_archive.specs.Refusals.{IsOfRecord, IsOutside, refusal_of}
use Rattle.syn_archive.specs.Calls.{Compacts, Writes}
use Rattle.syn_archive.specs.inner.Agreements.{after_update, agreed_archive}
use Rattle.syn_archive.specs.inner.Openings.{Keeps}
use Rattle.syn_archive.specs.declared.agreed.Update.{Update}
use Rattle.syn_archive.specs.declared.archive.Archive.{Archive}
use Rattle.syn_archive.specs.declared.error.ArchiveError.{ArchiveError}
use Rattle.syn_archive.specs.declared.error.ArchiveError.TheVariants.{Device, Halted, JournalFull}
use Rattle.syn_archive.specs.declared.error.ArchiveError.TheVariants.{Memory}
use Rattle.syn_archive.proofs.EndLemmas.{if_none_of, if_some_of, same_unless}
use Rattle.syn_archive.proofs.StandLemmas.{left_behind, payload_keeps, stop_keeps}
use Rattle.syn_disk.proofs.LeftLemmas.{leaves_weaker}

-- ---- of a result

outside : (e : ArchiveError) → IsOfWrite (Some (refusal_of e)) → e ≢ JournalFull → IsOutside e
outside JournalFull h other = absurd (other refl)
outside _ h other = h

outside_record : (e : ArchiveError) → IsOfWrite (Some (refusal_of e)) → IsOfRecord e
outside_record JournalFull h = tt
outside_record Device h = tt
outside_record Halted h = tt
outside_record Memory h = tt
outside_record _ h = absurd h

module _ {T : Type 0} where
  pub cause_of_write : (result : Result T ArchiveError) (P : ArchiveError → Type 0) →
      IsOfWrite (ended refusal_of result) →
      ended refusal_of result ≢ Some (refusal_of JournalFull) →
      IfErr result (λ e. IsOutside e ⊎ P e)
  cause_of_write (Ok value) P h other = tt
  cause_of_write (Err e) P h other =
      inl (outside e h (λ is. other (ap (λ f. Some (refusal_of f)) is)))

  pub record_of_write : (result : Result T ArchiveError) →
      IsOfWrite (ended refusal_of result) → IfErr result IsOfRecord
  record_of_write (Ok value) h = tt
  record_of_write (Err e) h = outside_record e h

-- what is kept is spelled with some bytes
pub some_bytes : (what : Kept) → 0 < length (kept_spelling what)
some_bytes (Session session) = omega arith
some_bytes (Recorded path marks) = omega arith
some_bytes (RecordedDir path) = omega arith

-- ---- of an archive

module _ {D : Type 0} {disk : Ghosts D} (old new : Archive D disk) (payload : Bytes)
    (what : Kept) (why : Option Refusal)
    (appends : Appends (journal_of old) (journal_of new) payload why)
    (spelled : payload ≡ kept_spelling what) where
  pub written_moment : RecordGoesOn → LeftBehindPayload → (after : model.Archive) →
      Keeps (shown old) what after → (kept : model.Archive) → Stands old kept →
      LeavesOnly disk.moment disk.left_since (disk_of old) (disk_of new)
      (KeepsBeforeOrAfter old kept what)
  written_moment goes_on less after keeps kept stands =
      leaves_weaker disk.moment disk.left_since _ _
      (IsBeforeOrAfter stands.value (generation_shown old) (with_payload stands.value payload)
      (generation_shown old)) (KeepsBeforeOrAfter old kept what)
      (stop_keeps goes_on less (pair_of old) stands.value payload kept what (left_shown old)
      (generation_shown old) stands.means
      (subst (λ a. CanKeep a what) stands.remembers keeps.can) spelled
      (left_behind old stands.value stands.runs)) (appends.any_moment stands.value stands.runs)

  -- it fits, so that the journal does not refuse it for its length
  pub has_room : length (kept_spelling what) ≤ room_shown old → why ≢ Some (refusal_of JournalFull)
  has_room fits is = omega (arith, some_bytes what, (appends.full.0 is).1, ap length spelled, fits)

  unwritten_readings : (refusal : Refusal) → why ≡ Some refusal →
      new.journaled.state ≡ old.journaled.state → KeepsReadings old new
  unwritten_readings refusal some same = record {
    memory = record { pair = ap (λ a. a.pair) same; archive = ap agreed_archive same };
    left_is = appends.left_is ∙ ap (λ w. left_after w (left_shown old) (record_size payload)) some;
    generation = appends.generation;
  }

  pub writes : ((kept : model.Archive) → Stands old kept →
      KeepsBeforeOrAfter old kept what (disk.seen (disk_of new))) →
      (why ≡ None → HasRecord old new what) →
      ((refusal : Refusal) → why ≡ Some refusal → new.journaled.state ≡ old.journaled.state) →
      Writes old new (Some what) why
  writes seen has same = record {
    seen = seen;
    written = if_none_of why (HasRecord old new what) has;
    halted = appends.halted;
    halts = if_some_of why (λ w. w ≡ reason.Device → IsHalted new)
        (λ w some is. appends.halts (some ∙ ap (λ w. Some w) is));
    readings = if_some_of why (λ _. KeepsReadings old new)
        (λ w some. unwritten_readings w some (same w some));
    unchanged = if_some_of why (λ w. (w ≡ reason.Device) ⊎ (journal_of new ≡ journal_of old))
        (same_unless why (journal_of new ≡ journal_of old) appends.unchanged);
    device = appends.device;
  }

  module _ (update : Update) (none : why ≡ None)
      (state : new.journaled.state ≡ after_update old.journaled.state update)
      (keeps : Keeps (shown old) what (agreed_archive (after_update old.journaled.state update)))
    where
      pub written_shown : shown new ≡ after_kept (shown old) what
      written_shown = ap agreed_archive state ∙ keeps.gives

      pub written_record : HasRecord old new what
      written_record = record {
        pair = ap (λ a. a.pair) state;
        left_is = appends.left_is
            ∙ ap₂ (λ w p. left_after w (left_shown old) (record_size p)) none spelled;
        generation = appends.generation;
      }

      pub written_stands : RecordGoesOn → (kept : model.Archive) → Stands old kept →
          Stands new (after_kept kept what)
      written_stands goes_on kept stands = record {
        remembers = written_shown ∙ ap (λ a. after_kept a what) stands.remembers;
        value = with_payload stands.value payload;
        runs = appends.acknowledged none stands.value stands.runs;
        means =
            subst (λ n. ArchiveStandsFor n stands.value.image
            (with_payload stands.value payload).payloads (after_kept kept what))
            (sym (ap (λ a. a.pair) state))
            (payload_keeps goes_on (pair_of old) stands.value payload kept what stands.means
            (subst (λ a. CanKeep a what) stands.remembers keeps.can) spelled);
      }

-- ---- of a checkpoint

pub compacts : {D : Type 0} {disk : Ghosts D} (old new : Archive D disk) (why : Option Refusal) →
    MachineCompacts (journal_of old) (journal_of new) (archive_spelling (pair_of old) (shown old))
    why → new.journaled.state ≡ old.journaled.state →
    ((kept : model.Archive) → Stands old kept →
    KeepsOrCompacts old kept (disk.seen (disk_of new))) → Compacts old new why
compacts {disk = disk} old new why by_machine same seen = record {
  seen = seen;
  image = if_none_of why (journal.Stands (journal_of new)
      (image_alone (archive_spelling (pair_of old) (shown old)))) by_machine.acknowledged;
  generation = if_none_of why (generation_shown new ≡ generation_shown old + 1) (λ none.
      by_machine.generation ∙ ap (λ w. generation_after w (generation_shown old)) none);
  memory = memory;
  halted = by_machine.halted;
  halts = if_some_of why (λ w. w ≡ reason.Device → IsHalted new)
      (λ w some is. by_machine.halts (some ∙ ap (λ w. Some w) is));
  readings = if_some_of why (λ _. KeepsReadings old new) (λ w some. record {
    memory = memory;
    left_is = by_machine.left_is (λ none. none-some _ (sym none ∙ some));
    generation = by_machine.generation
        ∙ ap (λ w. generation_after w (generation_shown old)) some;
  });
  unchanged = if_some_of why (λ w. (w ≡ reason.Device) ⊎ (journal_of new ≡ journal_of old))
      (same_unless why (journal_of new ≡ journal_of old) by_machine.unchanged);
  device = by_machine.device;
}
  where
    memory : SameMemory old new
    memory = record { pair = ap (λ a. a.pair) same; archive = ap agreed_archive same }
