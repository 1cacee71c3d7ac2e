-- Why it is not kept, and what it says of a refusal that nothing was prepared.
use Rattle.std.proofs.Common.{◌≡◌, ◌≢◌, ◌⊎◌, ◌<◌, ◌≤◌, ◌∙◌, ℕ, length, nat_lt, true, false}
use Rattle.std.proofs.Common.{true≢false, if◌then◌else◌, inl, inr, refl, sym, ap, subst, Some, None}
use Rattle.std.proofs.Common.{arith}
use Rattle.std.proofs.lemmas.Bool.Decides.{nat_tests}
use Rattle.std.proofs.lemmas.Option.{none-some, same_Some}
use Rattle.std.specs.Option.{option_or}
use Rattle.std.specs.Prelude.{◌↔◌, Option}
use Rattle.syn_disk.specs.Calls.{Makes}
use Rattle.syn_disk.specs.declared.disk.Disk.{Ghosts}
use Rattle.syn_journal.specs.Endings.{BreaksIf, Grows, is_device}
use Rattle.syn_model.specs.Refusal.{Refusal}
use Rattle.syn_model.specs.Refusal as why
use Rattle.syn_model.specs.Archive as model
use Rattle.syn_model.specs.Archive.{Kept, RecordedDir, kept_refusal}
use Rattle.syn_model.specs.MarkSpelling.{kept_spelling}
use Rattle.syn_archive.specs.Archive.{IsHalted, Stands, disk_of, room_shown, shown}
use Rattle.syn_archive.specs.Refusals.{IsOfRecord, IsOutside, keep_refusal, refusal_of}
use Rattle.syn_archive.specs.Refusals.{room_refusal, to_write}
use Rattle.syn_archive.specs.Calls.{KeepsWritten, Writes, calls_for}
use Rattle.syn_archive.specs.inner.Keepings.{IsNews, NotPrepared, is_inner, kept_in, not_running}
use Rattle.syn_archive.specs.inner.Keepings.{no_memory, refused}
use Rattle.syn_archive.specs.declared.archive.Archive.{Archive}
use Rattle.syn_archive.specs.declared.error.ArchiveError.{ArchiveError}
use Rattle.syn_archive.specs.declared.error.ArchiveError.TheVariants.{NoParent, Root, Full}
use Rattle.syn_archive.specs.declared.error.ArchiveError.TheVariants.{JournalFull, Halted, Memory}
use Rattle.syn_archive.specs.declared.new_record.NewRecord.{NewRecord}
use Rattle.syn_archive.specs.declared.new_record.NewRecord.TheVariants as added
use Rattle.syn_archive.proofs.EndLemmas.{same_error}
use Rattle.syn_archive.proofs.StandLemmas.{keeps_now}

-- ---- why it is not kept

-- what is news has to be written
news : (archive : model.Archive) (last : ℕ) (what : NewRecord) → IsNews archive what →
    to_write archive (kept_in last what) ≡ Some (kept_in last what)
news archive last added.Session is = refl
news archive last (added.Record path marks) is = refl
news archive last (added.Dir path) is =
    ap (λ b. if b then None else Some (RecordedDir path.now)) is

pub marks_refuse : (room : ℕ) (archive : model.Archive) (kept : Kept) (w : Refusal) →
    kept_refusal archive kept ≡ Some w → keep_refusal room archive kept ≡ Some w
marks_refuse room archive kept w is =
    ap (λ o. option_or o (room_refusal room (to_write archive kept))) is

module _ (room : ℕ) (archive : model.Archive) (last : ℕ) (what : NewRecord)
    (is : IsNews archive what) (allowed : kept_refusal archive (kept_in last what) ≡ None) where
  by_room : keep_refusal room archive (kept_in last what)
      ≡ room_refusal room (Some (kept_in last what))
  by_room =
      ap (λ o. option_or o (room_refusal room (to_write archive (kept_in last what)))) allowed
      ∙ ap (room_refusal room) (news archive last what is)

  too_long : (n : ℕ) → room < n → nat_lt room n ≡ true
  too_long n less = grind (arith, nat_tests)

  not_longer : (n : ℕ) → n ≤ room → nat_lt room n ≡ false
  not_longer n fits = grind (arith, nat_tests)

  pub room_refuses : room < length (kept_spelling (kept_in last what)) →
      keep_refusal room archive (kept_in last what) ≡ Some why.JournalFull
  room_refuses less =
      by_room ∙ ap (λ b. if b then Some why.JournalFull else None) (too_long _ less)

  pub none_refuses : length (kept_spelling (kept_in last what)) ≤ room →
      keep_refusal room archive (kept_in last what) ≡ None
  none_refuses fits =
      by_room ∙ ap (λ b. if b then Some why.JournalFull else None) (not_longer _ fits)

-- ---- nothing was written

module _ {D : Type 0} {disk : Ghosts D} (archive : Archive D disk) where
  kept_still : (what : Option Kept) (kept : model.Archive) → Stands archive kept →
      KeepsWritten archive kept what (disk.seen (disk_of archive))
  kept_still None kept stands = keeps_now archive kept stands
  kept_still (Some what) kept stands = inl (keeps_now archive kept stands)

  pub nothing_written : (what : Option Kept) (w : Refusal) → is_device w ≡ false →
      ((w ≡ why.Halted) ↔ IsHalted archive) → Writes archive archive what (Some w)
  nothing_written what w other halted = record {
    seen = kept_still what;
    written = tt;
    halted = (λ is. halted.0 (same_Some _ _ is), λ h. ap (λ w. Some w) (halted.1 h));
    halts = λ is. absurd (true≢false (sym (ap is_device is) ∙ other));
    readings = record {
      memory = record { pair = refl; archive = refl };
      left_is = refl;
      generation = refl;
    };
    unchanged = inr refl;
    device = record {
      failures = subst (λ b. Grows b (disk.failures (disk_of archive))
          (disk.failures (disk_of archive))) (sym other) refl;
      arms = subst (λ b. BreaksIf b (calls_for what) (disk.arms (disk_of archive))
          (disk.arms (disk_of archive))) (sym other) refl;
    };
  }

  -- and there was nothing to write
  pub nothing_to_write : ¬ IsHalted archive → Writes archive archive None None
  unfolding Makes
  nothing_to_write running = record {
    seen = kept_still None;
    written = refl;
    halted = (λ is. absurd (none-some _ is), λ h. absurd (running h));
    halts = tt;
    readings = tt;
    unchanged = tt;
    device = record { failures = refl; arms = refl };
  }

-- ---- nothing was prepared

-- what holds of each refusal of the marks and of the room
inner_is : (P : ArchiveError → Type 0) → P NoParent → P Root → P Full → P JournalFull →
    P Memory → (e : ArchiveError) → is_inner e ≡ true → P e
inner_is P parent root full room memory NoParent inner = parent
inner_is P parent root full room memory Root inner = root
inner_is P parent root full room memory Full inner = full
inner_is P parent root full room memory JournalFull inner = room
inner_is P parent root full room memory Memory inner = memory
inner_is P parent root full room memory _ inner = absurd (true≢false (sym inner))

module _ {halted : Type 0} {room : ℕ} {archive : model.Archive} {kept : Kept} where
  pub is_why : {e : ArchiveError} → NotPrepared halted room archive kept e → (why : Refusal) →
      ¬ halted → keep_refusal room archive kept ≡ Some why → refusal_of e ≡ why
  is_why (not_running h) why running some = absurd (running h)
  is_why (refused e run cause inner) why running some = same_Some _ _ (sym cause ∙ some)
  is_why (no_memory run none) why running some = absurd (none-some _ (sym none ∙ some))

  pub has_cause : {e : ArchiveError} → NotPrepared halted room archive kept e →
      IsOutside e ⊎ (keep_refusal room archive kept ≡ Some (refusal_of e))
  has_cause (not_running h) = inl tt
  has_cause (refused e run cause inner) = inr cause
  has_cause (no_memory run none) = inl tt

  pub no_device : {e : ArchiveError} → NotPrepared halted room archive kept e →
      refusal_of e ≢ why.Device
  no_device (not_running h) = λ is. cc
  no_device (refused e run cause inner) =
      inner_is (λ e. refusal_of e ≢ why.Device) (λ is. cc) (λ is. cc) (λ is. cc) (λ is. cc)
      (λ is. cc) e inner
  no_device (no_memory run none) = λ is. cc

  pub of_record : {e : ArchiveError} → NotPrepared halted room archive kept e → IsOfRecord e
  of_record (not_running h) = tt
  of_record (refused e run cause inner) = inner_is IsOfRecord tt tt tt tt tt e inner
  of_record (no_memory run none) = tt

module _ {D : Type 0} {disk : Ghosts D} (archive : Archive D disk) (kept : Kept) where
  pub not_prepared : {e : ArchiveError} →
      NotPrepared (IsHalted archive) (room_shown archive) (shown archive) kept e →
      Writes archive archive (Some kept) (Some (refusal_of e))
  not_prepared (not_running h) =
      nothing_written archive (Some kept) why.Halted refl (λ _. h, λ _. refl)
  not_prepared (refused e run cause inner) =
      nothing_written archive (Some kept) (refusal_of e)
      (inner_is (λ e. is_device (refusal_of e) ≡ false) refl refl refl refl refl e inner) (
        λ is. absurd (true≢false (sym inner ∙ ap is_inner (same_error e Halted is))),
        λ h. absurd (run h),
      )
  not_prepared (no_memory run none) =
      nothing_written archive (Some kept) why.Memory refl (λ is. cc, λ h. absurd (run h))
