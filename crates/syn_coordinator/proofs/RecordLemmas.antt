-- What an archive answers of a record is what its machine does.
use Rattle.std.proofs.Common.{◌≡◌, ◌≢◌, ◌⊎◌, ◌<◌, ◌+◌, ◌-◌, ◌^◌, ◌||◌, ◌∙◌, ℕ, Bool, true, false}
use Rattle.std.proofs.Common.{nat_le, nat_lt, if◌then◌else◌, None, Some, Result, Ok, Err}
use Rattle.std.proofs.Common.{[], inl, inr, refl, sym, ap, subst, arith}
use Rattle.std.proofs.lemmas.Bool.Decides.{nat_tests}
use Rattle.std.proofs.lemmas.Option.{none-some, same_Some}
use Rattle.std.specs.Option.{option_or}
use Rattle.std.specs.Prelude.{◌↔◌, Option, IfErr, IfSome, IsErrAnd}
use Rattle.syn_archive.specs.Archive.{IsHalted, KeepsReadings, journal_of, left_shown, pair_of}
use Rattle.syn_archive.specs.Archive.{generation_shown, room_shown, shown}
use Rattle.syn_archive.specs.Calls.{Writes}
use Rattle.syn_archive.specs.Disks.{kept_size}
use Rattle.syn_archive.specs.Machines.{CompactsImage, IsMachine, Journal, KeepsRecord, Runs}
use Rattle.syn_archive.specs.Refusals.{IsOfCheckpoint, IsOfRecord, IsOutside, keep_refusal}
use Rattle.syn_archive.specs.Refusals.{refusal_of}
use Rattle.syn_archive.specs.Refusals.{room_refusal, to_write}
use Rattle.syn_archive.specs.declared.archive.Archive.{Archive}
use Rattle.syn_archive.specs.declared.error.ArchiveError.{ArchiveError}
use Rattle.syn_archive.specs.declared.error.ArchiveError.TheVariants as error
use Rattle.syn_archive.proofs.WriteLemmas.{some_bytes}
use Rattle.syn_disk.specs.declared.disk.Disk.{Ghosts}
use Rattle.syn_machine.specs.Coordinator.{archive_layout}
use Rattle.syn_machine.specs.Machine.{has_room}
use Rattle.syn_machine.specs.Session.{is_recorded}
use Rattle.syn_journal.specs.Endings.{CountsFailures, ended}
use Rattle.syn_model.specs.Archive as model
use Rattle.syn_model.specs.Archive.{IsLawfulKept, Kept, Recorded, RecordedDir, Session}
use Rattle.syn_model.specs.Archive.{kept_refusal, record_causes}
use Rattle.syn_model.specs.Limits.{greatest}
use Rattle.syn_model.specs.Path.{Path, is_root}
use Rattle.syn_model.specs.Refusal.{Refusal as Why, first_cause}
use Rattle.syn_model.specs.Refusal as why
use Rattle.syn_model.specs.Tree.{Tree, empty_directory, is_directory}
use Rattle.syn_refusal.specs.Refusals.{cause_of}
use Rattle.syn_refusal.specs.declared.refusal.Refusal.{Refusal}
use Rattle.syn_refusal.specs.declared.refusal.Refusal.TheVariants as refusal
use Rattle.syn_coordinator.specs.RecordOutcome.{CountsFailures as FailuresCount, IsAsItWas}
use Rattle.syn_coordinator.specs.RecordOutcome.{IsReady}
use Rattle.syn_coordinator.specs.declared.due.RecordOutcome.{RecordOutcome}
use Rattle.syn_coordinator.specs.declared.due.RecordOutcome.TheVariants.{Ends, Refused, Unsent}
use Rattle.syn_coordinator.specs.inner.Recording.{CountsFailuresIn, IsOutcomeOf, Leaves}
use Rattle.syn_coordinator.specs.inner.Recording.{Records, RefusesFor, breaks, is_halted}
use Rattle.syn_coordinator.specs.inner.Recording.{memory_refused, no_room, refuses, written}
use Rattle.syn_coordinator.specs.inner.Recording.{Checkpoints, IsUnmade, at_greatest, breaks_off}
use Rattle.syn_coordinator.specs.inner.Recording.{no_memory}
use Rattle.syn_coordinator.proofs.DueLemmas.{is_ready, room_is, was_in_doubt, was_kept}
use Rattle.syn_coordinator.proofs.DueLemmas.{was_refused}
use Rattle.syn_coordinator.proofs.DueLemmas.{is_greatest, not_greatest, not_halted, when_halted}
use Rattle.syn_coordinator.proofs.DueLemmas.{was_cut_short, was_not_compacted, when_runs}
use Rattle.syn_coordinator.proofs.OutcomeLemmas.{device_not_full, failed}
use Rattle.syn_coordinator.proofs.TriedLemmas.{room_left}

-- ---- what the marks are a cause of

module _ (P : Why → Type 0) (root : P why.Root) (no_parent : P why.NoParent) (full : P why.Full)
    (bad : P why.BadMessage) where
  first : (b : Bool) (cause : Why) (rest : Option Why) (w : Why) → P cause →
      (rest ≡ Some w → P w) → (if b then Some cause else rest) ≡ Some w → P w
  first true cause rest w holds later is = subst P (same_Some _ _ is) holds
  first false cause rest w holds later is = later is

  none : (w : Why) → None ≡ Some w → P w
  none w is = absurd (none-some _ is)

  of_record : (marks : Tree) (path : Path) (new : Tree) (w : Why) →
      first_cause (record_causes marks path new) ≡ Some w → P w
  of_record marks path new w =
      first _ why.Root _ w root (first _ why.NoParent _ w no_parent
      (first _ why.Full None w full (none w)))

  of_kept : (archive : model.Archive) (kept : Kept) (w : Why) →
      kept_refusal archive kept ≡ Some w → P w
  of_kept archive (Session session) w =
      first _ why.Full _ w full (first _ why.BadMessage None w bad (none w))
  of_kept archive (Recorded path marks) w = of_record archive.marks path marks w
  of_kept archive (RecordedDir path) w =
      first (is_root path) why.Root _ w root (of_dir (is_directory archive.marks path))
    where
      of_dir : (b : Bool) → first_cause
          (if b then [] else record_causes archive.marks path empty_directory) ≡ Some w → P w
      of_dir true = none w
      of_dir false = of_record archive.marks path empty_directory w

-- the marks are a cause of no other refusal, as 8, 9 and 11 are
never : (w : Why) → why.Root ≢ w → why.NoParent ≢ w → why.Full ≢ w → why.BadMessage ≢ w →
    (archive : model.Archive) (kept : Kept) → kept_refusal archive kept ≡ Some w → ⊥
never w root no_parent full bad archive kept is =
    of_kept (λ v. v ≢ w) root no_parent full bad archive kept w is refl

not_room : (archive : model.Archive) (kept : Kept) →
    kept_refusal archive kept ≡ Some why.JournalFull → ⊥
not_room = never why.JournalFull (λ is. cc) (λ is. cc) (λ is. cc) (λ is. cc)

not_device : (archive : model.Archive) (kept : Kept) →
    kept_refusal archive kept ≡ Some why.Device → ⊥
not_device = never why.Device (λ is. cc) (λ is. cc) (λ is. cc) (λ is. cc)

not_memory : (archive : model.Archive) (kept : Kept) →
    kept_refusal archive kept ≡ Some why.Memory → ⊥
not_memory = never why.Memory (λ is. cc) (λ is. cc) (λ is. cc) (λ is. cc)

-- ---- what the room is a cause of

if_none : (b : Bool) → (if b then Some why.JournalFull else None) ≡ None → b ≡ false
if_none true is = absurd (none-some _ (sym is))
if_none false is = refl

if_some : (b : Bool) (w : Why) → (if b then Some why.JournalFull else None) ≡ Some w → b ≡ true
if_some true w is = refl
if_some false w is = absurd (none-some _ is)

room_only : (room : ℕ) (what : Option Kept) (w : Why) → room_refusal room what ≡ Some w →
    w ≡ why.JournalFull
room_only room None w is = absurd (none-some _ is)
room_only room (Some kept) w is = by _ is
  where
    by : (b : Bool) → (if b then Some why.JournalFull else None) ≡ Some w → w ≡ why.JournalFull
    by true is = sym (same_Some _ _ is)
    by false is = absurd (none-some _ is)

module _ (room left : ℕ) (is : room ≡ left - 5) where
  fits : (size : ℕ) → 0 < size → nat_lt room size ≡ false → nat_le (5 + size) left ≡ true
  fits size some less = grind (arith, nat_tests)

  too_long : (size : ℕ) → nat_lt room size ≡ true → nat_le (5 + size) left ≡ false
  too_long size less = grind (arith, nat_tests)

  enough : (archive : model.Archive) (kept : Kept) →
      room_refusal room (to_write archive kept) ≡ None →
      (is_recorded archive kept || nat_le (kept_size kept) left) ≡ true
  enough archive (Session session) none = fits _ (some_bytes (Session session)) (if_none _ none)
  enough archive (Recorded path marks) none =
      fits _ (some_bytes (Recorded path marks)) (if_none _ none)
  enough archive (RecordedDir path) none = by (is_directory archive.marks path) none
    where
      by : (b : Bool) → room_refusal room (if b then None else Some (RecordedDir path)) ≡ None →
          (b || nat_le (kept_size (RecordedDir path)) left) ≡ true
      by true none = refl
      by false none = fits _ (some_bytes (RecordedDir path)) (if_none _ none)

  too_little : (archive : model.Archive) (kept : Kept) (w : Why) →
      room_refusal room (to_write archive kept) ≡ Some w →
      (is_recorded archive kept || nat_le (kept_size kept) left) ≡ false
  too_little archive (Session session) w some = too_long _ (if_some _ w some)
  too_little archive (Recorded path marks) w some = too_long _ (if_some _ w some)
  too_little archive (RecordedDir path) w some = by (is_directory archive.marks path) some
    where
      by : (b : Bool) → room_refusal room (if b then None else Some (RecordedDir path)) ≡ Some w →
          (b || nat_le (kept_size (RecordedDir path)) left) ≡ false
      by true some = absurd (none-some _ some)
      by false some = too_long _ (if_some _ w some)

-- ---- the first of both

of_both : (a b : Option Why) (w : Why) → option_or a b ≡ Some w →
    (a ≡ Some w) ⊎ ((a ≡ None) × (b ≡ Some w))
of_both None b w is = inr (refl, is)
of_both (Some v) b w is = inl is

of_neither : (a b : Option Why) → option_or a b ≡ None → (a ≡ None) × (b ≡ None)
of_neither None b is = (refl, is)
of_neither (Some v) b is = absurd (none-some _ (sym is))

none_of : (o : Option Why) → ((w : Why) → o ≡ Some w → ⊥) → o ≡ None
none_of None never = refl
none_of (Some w) never = absurd (never w refl)

halted_is : (w : Refusal) → cause_of w ≡ why.Halted → w ≡ refusal.Halted
halted_is refusal.Halted is = refl
halted_is _ is = cc

memory_is : (w : Refusal) → cause_of w ≡ why.Memory → w ≡ refusal.Memory
memory_is refusal.Memory is = refl
memory_is _ is = cc

-- no outcome is another
unsent_or_refused : (w : Refusal) → Unsent ≡ Refused w → ⊥
unsent_or_refused w is = cc

ends_or_refused : (v w : Refusal) → Ends v ≡ Refused w → ⊥
ends_or_refused v w is = cc

-- ---- what the archive answers

module _ {D : Type 0} {disk : Ghosts D} (old : Archive D disk) (kept : Kept) where
  abbrev Causes : Result (Unit {0}) ArchiveError → Type 0
  Causes result = IfErr result (λ e. IsOutside e
      ⊎ (keep_refusal (room_shown old) (shown old) kept ≡ Some (refusal_of e)))

  abbrev Refuses : Result (Unit {0}) ArchiveError → Type 0
  Refuses result = (w : Why) → ¬ IsHalted old →
      keep_refusal (room_shown old) (shown old) kept ≡ Some w →
      IsErrAnd result (λ e. refusal_of e ≡ w)

  abbrev marks_cause : Option Why
  marks_cause = kept_refusal (shown old) kept

  abbrev room_cause : Option Why
  room_cause = room_refusal (room_shown old) (to_write (shown old) kept)

  -- a refusal of the marks
  by_marks : (w : Why) → w ≢ why.JournalFull →
      keep_refusal (room_shown old) (shown old) kept ≡ Some w → marks_cause ≡ Some w
  by_marks w other is =
      elim (of_both marks_cause room_cause w is) as (λ _. marks_cause ≡ Some w) [
        | inl marks ↦ marks
        | inr room ↦ absurd
            (other (room_only (room_shown old) (to_write (shown old) kept) w room.1))
      ]

  -- and one of the room
  by_room : keep_refusal (room_shown old) (shown old) kept ≡ Some why.JournalFull →
      (marks_cause ≡ None) × (room_cause ≡ Some why.JournalFull)
  by_room is =
      elim (of_both marks_cause room_cause why.JournalFull is) as
      (λ _. (marks_cause ≡ None) × (room_cause ≡ Some why.JournalFull)) [
        | inl marks ↦ absurd (not_room (shown old) kept marks)
        | inr room ↦ room
      ]

  -- where the answer is no cause of its own, each cause was looked at before it
  without_cause : (e : ArchiveError) → refusal_of e ≢ why.JournalFull →
      (marks_cause ≡ Some (refusal_of e) → ⊥) → Refuses (Err e) → ¬ IsHalted old →
      keep_refusal (room_shown old) (shown old) kept ≡ None
  without_cause e other never refuse runs =
      none_of _ (λ w some. never (by_marks (refusal_of e) other
      (some ∙ ap (λ v. Some v) (sym (refuse w runs some)))))

  -- and where it is one, it is the cause
  cause_given : (e : ArchiveError) → (IsOutside e → ⊥) → Causes (Err e) →
      keep_refusal (room_shown old) (shown old) kept ≡ Some (refusal_of e)
  cause_given e inside (inl outside) = absurd (inside outside)
  cause_given e inside (inr cause) = cause

module _ {D : Type 0} {disk : Ghosts D} (old new : Archive D disk) (kept : Kept) where
  -- ---- what it is to the machine

  module _ (pair : ℕ) (machine : Journal) (is : IsMachine old pair machine)
      (lawful : IsLawfulKept kept) where
    nothing_refuses : Runs old machine →
        keep_refusal (room_shown old) (shown old) kept ≡ None →
        IsReady machine kept × (has_room (archive_layout pair) machine kept ≡ true)
    nothing_refuses was none =
        let both = of_neither (marks_cause old kept) (room_cause old kept) none in (
          is_ready old pair machine is kept was lawful both.0,
          sym (room_is old pair machine is kept was)
              ∙ enough (room_shown old) (left_shown old) (room_left old) (shown old) kept both.1,
        )

    running : (w : Option Why) → ((w ≡ Some why.Halted) ↔ IsHalted old) → w ≢ Some why.Halted →
        ¬ IsHalted old
    running w halted other h = other (halted.1 h)

    refused_so : (e : ArchiveError) → refusal_of e ≢ why.JournalFull → refusal_of e ≢ why.Device →
        Some (refusal_of e) ≢ Some why.Halted →
        keep_refusal (room_shown old) (shown old) kept ≡ Some (refusal_of e) →
        ((Some (refusal_of e) ≡ Some why.Halted) ↔ IsHalted old) →
        KeepsRecord new pair machine kept (Some (refusal_of e)) →
        (due : Option RecordOutcome) → RefusesFor e due → Records new pair machine kept due
    refused_so e room device other cause halted world due for =
        let was = when_runs old pair machine is
        (running (Some (refusal_of e)) halted other) in
        subst (Records new pair machine kept) (sym for.1)
        (refuses for.0 was.up (ap (λ a. kept_refusal a kept) (sym is.remembers)
        ∙ (by_marks old kept (refusal_of e) room cause ∙ ap (λ w. Some w) (sym for.2)))
        (was_refused new pair machine kept (refusal_of e) device world))

    pub records : (result : Result (Unit {0}) ArchiveError) → Refuses old kept result →
        Causes old kept result → IfErr result IsOfRecord →
        ((ended refusal_of result ≡ Some why.Halted) ↔ IsHalted old) →
        KeepsRecord new pair machine kept (ended refusal_of result) →
        (due : Option RecordOutcome) → IsOutcomeOf result due → Records new pair machine kept due
    records (Ok x) refuse causes refusals halted world due for =
        let runs = running None halted (λ e. cc) in
        let both = nothing_refuses (when_runs old pair machine is runs)
        (none_of _ (λ w some. refuse w runs some)) in
        subst (Records new pair machine kept) (sym for)
        (written both.0 both.1 (was_kept new pair machine kept world))
    records (Err error.Device) refuse causes refusals halted world due for =
        let runs = running (Some why.Device) halted (λ e. cc) in
        let both = nothing_refuses (when_runs old pair machine is runs)
        (without_cause old kept error.Device (λ e. cc) (not_device (shown old) kept) refuse runs) in
        subst (Records new pair machine kept) (sym for)
        (breaks both.0 both.1 (was_in_doubt new pair machine kept world))
    records (Err error.JournalFull) refuse causes refusals halted world due for =
        let was = when_runs old pair machine is
        (running (Some why.JournalFull) halted (λ e. cc)) in
        let room = by_room old kept
        (cause_given old kept error.JournalFull (λ none. none) causes) in
        subst (Records new pair machine kept) (sym for)
        (no_room (is_ready old pair machine is kept was lawful room.0)
        (sym (room_is old pair machine is kept was) ∙ too_little (room_shown old)
        (left_shown old) (room_left old) (shown old) kept why.JournalFull room.1)
        (was_refused new pair machine kept why.JournalFull (λ e. cc) world))
    records (Err error.NoParent) refuse causes refusals halted world due for =
        refused_so error.NoParent (λ e. cc) (λ e. cc) (λ e. cc)
        (cause_given old kept error.NoParent (λ none. none) causes) halted world due for
    records (Err error.Root) refuse causes refusals halted world due for =
        refused_so error.Root (λ e. cc) (λ e. cc) (λ e. cc)
        (cause_given old kept error.Root (λ none. none) causes) halted world due for
    records (Err error.Full) refuse causes refusals halted world due for =
        refused_so error.Full (λ e. cc) (λ e. cc) (λ e. cc)
        (cause_given old kept error.Full (λ none. none) causes) halted world due for
    records (Err error.Halted) refuse causes refusals halted world due for =
        subst (Records new pair machine kept)
        (sym (for.1 ∙ ap (λ w. Some (Ends w)) (halted_is for.0 for.2)))
        (is_halted (when_halted old pair machine is (halted.0 refl))
        (was_refused new pair machine kept why.Halted (λ e. cc) world))
    records (Err error.Memory) refuse causes refusals halted world due for =
        let runs = running (Some why.Memory) halted (λ e. cc) in
        let both = nothing_refuses (when_runs old pair machine is runs)
        (without_cause old kept error.Memory (λ e. cc) (not_memory (shown old) kept) refuse runs) in
        subst (Records new pair machine kept)
        (sym (for.1 ∙ ap (λ w. Some (Ends w)) (memory_is for.0 for.2)))
        (memory_refused both.0 both.1
        (was_refused new pair machine kept why.Memory (λ e. cc) world))
    records (Err _) refuse causes refusals halted world due for = absurd refusals

  -- ---- what it leaves

  still : (w : Why) → w ≢ why.Device → (w ≡ why.Device) ⊎ (journal_of new ≡ journal_of old) →
      KeepsReadings old new → IsAsItWas old new
  still w other unchanged readings = record {
    memory = readings.memory;
    journal = elim unchanged as (λ _. journal_of new ≡ journal_of old)
        [ inl device ↦ absurd (other device) | inr same ↦ same ];
  }

  refused_leaves : (e : ArchiveError) → refusal_of e ≢ why.JournalFull →
      refusal_of e ≢ why.Device →
      keep_refusal (room_shown old) (shown old) kept ≡ Some (refusal_of e) →
      (refusal_of e ≡ why.Device) ⊎ (journal_of new ≡ journal_of old) → KeepsReadings old new →
      (due : Option RecordOutcome) → RefusesFor e due → Leaves old new kept due
  refused_leaves e room device cause unchanged readings due for =
      subst (Leaves old new kept) (sym for.1) (
        still (refusal_of e) device unchanged readings,
        by_marks old kept (refusal_of e) room cause ∙ ap (λ w. Some w) (sym for.2),
      )

  pub leaves : (result : Result (Unit {0}) ArchiveError) → Causes old kept result →
      IfSome (ended refusal_of result)
      (λ w. (w ≡ why.Device) ⊎ (journal_of new ≡ journal_of old)) →
      IfSome (ended refusal_of result) (λ _. KeepsReadings old new) →
      (due : Option RecordOutcome) → IsOutcomeOf result due → Leaves old new kept due
  leaves (Ok x) causes unchanged readings due for =
      subst (Leaves old new kept) (sym for) tt
  leaves (Err error.Device) causes unchanged readings due for =
      subst (Leaves old new kept) (sym for) tt
  leaves (Err error.JournalFull) causes unchanged readings due for =
      subst (Leaves old new kept) (sym for) (
        still why.JournalFull (λ e. cc) unchanged readings,
        (by_room old kept (cause_given old kept error.JournalFull (λ none. none) causes)).0,
      )
  leaves (Err error.NoParent) causes unchanged readings due for =
      refused_leaves error.NoParent (λ e. cc) (λ e. cc)
      (cause_given old kept error.NoParent (λ none. none) causes) unchanged readings due for
  leaves (Err error.Root) causes unchanged readings due for =
      refused_leaves error.Root (λ e. cc) (λ e. cc)
      (cause_given old kept error.Root (λ none. none) causes) unchanged readings due for
  leaves (Err error.Full) causes unchanged readings due for =
      refused_leaves error.Full (λ e. cc) (λ e. cc)
      (cause_given old kept error.Full (λ none. none) causes) unchanged readings due for
  leaves (Err _) causes unchanged readings due for =
      subst (Leaves old new kept) (sym for.1) tt

  pub pair_stays : (what : Option Kept) (w : Option Why) → Writes old new what w →
      pair_of new ≡ pair_of old
  pair_stays None None writes = ap (λ archive. pair_of archive) writes.written
  pair_stays (Some kept) None writes = writes.written.pair
  pair_stays what (Some w) writes = writes.readings.memory.pair

-- ---- a checkpoint for it that is not made

module _ {D : Type 0} {disk : Ghosts D} (old new : Archive D disk) where
  pub unmade : (pair : ℕ) (machine : Journal) → IsMachine old pair machine →
      Runs old machine → generation_shown old < 2 ^ 64 → (e : ArchiveError) → IsOfCheckpoint e →
      ((Some (refusal_of e) ≡ Some why.Halted) ↔ IsHalted old) →
      ((failed (Unit {0}) e ≡ failed (Unit {0}) error.Full)
      ↔ (generation_shown old + 1 ≡ 2 ^ 64)) →
      CompactsImage new pair machine (Some (refusal_of e)) → (due : RecordOutcome) →
      IsUnmade e due → Checkpoints new pair machine (Err due)
  unmade pair machine is was less error.Full one halted last world due for =
      subst (λ d. Checkpoints new pair machine (Err d)) (sym for)
      (at_greatest (ap (nat_le greatest) (sym was.generation) ∙ is_greatest _ (last.0 refl))
      (was_not_compacted new pair machine why.Full (λ e. cc) world))
  unmade pair machine is was less error.Device one halted last world due for =
      subst (λ d. Checkpoints new pair machine (Err d)) (sym for)
      (breaks_off (not_greatest old new pair machine is less was
      (λ e. device_not_full (Unit {0}) error.Device refl (last.1 e)))
      (was_cut_short new pair machine world))
  unmade pair machine is was less error.Halted one halted last world due for =
      absurd (not_halted old pair machine is was (halted.0 refl))
  unmade pair machine is was less error.Memory one halted last world due for =
      subst (λ d. Checkpoints new pair machine (Err d))
      (sym (for.1 ∙ ap (λ w. Ends w) (memory_is for.0 for.2)))
      (no_memory (was_not_compacted new pair machine why.Memory (λ e. cc) world))
  unmade pair machine is was less _ one halted last world due for = absurd one

  pub unmade_leaves : (e : ArchiveError) →
      (refusal_of e ≡ why.Device) ⊎ (journal_of new ≡ journal_of old) →
      KeepsReadings old new → (due : RecordOutcome) → IsUnmade e due → (w : Refusal) →
      due ≡ Refused w → IsAsItWas old new
  unmade_leaves error.Full unchanged readings due for w is =
      still old new (RecordedDir []) why.Full (λ e. cc) unchanged readings
  unmade_leaves error.Device unchanged readings due for w is =
      absurd (unsent_or_refused w (sym for ∙ is))
  unmade_leaves _ unchanged readings due for w is =
      absurd (ends_or_refused for.0 w (sym for.1 ∙ is))

pub unmade_counts : (e : ArchiveError) (old new : ℕ) →
    CountsFailures (Some (refusal_of e)) old new → (due : RecordOutcome) → IsUnmade e due →
    FailuresCount due old new
unmade_counts error.Full old new count due for =
    subst (λ d. FailuresCount d old new) (sym for) count
unmade_counts error.Device old new count due for =
    subst (λ d. FailuresCount d old new) (sym for) count
unmade_counts _ old new count due for =
    subst (λ d. FailuresCount d old new) (sym for.1) count

-- ---- what is counted

pub counts : (result : Result (Unit {0}) ArchiveError) (old new : ℕ) →
    CountsFailures (ended refusal_of result) old new → (due : Option RecordOutcome) →
    IsOutcomeOf result due → CountsFailuresIn due old new
counts (Ok x) old new count due for = subst (λ d. CountsFailuresIn d old new) (sym for) count
counts (Err error.Device) old new count due for =
    subst (λ d. CountsFailuresIn d old new) (sym for) count
counts (Err error.JournalFull) old new count due for =
    subst (λ d. CountsFailuresIn d old new) (sym for) count
counts (Err _) old new count due for =
    subst (λ d. CountsFailuresIn d old new) (sym for.1) count
