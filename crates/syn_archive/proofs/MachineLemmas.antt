-- A call of an archive is what its machine does, as the machine of its state says it.
use Rattle.std.proofs.Common.{◌≡◌, ◌⊎◌, ◌∙◌, ℕ, true, false, if◌then◌else◌, [], ◌∷◌, Option}
use Rattle.std.proofs.Common.{Some, None, refl, sym, ap, subst, inl, inr}
use Rattle.std.proofs.lemmas.Option.{none-some}
use Rattle.syn_disk.specs.declared.disk.Disk.{Ghosts}
use Rattle.syn_machine.specs.Coordinator.{archive_layout, cut_after, writes}
use Rattle.syn_machine.specs.Machine.{Status, Up, Halted, Down, after_device, compacted, cut, idle}
use Rattle.syn_machine.specs.Machine.{not_compacted, unarmed, unwritten, with_image, with_record}
use Rattle.syn_machine.specs.Machine.{written}
use Rattle.syn_journal.specs.Machines as machine
use Rattle.syn_journal.specs.Machines.{WritesImage, WritesRecord}
use Rattle.syn_model.specs.Archive as model
use Rattle.syn_model.specs.Archive.{Kept, RecordedDir, after_kept}
use Rattle.syn_model.specs.ArchiveImage.{ArchiveStandsFor}
use Rattle.syn_model.specs.Path.{Path}
use Rattle.syn_model.specs.Refusal as why
use Rattle.syn_model.specs.Refusal.{Refusal, Device}
use Rattle.syn_model.specs.Tree.{empty_directory, is_directory, replace}
use Rattle.syn_archive.specs.Archive.{IsHalted, KeepsReadings}
use Rattle.syn_archive.specs.Archive.{marks_shown, pair_of}
use Rattle.syn_archive.specs.Calls.{Compacts, Writes}
use Rattle.syn_archive.specs.Machines.{CompactsImage, Fails, IsDown, IsMachine, IsShown, Journal}
use Rattle.syn_archive.specs.Machines.{KeepsRecord, ReadsDisk, Runs, breaks, breaks_off, compacts}
use Rattle.syn_archive.specs.Machines.{failed_reading, keeps, moves_down, moves_on, read, refuses}
use Rattle.syn_archive.specs.Machines.{Starts, stays, stopped_reading, unread}
use Rattle.syn_archive.specs.declared.archive.Archive.{Archive}
use Rattle.syn_archive.specs.declared.new_record.NewRecord.{NewRecord}
use Rattle.syn_archive.specs.declared.new_record.NewRecord.TheVariants as added
use Rattle.syn_archive.specs.inner.Agreements.{kept_as}
use Rattle.syn_archive.specs.inner.Keepings.{IsNews, kept_in}
use Rattle.syn_archive.proofs.StandLemmas.{left_behind}

-- ---- the archive is the machine of its state, and back

module _ {D : Type 0} {disk : Ghosts D} (archive : Archive D disk) (pair : ℕ) (now : Journal) where
  runs_as : pair_of archive ≡ pair → Runs archive now →
      machine.Runs (kept_as pair) archive.journaled now
  runs_as same was = record {
    value = was.stands.value;
    runs = was.stands.runs;
    means = record {
      stands = subst (λ n. ArchiveStandsFor n was.stands.value.image was.stands.value.payloads
          now.value) same was.stands.means;
      room = sym was.room ∙ sym (left_behind archive was.stands.value was.stands.runs);
      numbered = sym was.generation;
    };
  }

  pub as_machine : IsMachine archive pair now →
      machine.IsMachine (kept_as pair) archive.journaled now
  as_machine is = record {
    remembers = record { pair_is = is.pair_is; archive_is = is.remembers };
    stands = by is.state;
    armed = sym is.armed;
    goes = is.goes;
    leaves = is.leaves;
  }
    where
      by : Runs archive now ⊎ Fails archive now →
          machine.StandsAs (kept_as pair) archive.journaled now now.status
      by (inl was) =
          subst (machine.StandsAs (kept_as pair) archive.journaled now) (sym was.up)
          (runs_as is.pair_is was)
      by (inr fails) =
          subst (machine.StandsAs (kept_as pair) archive.journaled now) (sym fails.halted)
          fails.is_halted

  pub of_machine : (now.status ≡ Up → (now.writing ≡ None) × (now.compacting ≡ false)) →
      machine.IsMachine (kept_as pair) archive.journaled now → IsMachine archive pair now
  of_machine settled is = record {
    pair_is = is.remembers.pair_is;
    remembers = is.remembers.archive_is;
    armed = sym is.armed;
    goes = is.goes;
    state = by now.status refl is.stands;
    leaves = is.leaves;
  }
    where
      by : (status : Status) → now.status ≡ status →
          machine.StandsAs (kept_as pair) archive.journaled now status →
          Runs archive now ⊎ Fails archive now
      by Up up was =
          inl (record {
            up = up;
            stands = record {
              remembers = is.remembers.archive_is;
              value = was.value;
              runs = was.runs;
              means =
                  subst (λ n. ArchiveStandsFor n was.value.image was.value.payloads now.value)
                  (sym is.remembers.pair_is) was.means.stands;
            };
            room = sym (left_behind archive was.value was.runs) ∙ sym was.means.room;
            generation = sym was.means.numbered;
            idle = (settled up).0;
            settled = (settled up).1;
          })
      by Halted halted is_halted = inr (record { halted = halted; is_halted = is_halted })
      by Down down none = absurd none

  -- the machine that runs
  pub when_runs : (IsHalted archive → ⊥) → IsMachine archive pair now → Runs archive now
  when_runs running is =
      elim is.state as (λ _. Runs archive now)
      [ inl was ↦ was | inr fails ↦ absurd (running fails.is_halted) ]

  when_up : now.status ≡ Up → IsMachine archive pair now → Runs archive now
  when_up up is =
      elim is.state as (λ _. Runs archive now)
      [ inl was ↦ was | inr fails ↦ absurd (up_or_halted (sym up ∙ fails.halted)) ]
    where
      up_or_halted : Up ≡ Halted → ⊥
      up_or_halted e = cc

-- ---- what each call is to it

-- it is writing nothing
shows_none : {D : Type 0} {disk : Ghosts D} (archive : Archive D disk) (next : Journal) →
    next.writing ≡ None → IsShown archive next
shows_none archive next none =
    record { exactly = λ what writing. absurd (none-some _ (sym none ∙ writing)) }

not_up : Halted ≡ Up → ⊥
not_up e = cc

device_no_halt : Some Device ≡ Some why.Halted → ⊥
device_no_halt e = cc

module _ {D : Type 0} {disk : Ghosts D} (old new : Archive D disk) (pair : ℕ) (machine_is : Journal)
    (is : IsMachine old pair machine_is) where
  still_settled : machine_is.status ≡ Up →
      (machine_is.writing ≡ None) × (machine_is.compacting ≡ false)
  still_settled up =
      let was = when_up old pair machine_is up is in (was.idle, was.settled)

  -- it is halted, and runs no more
  not_running : (next : Journal) → next.status ≡ Halted → next.status ≡ Up →
      (next.writing ≡ None) × (next.compacting ≡ false)
  not_running next halted up = absurd (not_up (sym halted ∙ up))

  -- its journal shows what it showed
  shows_still : Runs old machine_is → KeepsReadings old new → (next : Journal) →
      next.room ≡ machine_is.room → next.generation ≡ machine_is.generation → IsShown new next
  shows_still was readings next room generation = record {
    exactly = λ what writing. (
      readings.left_is ∙ (was.room ∙ sym room),
      readings.generation ∙ (was.generation ∙ sym generation),
    );
  }

  module _ (kept : Kept)
      (not_idle : (archive_layout pair).is_idle machine_is.value kept ≡ false) where
    pub keeps_record : (ended : Option Refusal) → Writes old new (Some kept) ended →
        WritesRecord (kept_as pair) new.journaled machine_is kept ended →
        KeepsRecord new pair machine_is kept ended
    keeps_record ended told (machine.written arms meets it) =
        let was = when_runs old pair machine_is (λ h. none-some _ (told.halted.1 h)) is in
        let next = with_record (archive_layout pair) machine_is kept arms in
        let now = of_machine new pair next (λ _. (was.idle, was.settled)) it in
        keeps (moves_on next (
          writes next (kept ∷ []) (written arms not_idle meets),
          shows_none new next was.idle,
        ) was.up now)
    keeps_record ended told (machine.stopped_after meets stop before it) =
        let was = when_runs old pair machine_is (λ h. none-some _ (told.halted.1 h)) is in
        let next = cut (with_record (archive_layout pair) machine_is kept unarmed) in
        keeps (moves_down next (
          cut_after not_idle before stop,
          shows_none new next was.idle,
        ) it.stopped it.down it.leaves)
    keeps_record ended told (machine.failed arms meets it) =
        let was = when_runs old pair machine_is (λ h. device_no_halt (told.halted.1 h)) is in
        let next = machine.writing machine_is kept Halted arms 1 in
        breaks (moves_on next (
          writes next [] (unwritten Halted arms 1 not_idle (inl refl) meets),
          shows_still was told.readings next refl refl,
        ) refl (of_machine new pair next (not_running next refl) it))
    keeps_record ended told (machine.stopped meets it) =
        let was = when_runs old pair machine_is (λ h. device_no_halt (told.halted.1 h)) is in
        let next = machine.writing machine_is kept Down unarmed 0 in
        breaks (moves_down next (
          writes next [] (unwritten Down unarmed 0 not_idle (inr refl) meets),
          shows_still was told.readings next refl refl,
        ) it.stopped it.down it.leaves)
    keeps_record ended told (machine.refused refusal other it) =
        refuses refusal other (of_machine new pair machine_is still_settled it)

  pub compacts_image : (ended : Option Refusal) → Compacts old new ended →
      WritesImage (kept_as pair) new.journaled machine_is ended →
      CompactsImage new pair machine_is ended
  compacts_image ended told (machine.image_written arms meets it) =
      let was = when_runs old pair machine_is (λ h. none-some _ (told.halted.1 h)) is in
      let next = with_image (archive_layout pair) machine_is arms in
      compacts (moves_on next (compacted arms meets) was.up
      (of_machine new pair next (λ _. (was.idle, was.settled)) it))
  compacts_image ended told (machine.stopped_after_image meets room generation it) =
      compacts (moves_down (machine.compacting machine_is Down unarmed 0)
      (not_compacted Down unarmed 0 (inr refl) meets) it.stopped it.down it.leaves)
  compacts_image ended told (machine.image_failed arms meets it) =
      let next = machine.compacting machine_is Halted arms 1 in
      breaks_off (moves_on next (not_compacted Halted arms 1 (inl refl) meets) refl
      (of_machine new pair next (not_running next refl) it))
  compacts_image ended told (machine.image_stopped meets it) =
      breaks_off (moves_down (machine.compacting machine_is Down unarmed 0)
      (not_compacted Down unarmed 0 (inr refl) meets) it.stopped it.down it.leaves)
  compacts_image ended told (machine.image_refused refusal other it) =
      stays refusal other (of_machine new pair machine_is still_settled it)

  down_now : (next : Journal) → machine.IsDown (kept_as pair) new.journaled next →
      IsDown new pair next
  down_now next it = record { down = it.down; stopped = it.stopped; leaves = it.leaves }

  pub reads_disk : (ended : Option Refusal) →
      machine.ReadsDisk (kept_as pair) new.journaled machine_is ended →
      ReadsDisk new pair machine_is ended
  reads_disk ended (machine.read calls next added some opens opened it) =
      read calls next added some opens opened.up
      (of_machine new pair next (λ _. (opened.idle, opened.settled)) it)
  reads_disk ended (machine.stopped_reading reason calls meets it) =
      stopped_reading reason calls meets (down_now (after_device machine_is Down unarmed 0) it)
  reads_disk ended (machine.failed_reading calls arms meets it) =
      let next = after_device machine_is Halted arms 1 in
      failed_reading calls arms meets (of_machine new pair next (not_running next refl) it)
  reads_disk ended (machine.unread calls arms some meets it) =
      unread calls arms some meets
      (of_machine new pair (after_device machine_is machine_is.status arms 0) still_settled it)

pub starts : {D : Type 0} {disk : Ghosts D} (new : Archive D disk) (pair : ℕ) (before : Journal) →
    machine.Starts (kept_as pair) new.journaled before → Starts new pair before
starts new pair before it =
    let now = of_machine new pair it.next (λ _. (it.opened.idle, it.opened.settled)) it.is in
    record {
      calls = it.calls;
      next = it.next;
      added = it.added;
      opens = it.opens;
      is = now;
      runs = when_up new pair it.next it.opened.up now;
    }

-- ---- nothing was written

-- a directory that is recorded already changes nothing of what is kept
pub left_alone : {D : Type 0} {disk : Ghosts D} (archive : Archive D disk) (pair : ℕ)
    (now : Journal) (path : Path) → IsMachine archive pair now → (IsHalted archive → ⊥) →
    is_directory (marks_shown archive) path ≡ true →
    KeepsRecord archive pair now (RecordedDir path) None
left_alone archive pair now path is running there =
    let was = when_runs archive pair now running is in
    let here : is_directory now.value.marks path ≡ true =
    ap (λ a. is_directory a.marks path) (sym is.remembers) ∙ there in
    let value : after_kept now.value (RecordedDir path) ≡ now.value =
    ap (λ b. if b then now.value else record now.value
    { marks = replace now.value.marks path empty_directory }) here in
    let next = record now { value = after_kept now.value (RecordedDir path) } in
    keeps (moves_on next
    (writes next (RecordedDir path ∷ []) (idle here), shows_none archive next was.idle) was.up
    (subst (λ v. IsMachine archive pair (record now { value = v })) (sym value) is))

-- what is news has to be written
pub not_idle : (pair : ℕ) (archive kept : model.Archive) (last : ℕ) (what : NewRecord) →
    archive ≡ kept → IsNews archive what →
    (archive_layout pair).is_idle kept (kept_in last what) ≡ false
not_idle pair archive kept last added.Session same news = refl
not_idle pair archive kept last (added.Record path marks) same news = refl
not_idle pair archive kept last (added.Dir path) same news =
    ap (λ a. is_directory a.marks path.now) (sym same) ∙ news
