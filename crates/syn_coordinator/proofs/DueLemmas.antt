-- A record that is due is what its machine does.
use Rattle.std.proofs.Common.{◌≡◌, ◌≢◌, ◌⊎◌, ◌<◌, ◌+◌, ◌^◌, ℕ, true, false, nat_le, ◌||◌}
use Rattle.std.proofs.Common.{[], ◌∷◌, ◌++◌, Some, None, is_some, refl, sym}
use Rattle.std.proofs.Common.{Ok, Err, ap, ap₂, ◌∙◌, subst, inl, inr, arith}
use Rattle.std.proofs.lemmas.Bool.{false≢true, true≢false}
use Rattle.std.proofs.lemmas.Bool.Decides.{nat_tests}
use Rattle.std.proofs.lemmas.Option.{none-some}
use Rattle.std.specs.FinMap.{get, get-empty}
use Rattle.syn_archive.specs.Archive.{IsHalted, KeepsReadings}
use Rattle.syn_archive.specs.Archive.{shown, disk_of, left_shown, generation_shown}
use Rattle.syn_archive.specs.Archive.{journal_of}
use Rattle.syn_archive.specs.Disks.{kept_size}
use Rattle.syn_archive.specs.Refusals.{refusal_of}
use Rattle.syn_archive.specs.declared.archive.Archive.{Archive}
use Rattle.syn_archive.specs.declared.error.ArchiveError.{ArchiveError}
use Rattle.syn_archive.specs.declared.error.ArchiveError.TheVariants as error
use Rattle.syn_disk.specs.Arms.{is_stopped}
use Rattle.syn_disk.specs.declared.disk.Disk.{Ghosts}
use Rattle.syn_machine.specs.Coordinator.{archive_layout}
use Rattle.syn_machine.specs.Machine.{Up, Halted, Status, Compacts, compacted, not_compacted}
use Rattle.syn_machine.specs.Machine.{has_room}
use Rattle.syn_machine.specs.Session.{is_recorded}
use Rattle.syn_model.specs.Archive.{Kept, CanKeep, IsLawfulKept}
use Rattle.syn_model.specs.Archive.{kept_refusal}
use Rattle.syn_model.specs.Limits.{greatest}
use Rattle.syn_model.specs.Mark.{IsMarks}
use Rattle.syn_model.specs.Path.{Path, path_cmp}
use Rattle.syn_model.specs.Refusal.{Refusal, Device}
use Rattle.syn_model.specs.Tree.{absent, IsPart}
use Rattle.syn_refusal.specs.declared.refusal.Refusal.TheVariants as refusal
use Rattle.syn_archive.specs.Machines.{CompactsImage, IsMachine, Journal, KeepsRecord, Runs}
use Rattle.syn_archive.specs.Machines.{breaks_off, refuses}
use Rattle.syn_archive.specs.Machines as by_archive
use Rattle.syn_coordinator.specs.declared.due.RecordOutcome.{RecordOutcome}
use Rattle.syn_coordinator.specs.declared.due.RecordOutcome.TheVariants.{Ends, Unsent}
use Rattle.syn_coordinator.specs.RecordOutcome.{IsReady, MakesRoom, has_some}
use Rattle.syn_coordinator.specs.RecordOutcome.{makes_some, Settles, recorded}
use Rattle.syn_coordinator.specs.RecordOutcome.{archive_refuses, checkpoint_breaks, failed_before}
use Rattle.syn_coordinator.specs.RecordOutcome.{no_checkpoint, no_room_left}
use Rattle.syn_coordinator.specs.RecordOutcome.{record_breaks, no_memory}
use Rattle.syn_coordinator.specs.RecordOutcome.{no_memory_after}
use Rattle.syn_coordinator.specs.inner.Recording.{Checkpoints, MakesRoomNow, Records, at_greatest}
use Rattle.syn_coordinator.specs.inner.Recording.{has_made, is_halted, made_none, memory_refused}
use Rattle.syn_coordinator.specs.inner.Recording.{no_room, written}
use Rattle.syn_coordinator.specs.inner.Recording as step
use Rattle.syn_archive.specs.Machines.{CompactsSo, KeepsSo, moves_on, moves_down}
use Rattle.syn_archive.proofs.EndLemmas.{same_error}
use Rattle.syn_coordinator.proofs.StayLemmas.{same_machine}

-- ---- what is lawful

nothing_at : (path : Path) → get absent path ≡ None
nothing_at path = get-empty path_cmp path

nothing_part : IsPart absent
nothing_part = record {
  parents = λ p n r h. absurd (true≢false (sym h ∙ ap is_some (nothing_at (p ++ n ∷ r))));
  names = λ p h. absurd (true≢false (sym h ∙ ap is_some (nothing_at p)));
  lawful = λ p contents h. absurd (none-some _ (sym (nothing_at p) ∙ h));
}

pub nothing_marks : IsMarks absent
nothing_marks =
    record {
      part = nothing_part;
      digests = λ path contents found. absurd (none-some _ (sym (nothing_at path) ∙ found));
    }

-- ---- whether it is for the device

pub device_or_other : (e : ArchiveError) → (e ≡ error.Device) ⊎ (e ≢ error.Device)
device_or_other error.Device = inl refl
device_or_other _ = inr (λ is. cc)

pub is_greatest : (n : ℕ) → n + 1 ≡ 2 ^ 64 → nat_le greatest n ≡ true
is_greatest n e = grind (arith, nat_tests)

pub is_less : (n : ℕ) → n < 2 ^ 64 → (n + 1 ≡ 2 ^ 64 → ⊥) → nat_le greatest n ≡ false
is_less n h other = grind (arith, nat_tests)

up_or_halted : {s : Status} → s ≡ Up → s ≡ Halted → ⊥
up_or_halted up halted = cc

-- ---- the machine of an archive

module _ {D : Type 0} {disk : Ghosts D} (archive : Archive D disk) (pair : ℕ) (machine : Journal)
    (is : IsMachine archive pair machine) where
  pub when_runs : (IsHalted archive → ⊥) → Runs archive machine
  when_runs up =
      elim is.state as (λ _. Runs archive machine)
      [ inl was ↦ was | inr fails ↦ absurd (up fails.is_halted) ]

  pub when_up : machine.status ≡ Up → Runs archive machine
  when_up up =
      elim is.state as (λ _. Runs archive machine)
      [ inl was ↦ was | inr fails ↦ absurd (up_or_halted up fails.halted) ]

  pub when_halted : IsHalted archive → machine.status ≡ Halted
  when_halted halted =
      elim is.state as (λ _. machine.status ≡ Halted) [
        | inl was ↦ absurd
            (false≢true (sym was.stands.runs.running ∙ halted))
        | inr fails ↦ fails.halted
      ]

  pub not_halted : Runs archive machine → IsHalted archive → ⊥
  not_halted was halted = false≢true (sym was.stands.runs.running ∙ halted)

  pub is_ready : (kept : Kept) → Runs archive machine → IsLawfulKept kept →
      kept_refusal (shown archive) kept ≡ None → IsReady machine kept
  is_ready kept was lawful allowed =
      record {
        up = was.up;
        can = record {
          lawful = lawful;
          not_refused = ap (λ a. kept_refusal a kept) (sym is.remembers) ∙ allowed;
        };
      }

  -- what the archive says of its room is what its machine says
  pub room_is : (kept : Kept) → Runs archive machine →
      (is_recorded (shown archive) kept || nat_le (kept_size kept) (left_shown archive))
      ≡ has_room (archive_layout pair) machine kept
  room_is kept was =
      ap₂ (λ v r. is_recorded v kept || nat_le (kept_size kept) r) is.remembers was.room

-- ---- a write

module _ {D : Type 0} {disk : Ghosts D} (old new : Archive D disk) (pair : ℕ) (machine : Journal)
    (is : IsMachine old pair machine) where
  -- after a refusal but for the device it is the machine that it was
  pub stays : (e : ArchiveError) → e ≢ error.Device →
      (refusal_of e ≡ Device) ⊎ (journal_of new ≡ journal_of old) → KeepsReadings old new →
      IsMachine new pair machine
  stays e other unchanged readings =
      elim unchanged as (λ _. IsMachine new pair machine) [
        | inl device ↦ absurd (other (same_error e error.Device device))
        | inr same ↦ same_machine old new same readings pair machine is
      ]

-- what the archive says of a record that was kept, and of one that was not
module _ {D : Type 0} {disk : Ghosts D} (new : Archive D disk) (pair : ℕ) (machine : Journal)
    (kept : Kept) where
  pub was_kept : KeepsRecord new pair machine kept None →
      KeepsSo new pair machine kept (kept ∷ []) Up
  was_kept (by_archive.keeps so) = so

  pub was_in_doubt : KeepsRecord new pair machine kept (Some Device) →
      KeepsSo new pair machine kept [] Halted
  was_in_doubt (by_archive.breaks so) = so
  was_in_doubt (refuses why other is) = absurd (other refl)

  pub was_refused : (why : Refusal) → why ≢ Device → KeepsRecord new pair machine kept (Some why) →
      IsMachine new pair machine
  was_refused why other (by_archive.breaks so) = absurd (other refl)
  was_refused why other (refuses same differs is) = is

-- and of a checkpoint
module _ {D : Type 0} {disk : Ghosts D} (new : Archive D disk) (pair : ℕ) (machine : Journal)
  where
    pub was_compacted : CompactsImage new pair machine None → CompactsSo new pair machine Up
    was_compacted (by_archive.compacts so) = so

    pub was_cut_short : CompactsImage new pair machine (Some Device) →
        CompactsSo new pair machine Halted
    was_cut_short (breaks_off so) = so
    was_cut_short (by_archive.stays why other is) = absurd (other refl)

    pub was_not_compacted : (why : Refusal) → why ≢ Device →
        CompactsImage new pair machine (Some why) → IsMachine new pair machine
    was_not_compacted why other (breaks_off so) = absurd (other refl)
    was_not_compacted why other (by_archive.stays same differs is) = is

-- ---- a checkpoint

module _ {D : Type 0} {disk : Ghosts D} (old new : Archive D disk) (pair : ℕ) (machine : Journal)
    (is : IsMachine old pair machine) (fits : generation_shown old < 2 ^ 64) where
  pub not_greatest : Runs old machine → (generation_shown old + 1 ≡ 2 ^ 64 → ⊥) →
      nat_le greatest machine.generation ≡ false
  not_greatest was other =
      ap (nat_le greatest) (sym was.generation) ∙ is_less (generation_shown old) fits other

-- ---- all of it

-- a checkpoint leaves the value
same_value : (pair : ℕ) (machine between : Journal) →
    Compacts (archive_layout pair) machine between → between.value ≡ machine.value
same_value pair machine between (compacted arms meets) = refl
same_value pair machine between (not_compacted status arms failed left meets) = refl

module _ {D : Type 0} {disk : Ghosts D} (new : Archive D disk) (pair : ℕ) (machine : Journal)
    (kept : Kept) where
  pub ready_still : IsReady machine kept → (between : Journal) →
      Compacts (archive_layout pair) machine between → between.status ≡ Up → IsReady between kept
  ready_still ready between compacts up =
      record {
        up = up;
        can =
            subst (λ v. CanKeep v kept) (sym (same_value pair machine between compacts)) ready.can;
      }

  -- the journal had room for it
  pub settled : (due : RecordOutcome) → Records new pair machine kept (Some due) →
      Settles new pair machine kept due
  settled due (written ready room keeps) = recorded false machine ready (has_some room) room keeps
  settled due (step.breaks ready room keeps) =
      record_breaks false machine ready (has_some room) room keeps
  settled due (step.refuses why up cause is) = archive_refuses why up cause is
  settled due (is_halted halted is) = failed_before halted is
  settled due (memory_refused ready room is) = no_memory is

  -- it was not refused 11 in place of a cause that needs no memory
  pub ready_for_memory : (due : RecordOutcome) → Records new pair machine kept (Some due) →
      due ≡ Ends refusal.Memory → IsReady machine kept
  ready_for_memory due (written ready room keeps) memory = ready
  ready_for_memory due (step.breaks ready room keeps) memory = ready
  ready_for_memory due (step.refuses why up cause is) memory = cc
  ready_for_memory due (is_halted halted is) memory = cc
  ready_for_memory due (memory_refused ready room is) memory = ready

  pub ready_without_room : Records new pair machine kept None → IsReady machine kept
  ready_without_room (no_room ready lacks is) = ready

  -- it had none, and no checkpoint was made
  pub without_room : {mid : Archive D disk} → Records mid pair machine kept None →
      (due : RecordOutcome) → MakesRoomNow new pair machine (Err due) →
      Settles new pair machine kept due
  without_room (no_room ready lacks before) due (made_none due' checkpoint) = by due' checkpoint
    where
      by : (due : RecordOutcome) → Checkpoints new pair machine (Err due) →
          Settles new pair machine kept due
      by due (at_greatest last is) = no_checkpoint ready lacks last is
      by due (step.breaks_off less moves) = checkpoint_breaks ready lacks less moves
      by due (step.no_memory is) = no_memory is

  -- or one was
  pub settled_after : {mid : Archive D disk} → Records mid pair machine kept None →
      (between : Journal) → nat_le greatest machine.generation ≡ false →
      Compacts (archive_layout pair) machine between → between.status ≡ Up →
      (due : RecordOutcome) → Records new pair between kept (Some due) →
      Settles new pair machine kept due
  settled_after (no_room ready lacks before) between less compacts up due after = by due after
    where
      makes : MakesRoom pair machine kept true between
      makes = makes_some between lacks less compacts up

      by : (due : RecordOutcome) → Records new pair between kept (Some due) →
          Settles new pair machine kept due
      by due (written now room keeps) = recorded true between ready makes room keeps
      by due (step.breaks now room keeps) = record_breaks true between ready makes room keeps
      by due (step.refuses why now cause is) =
          absurd (none-some _
          (sym (ready_still ready between compacts up).can.not_refused ∙ cause))
      by due (is_halted halted is) = absurd (up_or_halted up halted)
      by due (memory_refused now room is) = no_memory_after between ready makes is

  pub still_no_room : {mid : Archive D disk} → Records mid pair machine kept None →
      (between : Journal) → nat_le greatest machine.generation ≡ false →
      Compacts (archive_layout pair) machine between → between.status ≡ Up →
      Records new pair between kept None →
      Settles new pair machine kept (Ends refusal.JournalFull)
  still_no_room (no_room ready lacks before) between less compacts up (no_room now none is) =
      no_room_left between ready (makes_some between lacks less compacts up) none is

  -- it was up then, and is the machine that it was
  pub before_room : {mid : Archive D disk} → Records mid pair machine kept None →
      IsMachine mid pair machine × (machine.status ≡ Up)
  before_room (no_room ready lacks before) = (before, ready.up)

-- after a checkpoint the machine goes on, or was stopped
module _ {D : Type 0} {disk : Ghosts D} (new : Archive D disk) (pair : ℕ) (machine : Journal) where
  pub stopped_after : is_stopped (disk.arms (disk_of new)) ≡ true →
      Checkpoints new pair machine (Ok tt) → Checkpoints new pair machine (Err Unsent)
  stopped_after stopped (step.made less (moves_on between compacts up is)) =
      absurd (false≢true (sym is.goes ∙ stopped))
  stopped_after stopped (step.made less (moves_down between compacts cut down leaves)) =
      step.breaks_off less (moves_down between compacts cut down leaves)

  pub goes_on_after : is_stopped (disk.arms (disk_of new)) ≡ false →
      Checkpoints new pair machine (Ok tt) → MakesRoomNow new pair machine (Ok tt)
  goes_on_after goes (step.made less (moves_on between compacts up is)) =
      has_made between less compacts up is
  goes_on_after goes (step.made less (moves_down between compacts cut down leaves)) =
      absurd (false≢true (sym goes ∙ cut))
