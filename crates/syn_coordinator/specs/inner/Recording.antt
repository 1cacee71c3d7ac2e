-- The steps of recording what is due: a record, and the checkpoint that makes room for it.
use Rattle.std.specs.Prelude.{◌≡◌, ℕ, true, false, nat_le, [], ◌∷◌, Result, Ok, Err, Option, Some}
use Rattle.std.specs.Prelude.{None}
use Rattle.syn_archive.specs.Archive.{shown}
use Rattle.syn_archive.specs.Refusals.{refusal_of}
use Rattle.syn_archive.specs.declared.archive.Archive.{Archive}
use Rattle.syn_archive.specs.declared.error.ArchiveError.{ArchiveError}
use Rattle.syn_archive.specs.declared.error.ArchiveError.TheVariants as error
use Rattle.syn_disk.specs.declared.disk.Disk.{Ghosts}
use Rattle.syn_machine.specs.Coordinator.{archive_layout}
use Rattle.syn_machine.specs.Machine.{Compacts, Halted, Up, has_room}
use Rattle.syn_coordinator.specs.Machines.{IsMachine, Journal}
use Rattle.syn_coordinator.specs.RecordOutcome.{CountsFailures, IsAsItWas, IsReady}
use Rattle.syn_coordinator.specs.Steps.{CompactsSo, KeepsSo}
use Rattle.syn_coordinator.specs.declared.due.RecordOutcome.{RecordOutcome}
use Rattle.syn_coordinator.specs.declared.due.RecordOutcome.TheVariants.{Recorded as IsRecorded}
use Rattle.syn_coordinator.specs.declared.due.RecordOutcome.TheVariants.{Refused}
use Rattle.syn_coordinator.specs.declared.due.RecordOutcome.TheVariants.{Ends, Unsent, Tried}
use Rattle.syn_model.specs.Archive.{Kept, kept_refusal}
use Rattle.syn_model.specs.Limits.{greatest}
use Rattle.syn_refusal.specs.Refusals.{cause_of}
use Rattle.syn_refusal.specs.declared.refusal.Refusal.{Refusal}
use Rattle.syn_refusal.specs.declared.refusal.Refusal.TheVariants as refusal

-- the item is refused as the archive refuses its record, or the session ends for that
abbrev pub RefusesFor : ArchiveError → Option RecordOutcome → Type 0
RefusesFor e due = (why : Refusal) × (due ≡ Some (Refused why)) × (cause_of why ≡ refusal_of e)

abbrev pub EndsFor : ArchiveError → Option RecordOutcome → Type 0
EndsFor e due = (why : Refusal) × (due ≡ Some (Ends why)) × (cause_of why ≡ refusal_of e)

-- what became of a record that the archive answers so
abbrev pub IsOutcomeOf : Result (Unit {0}) ArchiveError → Option RecordOutcome → Type 0
IsOutcomeOf (Ok x) due = due ≡ Some IsRecorded
IsOutcomeOf (Err error.JournalFull) due = due ≡ None
IsOutcomeOf (Err error.Device) due = due ≡ Some Tried
IsOutcomeOf (Err error.NoParent) due = RefusesFor error.NoParent due
IsOutcomeOf (Err error.Root) due = RefusesFor error.Root due
IsOutcomeOf (Err error.Full) due = RefusesFor error.Full due
IsOutcomeOf (Err e) due = EndsFor e due

-- and of one for which the archive refuses a checkpoint so
abbrev pub IsUnmade : ArchiveError → RecordOutcome → Type 0
IsUnmade error.Full due = due ≡ Refused refusal.Full
IsUnmade error.Device due = due ≡ Unsent
IsUnmade e due = (why : Refusal) × (due ≡ Ends why) × (cause_of why ≡ refusal_of e)

-- What becomes of a record that is written now, where the journal has room for it
pub data Records {D : Type 0} {disk : Ghosts D} (new : Archive D disk) (pair : ℕ)
    (machine : Journal) (kept : Kept) : Option RecordOutcome → Type 0 where
  written : IsReady machine kept → has_room (archive_layout pair) machine kept ≡ true →
      KeepsSo new pair machine kept (kept ∷ []) Up → Records new pair machine kept (Some IsRecorded)
  breaks : IsReady machine kept → has_room (archive_layout pair) machine kept ≡ true →
      KeepsSo new pair machine kept [] Halted → Records new pair machine kept (Some Tried)
  refuses : (why : Refusal) → machine.status ≡ Up →
      kept_refusal machine.value kept ≡ Some (cause_of why) → IsMachine new pair machine →
      Records new pair machine kept (Some (Refused why))
  no_room : IsReady machine kept → has_room (archive_layout pair) machine kept ≡ false →
      IsMachine new pair machine → Records new pair machine kept None
  is_halted : machine.status ≡ Halted → IsMachine new pair machine →
      Records new pair machine kept (Some (Ends refusal.Halted))
  memory_refused : IsReady machine kept → has_room (archive_layout pair) machine kept ≡ true →
      IsMachine new pair machine → Records new pair machine kept (Some (Ends refusal.Memory))

-- the count of failed device calls grows exactly where it was sent and not kept
abbrev pub CountsFailuresIn : Option RecordOutcome → ℕ → ℕ → Type 0
CountsFailuresIn None old new = new ≡ old
CountsFailuresIn (Some due) old new = CountsFailures due old new

-- one that is refused, or for which there is no room, leaves the archive as it was
abbrev pub Leaves : {D : Type 0} → {disk : Ghosts D} → Archive D disk → Archive D disk → Kept →
    Option RecordOutcome → Type 0
Leaves old new kept None = IsAsItWas old new × (kept_refusal (shown old) kept ≡ None)
Leaves old new kept (Some (Refused why)) =
    IsAsItWas old new × (kept_refusal (shown old) kept ≡ Some (cause_of why))
Leaves old new kept _ = Unit {0}

-- What becomes of a checkpoint for it: it is made where nothing refuses it, else how it ends
pub data Checkpoints {D : Type 0} {disk : Ghosts D} (new : Archive D disk) (pair : ℕ)
    (machine : Journal) : Result (Unit {0}) RecordOutcome → Type 0 where
  made : nat_le greatest machine.generation ≡ false →
      CompactsSo new pair machine Up →
      Checkpoints new pair machine (Ok tt)
  at_greatest : nat_le greatest machine.generation ≡ true → IsMachine new pair machine →
      Checkpoints new pair machine (Err (Refused refusal.Full))
  breaks_off : nat_le greatest machine.generation ≡ false →
      CompactsSo new pair machine Halted → Checkpoints new pair machine (Err Unsent)
  no_memory : IsMachine new pair machine →
      Checkpoints new pair machine (Err (Ends refusal.Memory))

-- and the machine was not stopped after it
pub data MakesRoomNow {D : Type 0} {disk : Ghosts D} (new : Archive D disk) (pair : ℕ)
    (machine : Journal) : Result (Unit {0}) RecordOutcome → Type 0 where
  has_made : (between : Journal) → nat_le greatest machine.generation ≡ false →
      Compacts (archive_layout pair) machine between → between.status ≡ Up →
      IsMachine new pair between → MakesRoomNow new pair machine (Ok tt)
  made_none : (due : RecordOutcome) → Checkpoints new pair machine (Err due) →
      MakesRoomNow new pair machine (Err due)
