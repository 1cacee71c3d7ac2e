-- What becomes of a record that is due.
use Rattle.std.specs.Prelude.{◌≡◌, ◌⊎◌, ◌<◌, ℕ, Bool, true, false, nat_le, [], ◌∷◌, Option, Some}
use Rattle.syn_archive.specs.Archive.{SameMemory, journal_of}
use Rattle.syn_archive.specs.declared.archive.Archive.{Archive}
use Rattle.syn_disk.specs.declared.disk.Disk.{Ghosts}
use Rattle.syn_machine.specs.Coordinator.{archive_layout}
use Rattle.syn_machine.specs.Machine.{Compacts, Halted, Up, has_room}
use Rattle.syn_coordinator.specs.Machines.{IsMachine, Journal}
use Rattle.syn_coordinator.specs.Steps.{CompactsSo, KeepsSo}
use Rattle.syn_coordinator.specs.Tries.{HoldsTried}
use Rattle.syn_coordinator.specs.declared.due.RecordOutcome.{RecordOutcome}
use Rattle.syn_coordinator.specs.declared.due.RecordOutcome.TheVariants.{Recorded, Refused}
use Rattle.syn_coordinator.specs.declared.due.RecordOutcome.TheVariants.{Ends, Unsent}
use Rattle.syn_coordinator.specs.declared.due.RecordOutcome.TheVariants as due
use Rattle.syn_coordinator.specs.declared.tried.TriedRecord.{TriedRecord}
use Rattle.syn_model.specs.Archive.{CanKeep, Kept, kept_refusal}
use Rattle.syn_model.specs.Limits.{greatest}
use Rattle.syn_refusal.specs.Refusals.{cause_of}
use Rattle.syn_refusal.specs.declared.refusal.Refusal.{Refusal}
use Rattle.syn_refusal.specs.declared.refusal.Refusal.TheVariants as refusal

-- the count of failed device calls grows exactly where the session ends for the device
abbrev pub CountsFailures : RecordOutcome → ℕ → ℕ → Type 0
CountsFailures Unsent old new = old < new
CountsFailures due.Tried old new = old < new
CountsFailures _ old new = new ≡ old

-- or its machine was stopped right after a checkpoint, and nothing failed
abbrev pub CountsFailuresOrStops : RecordOutcome → Bool → ℕ → ℕ → Type 0
CountsFailuresOrStops due stopped old new = CountsFailures due old new
    ⊎ ((due ≡ Unsent) × (stopped ≡ true) × (new ≡ old))

-- it is just what it was: what it has in memory, and its journal with its disk
pub record IsAsItWas {D : Type 0} {disk : Ghosts D} (old new : Archive D disk) : Type 0 where
  pub memory : SameMemory old new
  pub journal : journal_of new ≡ journal_of old

-- a record that was due is remembered where it was sent and not kept, and else nothing changes
abbrev pub TriesBy : {D : Type 0} → {disk : Ghosts D} → Archive D disk → Kept → Option TriedRecord →
    Option TriedRecord → RecordOutcome → Type 0
TriesBy archive kept old new due.Tried = HoldsTried archive kept new
TriesBy archive kept old new _ = new ≡ old

-- the machine runs, and its archive does not refuse the record
pub record IsReady (machine : Journal) (kept : Kept) : Type 0 where
  pub up : machine.status ≡ Up
  pub can : CanKeep machine.value kept

-- Where the record does not fit into the journal a checkpoint made room, which was made then
pub data MakesRoom (pair : ℕ) (machine : Journal) (kept : Kept) : Bool → Journal → Type 0 where
  has_some : has_room (archive_layout pair) machine kept ≡ true →
      MakesRoom pair machine kept false machine
  makes_some : (new : Journal) → has_room (archive_layout pair) machine kept ≡ false →
      nat_le greatest machine.generation ≡ false → Compacts (archive_layout pair) machine new →
      new.status ≡ Up → MakesRoom pair machine kept true new

-- What becomes of it: it is recorded; or its item is refused as the archive refuses the record, or
-- since no checkpoint can be made for it; or the session ends
pub data Settles {D : Type 0} {disk : Ghosts D} (new : Archive D disk) (pair : ℕ)
    (machine : Journal) (kept : Kept) : RecordOutcome → Type 0 where
  recorded : (made : Bool) (between : Journal) → IsReady machine kept →
      MakesRoom pair machine kept made between →
      has_room (archive_layout pair) between kept ≡ true →
      KeepsSo new pair between kept (kept ∷ []) Up → Settles new pair machine kept Recorded
  archive_refuses : (why : Refusal) → machine.status ≡ Up →
      kept_refusal machine.value kept ≡ Some (cause_of why) → IsMachine new pair machine →
      Settles new pair machine kept (Refused why)
  no_checkpoint : IsReady machine kept → has_room (archive_layout pair) machine kept ≡ false →
      nat_le greatest machine.generation ≡ true → IsMachine new pair machine →
      Settles new pair machine kept (Refused refusal.Full)
  failed_before : machine.status ≡ Halted → IsMachine new pair machine →
      Settles new pair machine kept (Ends refusal.Halted)
  checkpoint_breaks : IsReady machine kept → has_room (archive_layout pair) machine kept ≡ false →
      nat_le greatest machine.generation ≡ false →
      CompactsSo new pair machine Halted → Settles new pair machine kept Unsent
  record_breaks : (made : Bool) (between : Journal) → IsReady machine kept →
      MakesRoom pair machine kept made between →
      has_room (archive_layout pair) between kept ≡ true → KeepsSo new pair between kept [] Halted →
      Settles new pair machine kept due.Tried
  no_room_left : (between : Journal) → IsReady machine kept →
      MakesRoom pair machine kept true between →
      has_room (archive_layout pair) between kept ≡ false → IsMachine new pair between →
      Settles new pair machine kept (Ends refusal.JournalFull)
  no_memory : IsMachine new pair machine → Settles new pair machine kept (Ends refusal.Memory)
  no_memory_after : (between : Journal) → IsReady machine kept →
      MakesRoom pair machine kept true between → IsMachine new pair between →
      Settles new pair machine kept (Ends refusal.Memory)
