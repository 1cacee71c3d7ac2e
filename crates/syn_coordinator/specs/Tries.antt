-- What a coordinator remembers of a record that could not be kept.
use Rattle.std.specs.Prelude.{◌≡◌, ◌≢◌, ◌≤◌, ◌-◌, ◌==◌, ◌&&◌, Bool, nat_lt, List, [], ◌∷◌}
use Rattle.std.specs.Prelude.{Option, Some, None, if◌then◌else◌}
use Rattle.syn_archive.specs.Archive.{generation_shown, room_shown}
use Rattle.syn_archive.specs.Disks.{kept_size}
pub use Rattle.syn_archive.specs.Machines.{IsShown}
use Rattle.syn_archive.specs.declared.archive.Archive.{Archive}
use Rattle.syn_disk.specs.declared.disk.Disk.{Ghosts}
use Rattle.syn_machine.specs.Machine.{Up}
use Rattle.syn_coordinator.specs.Machines.{Journal}
use Rattle.syn_coordinator.specs.declared.tried.TriedRecord.{TriedRecord}
use Rattle.syn_model.specs.Archive.{Kept}
use Rattle.syn_image.specs.Archives.{kept_of}

abbrev pub record_of : TriedRecord → Kept
record_of tried = kept_of tried.kept

-- it is this record, with what the archive shows of its journal
pub record IsTriedBy {D : Type 0} {disk : Ghosts D} (archive : Archive D disk) (kept : Kept)
    (tried : TriedRecord) : Type 0 where
  pub kept_is : record_of tried ≡ kept
  pub room_is : tried.room ≡ room_shown archive
  pub generation_is : tried.generation ≡ generation_shown archive

abbrev pub HoldsTried : {D : Type 0} → {disk : Ghosts D} → Archive D disk → Kept →
    Option TriedRecord → Type 0
HoldsTried archive kept None = ⊥
HoldsTried archive kept (Some tried) = IsTriedBy archive kept tried

-- the journal was writing it as the machine stopped or its device failed, and had room for it. A
-- payload is five bytes shorter than its record
pub record WasTried (tried : TriedRecord) (journal : Journal) : Type 0 where
  pub stopped : journal.status ≢ Up
  pub writing : journal.writing ≡ Some (record_of tried)
  pub room_is : tried.room ≡ journal.room - 5
  pub generation_is : tried.generation ≡ journal.generation
  pub fits : kept_size (record_of tried) ≤ journal.room

-- what is remembered is what the journal was writing; where nothing is, it was writing nothing
abbrev pub Tries : Option TriedRecord → Journal → Type 0
Tries None journal = journal.writing ≡ None
Tries (Some tried) journal = WasTried tried journal

-- An archive that was opened again has the record that was tried: its journal has less room in the
-- same generation
abbrev pub is_in : {D : Type 0} → {disk : Ghosts D} → TriedRecord → Archive D disk → Bool
is_in tried archive = (generation_shown archive == tried.generation)
    && nat_lt (room_shown archive) tried.room

abbrev pub found_in : {D : Type 0} → {disk : Ghosts D} → Option TriedRecord → Archive D disk →
    Option Kept
found_in None archive = None
found_in (Some tried) archive = if is_in tried archive then Some (record_of tried) else None

abbrev pub listed : Option Kept → List Kept
listed None = []
listed (Some kept) = kept ∷ []
