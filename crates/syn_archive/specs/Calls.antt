-- What a call makes of an archive, as it ended.
use Rattle.std.specs.Prelude.{◌≡◌, ◌≢◌, ◌⊎◌, ◌↔◌, ◌+◌, ℕ, List, Option, Some, None, IfNone, IfSome}
use Rattle.syn_disk.specs.declared.disk.Disk.{Ghosts}
use Rattle.syn_journal.specs.Journal as journal
use Rattle.syn_journal.specs.Layout.{image_alone}
use Rattle.syn_journal.specs.Endings.{Reads, Spends}
use Rattle.syn_model.specs.Archive as model
use Rattle.syn_model.specs.Archive.{Kept}
use Rattle.syn_model.specs.MarkSpelling.{archive_spelling}
use Rattle.syn_model.specs.Refusal.{Refusal, Device, Halted, Memory}
use Rattle.syn_archive.specs.Archive.{HasRecord, IsHalted, KeepsBeforeOrAfter, KeepsOrCompacts}
use Rattle.syn_archive.specs.Archive.{KeepsReadings, SameMemory, ShowsDisk, Stands, disk_of}
use Rattle.syn_archive.specs.Archive.{generation_shown, journal_of, left_shown, pair_of, shown}
use Rattle.syn_archive.specs.Disks.{DiskKeeps}
use Rattle.syn_archive.specs.declared.archive.Archive.{Archive}

-- how many device calls write it; nothing is written where there is nothing to keep
abbrev pub calls_for : Option Kept → ℕ
calls_for None = 0
calls_for (Some kept) = 4

-- the record of what is kept was written; nothing changed where there is nothing to keep
abbrev pub IsWritten : {D : Type 0} → {disk : Ghosts D} → Archive D disk → Archive D disk →
    Option Kept → Type 0
IsWritten old new None = new ≡ old
IsWritten old new (Some kept) = HasRecord old new kept

-- what a read gives after it
abbrev pub KeepsWritten : {D : Type 0} → {disk : Ghosts D} → Archive D disk → model.Archive →
    Option Kept → List ℕ → Type 0
KeepsWritten old archive None bytes =
    DiskKeeps (pair_of old) archive (left_shown old) (generation_shown old) bytes
KeepsWritten old archive (Some kept) bytes = KeepsBeforeOrAfter old archive kept bytes

-- The record was written, or not, as the call ended
pub record Writes {D : Type 0} {disk : Ghosts D} (old new : Archive D disk) (what : Option Kept)
    (why : Option Refusal) : Type 0 where
  pub seen : (kept : model.Archive) → Stands old kept →
      KeepsWritten old kept what (disk.seen (disk_of new))
  pub written : IfNone why (IsWritten old new what)
  -- and this is what a refusal leaves
  pub halted : (why ≡ Some Halted) ↔ IsHalted old
  pub halts : IfSome why (λ refusal. refusal ≡ Device → IsHalted new)
  pub readings : IfSome why (λ _. KeepsReadings old new)
  pub unchanged : IfSome why
      (λ refusal. (refusal ≡ Device) ⊎ (journal_of new ≡ journal_of old))
  pub device : Spends disk (calls_for what) why (disk_of old) (disk_of new)

-- The image was written alone, or not, as the call ended
pub record Compacts {D : Type 0} {disk : Ghosts D} (old new : Archive D disk)
    (why : Option Refusal) : Type 0 where
  pub seen : (kept : model.Archive) → Stands old kept →
      KeepsOrCompacts old kept (disk.seen (disk_of new))
  pub image : IfNone why (journal.Stands (journal_of new)
      (image_alone (archive_spelling (pair_of old) (shown old))))
  pub generation : IfNone why (generation_shown new ≡ generation_shown old + 1)
  pub memory : SameMemory old new
  -- and this is what a refusal leaves
  pub halted : (why ≡ Some Halted) ↔ IsHalted old
  pub halts : IfSome why (λ refusal. refusal ≡ Device → IsHalted new)
  pub readings : IfSome why (λ _. KeepsReadings old new)
  pub unchanged : IfSome why
      (λ refusal. (refusal ≡ Device) ⊎ (journal_of new ≡ journal_of old))
  pub device : Spends disk 6 why (disk_of old) (disk_of new)

-- The archive shows what its disk has, or not, as the call ended
pub record Reopens {D : Type 0} {disk : Ghosts D} (old new : Archive D disk)
    (why : Option Refusal) : Type 0 where
  pub pair : pair_of new ≡ pair_of old
  -- and this is what a refusal leaves
  pub halted : IfSome why (λ _. IsHalted old → IsHalted new)
  pub halts : IfSome why (λ refusal. refusal ≢ Memory → IsHalted new)
  pub memory : IfSome why (λ _. SameMemory old new)
  pub readings : IfSome why (λ _. KeepsReadings old new ⊎ ShowsDisk new)
  pub room : (kept : model.Archive) → Stands old kept → IfSome why (λ _. KeepsReadings old new)
  pub remembers : IsHalted old → IfSome why (λ _. KeepsReadings old new)
  pub device : Reads disk why (disk_of old) (disk_of new)
