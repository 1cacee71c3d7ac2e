-- What comes of many payloads that are appended at once.
use Rattle.std.specs.Prelude.{◌≡◌, ◌⊎◌, ◌↔◌, ◌-◌, ◌<◌, List, ℕ, Option, Some, None}
use Rattle.syn_disk.specs.Stops.{LeavesOnly}
use Rattle.syn_disk.specs.declared.disk.Disk.{Ghosts}
use Rattle.syn_journal.specs.Batches.{calls_for, records_size, with_payloads}
use Rattle.syn_journal.specs.Journal as journal
use Rattle.syn_journal.specs.Journal.{IsHalted}
use Rattle.syn_journal.specs.Layout.{IsBeforeOrAfter, Value}
use Rattle.syn_journal.specs.declared.journal.Journal.{Journal}
use Rattle.syn_model.specs.Refusal.{Refusal, Device, Halted, JournalFull}
use Rattle.syn_journal.specs.Endings.{Spends}
use Rattle.syn_journal.specs.Journaled.{IsOfWrite}

-- What the disk of the journal has, as the call ended: the value before it, or that with all of the
-- payloads
pub record AppendsAll {D : Type 0} {disk : Ghosts D} (old : Journal D disk) (new : D)
    (payloads : List (List ℕ)) (why : Option Refusal) : Type 0 where
  pub any_moment : (value : Value) → journal.Stands old value →
      LeavesOnly disk.moment disk.left_since (journal.disk_of old) new
      (IsBeforeOrAfter value (journal.generation_of old) (with_payloads value payloads)
      (journal.generation_of old))
  -- each refusal has its cause
  pub refusals : IsOfWrite why
  pub halted : (why ≡ Some Halted) ↔ IsHalted old
  pub full : (why ≡ Some JournalFull)
      ↔ (¬ IsHalted old × (journal.left_of old < records_size payloads))
  -- and this is what it leaves
  pub unchanged : (why ≡ None) ⊎ ((why ≡ Some Device) ⊎ (new ≡ journal.disk_of old))
  pub device : Spends disk (calls_for payloads) why (journal.disk_of old) new

-- the journal has all of them, and is else as it was
pub record HasAll {D : Type 0} {disk : Ghosts D} (old new : Journal D disk)
    (payloads : List (List ℕ)) : Type 0 where
  pub acknowledged : (value : Value) → journal.Stands old value →
      journal.Stands new (with_payloads value payloads)
  pub left_is : journal.left_of new ≡ journal.left_of old - records_size payloads
  pub generation : journal.generation_of new ≡ journal.generation_of old
