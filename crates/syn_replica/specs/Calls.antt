-- What a call makes of a replica, as it ended.
use Rattle.std.specs.Prelude.{◌≡◌, ◌≢◌, ◌⊎◌, ◌↔◌, ◌+◌, ℕ, Bool, true, false, List}
use Rattle.std.specs.Prelude.{Option, Some, None, IfSome, IfNone}
use Rattle.syn_disk.specs.declared.disk.Disk.{Ghosts}
use Rattle.syn_journal.specs.Journal as journal
use Rattle.syn_journal.specs.Layout.{image_alone}
use Rattle.syn_journal.specs.Endings.{Reads, Spends}
use Rattle.syn_model.specs.Event.{Event}
use Rattle.syn_model.specs.History.{History}
use Rattle.syn_model.specs.Image.{image_spelling}
use Rattle.syn_model.specs.Refusal.{Refusal, Device, Halted, Memory}
use Rattle.syn_model.specs.Spelling.{event_spelling}
use Rattle.syn_replica.specs.Disks.{DiskKeeps}
use Rattle.syn_replica.specs.Growth.{IsGrown}
use Rattle.syn_replica.specs.Replica.{pair_of, standing_shown, tried_shown, disk_of, journal_of}
use Rattle.syn_replica.specs.Replica.{left_shown, generation_shown, IsHalted, Stands, HasRecord}
use Rattle.syn_replica.specs.Replica.{KeepsBeforeOrAfter, KeepsOrCompacts, KeepsReadings}
use Rattle.syn_replica.specs.Replica.{SameMemory, ShowsDisk}
use Rattle.syn_replica.specs.declared.replica.Replica.{Replica}

-- the event is written, unless it was done before
abbrev pub unless : Bool → Event → Option Event
unless true event = None
unless false event = Some event

-- how many device calls write it
abbrev pub calls_for : Option Event → ℕ
calls_for None = 0
calls_for (Some event) = 4

module _ {D : Type 0} {disk : Ghosts D} (old new : Replica D disk) where
  -- the journal has the record of the event, where there is one
  abbrev pub IsWritten : Option Event → Type 0
  IsWritten None = new ≡ old
  IsWritten (Some event) = HasRecord old new event

  -- these bytes are of the history, or of that with the event
  abbrev pub KeepsWritten : History → Option Event → List ℕ → Type 0
  KeepsWritten history None bytes =
      DiskKeeps (pair_of old) history (left_shown old) (generation_shown old) bytes
  KeepsWritten history (Some event) bytes = KeepsBeforeOrAfter old history event bytes

  -- The event is what was sent to the disk last. Where the call was refused otherwise than by a
  -- device call that failed, that is what it was
  abbrev pub Tries : Option Event → Option Refusal → Type 0
  Tries None why = tried_shown new ≡ tried_shown old
  Tries (Some event) None = tried_shown new ≡ Some (event_spelling event)
  Tries (Some event) (Some why) =
      ((why ≡ Device) × (tried_shown new ≡ Some (event_spelling event)))
      ⊎ ((why ≢ Device) × (tried_shown new ≡ tried_shown old))

  -- the record of the event was written, or not, as the call ended
  pub record Writes (event : Option Event) (why : Option Refusal) : Type 0 where
    pub written : IfNone why (IsWritten event)
    pub tried : Tries event why
    -- whatever is answered, no history is lost, and a read finds the history before or after
    pub grown : IsGrown old new
    pub seen : (history : History) → Stands old history →
        KeepsWritten history event (disk.seen (disk_of new))
    -- what a refusal leaves
    pub halted : (why ≡ Some Halted) ↔ IsHalted old
    pub halts : IfSome why (λ refusal. refusal ≡ Device → IsHalted new)
    pub untried : IfSome why (λ refusal. refusal ≢ Device → tried_shown new ≡ tried_shown old)
    pub readings : IfSome why (λ _. KeepsReadings old new)
    pub unchanged : IfSome why
        (λ refusal. (refusal ≡ Device) ⊎ (journal_of new ≡ journal_of old))
    pub device : Spends disk (calls_for event) why (disk_of old) (disk_of new)

  -- the image was written alone, or not, as the call ended
  pub record Compacts (why : Option Refusal) : Type 0 where
    pub image : IfNone why (journal.Stands (journal_of new)
        (image_alone (image_spelling (pair_of old) (standing_shown old))))
    pub generation : IfNone why (generation_shown new ≡ generation_shown old + 1)
    pub memory : SameMemory old new
    pub tried : tried_shown new ≡ tried_shown old
    -- whatever is answered, no history is lost, and a read finds the history in one form
    pub grown : IsGrown old new
    pub seen : (history : History) → Stands old history →
        KeepsOrCompacts old history (disk.seen (disk_of new))
    -- what a refusal leaves
    pub halted : (why ≡ Some Halted) ↔ IsHalted old
    pub halts : IfSome why (λ refusal. refusal ≡ Device → IsHalted new)
    pub readings : IfSome why (λ _. KeepsReadings old new)
    pub unchanged : IfSome why
        (λ refusal. (refusal ≡ Device) ⊎ (journal_of new ≡ journal_of old))
    pub device : Spends disk 6 why (disk_of old) (disk_of new)

  -- the replica shows what its disk gives, or not, as the call ended
  pub record Reopens (why : Option Refusal) : Type 0 where
    pub pair : pair_of new ≡ pair_of old
    pub forgets : IfNone why (tried_shown new ≡ None)
    -- whatever is answered, no history is lost
    pub grown : IsGrown old new
    -- what a refusal leaves
    pub halted : IfSome why (λ _. IsHalted old → IsHalted new)
    pub halts : IfSome why (λ refusal. refusal ≢ Memory → IsHalted new)
    pub tried : IfSome why (λ _. tried_shown new ≡ tried_shown old)
    pub memory : IfSome why (λ _. SameMemory old new)
    pub readings : IfSome why (λ _. KeepsReadings old new ⊎ ShowsDisk new)
    pub room : (history : History) → Stands old history → IfSome why (λ _. KeepsReadings old new)
    pub remembers : IsHalted old → IfSome why (λ _. KeepsReadings old new)
    pub device : Reads disk why (disk_of old) (disk_of new)
