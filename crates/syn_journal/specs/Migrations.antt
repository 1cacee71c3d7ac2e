-- What a migration leaves, and why it is refused.
use Rattle.std.specs.Prelude.{◌≡◌, ◌⊎◌, ◌+◌, ◌<◌, ◌^◌, ℕ, List, length, Option, Some, None}
use Rattle.syn_disk.specs.Arms.{Arms}
use Rattle.syn_disk.specs.Calls.{MakesAtLeast}
use Rattle.syn_disk.specs.Stops.{LeavesOnly, Untouched}
use Rattle.syn_disk.specs.declared.disk.Disk.{Ghosts}
use Rattle.syn_journal.specs.Journal as journal
use Rattle.syn_journal.specs.Layout.{HasJournal, IsBeforeOrAfter, Value, image_alone, longest_image}
use Rattle.syn_journal.specs.declared.error.JournalError.{JournalError}
use Rattle.syn_journal.specs.declared.error.JournalError.TheVariants.{Device, Full, Memory}
use Rattle.syn_model.specs.Refusal.{Refusal}
use Rattle.syn_model.specs.Refusal as refusal
use Rattle.syn_journal.specs.Endings.{BreaksOrReads, CountsFailures, is_device}
use Rattle.syn_journal.specs.Journaled.{generation_of, journal_of, state_of}
use Rattle.syn_journal.specs.Openings.{DiskGives, NotOpened}
use Rattle.syn_journal.specs.declared.journaled.Journaled.{Journaled}

module _ {S : Type 0} (pair : S → ℕ) (gives : List ℕ → List (List ℕ) → S → Type 0) where
  -- the journal on the disk has this value and this generation, and the value gives the state
  pub record Holds (bytes : List ℕ) (value : Value) (generation : ℕ) (state : S) : Type 0 where
    pub journal : HasJournal bytes value generation
    pub fits : pair state < 2 ^ 64
    pub given : gives value.image value.payloads state

module _ {S : Type 0} (pair : S → ℕ) (gives : List ℕ → List (List ℕ) → S → Type 0)
    (spelling : S → List ℕ) where
  -- The machine has what the bytes of the disk gave, and they gave nothing else. It runs over the
  -- image of that alone, with the next generation.
  pub record Migrated {D : Type 0} {disk : Ghosts D} (bytes : List ℕ) (machine : Journaled D S disk)
      : Type 0 where
    pub value : Value
    pub generation : ℕ
    pub held : Holds pair gives bytes value generation (state_of machine)
    pub one : (other : S) → pair other < 2 ^ 64 → DiskGives gives bytes other →
        other ≡ state_of machine
    pub runs : journal.Stands (journal_of machine) (image_alone (spelling (state_of machine)))
    pub next : generation_of machine ≡ generation + 1
    pub below : ¬ (generation + 1 ≡ 2 ^ 64)

  -- what they give is not written: there is no next generation, or its image is too long
  pub record IsUnwritten (bytes : List ℕ) : Type 0 where
    pub value : Value
    pub generation : ℕ
    pub state : S
    pub held : Holds pair gives bytes value generation state
    pub cause : (generation + 1 ≡ 2 ^ 64) ⊎ (longest_image < length (spelling state))

  -- the checkpoint is refused so
  abbrev pub NotWritten : JournalError → List ℕ → Type 0
  NotWritten Full bytes = IsUnwritten bytes
  NotWritten Device bytes = Unit {0}
  NotWritten Memory bytes = Unit {0}
  NotWritten _ bytes = ⊥

  -- the disk is not opened, or what it gives is not written
  abbrev pub NotMigrated : {E : Type 0} → (JournalError → E) →
      (E → List ℕ → List (List ℕ) → Type 0) → E → List ℕ → Type 0
  NotMigrated of_journal IsUnread error bytes =
      NotOpened of_journal (IsUnread error) error bytes
      ⊎ ((by : JournalError) × (error ≡ of_journal by) × NotWritten by bytes)

-- a sync and reads and the six device calls of a checkpoint were made where the call succeeded, the
-- last device call failed where 9 was answered, and none did where anything else was
abbrev pub MigratesOrBreaks : Option Refusal → Arms → Arms → Type 0
MigratesOrBreaks None old new = MakesAtLeast 7 old new
MigratesOrBreaks (Some why) old new = BreaksOrReads (is_device why) 1 old new

-- What the disk sees of a migration. A stop leaves what it might have left before the call, the
-- journal as it was, or the image of what it gave alone with the next generation.
pub record Migrates {D S : Type 0} (disk : Ghosts D) (pair : S → ℕ)
    (gives : List ℕ → List (List ℕ) → S → Type 0) (spelling : S → List ℕ) (why : Option Refusal)
    (old new : D) : Type 0 where
  pub any_moment : (value : Value) (generation : ℕ) (state : S) →
      Holds pair gives (disk.seen old) value generation state →
      LeavesOnly disk.moment disk.left_since old new (λ bytes. disk.may_leave old bytes
      ⊎ IsBeforeOrAfter value generation (image_alone (spelling state)) (generation + 1) bytes)
  -- and a read gives one of the last two
  pub seen : (value : Value) (generation : ℕ) (state : S) →
      Holds pair gives (disk.seen old) value generation state →
      IsBeforeOrAfter value generation (image_alone (spelling state)) (generation + 1)
      (disk.seen new)
  pub unchanged : (why ≡ None) ⊎ ((why ≡ Some refusal.Device)
      ⊎ Untouched disk.seen disk.may_leave disk.moment disk.left_since old new)
  pub failures : CountsFailures why (disk.failures old) (disk.failures new)
  pub arms : MigratesOrBreaks why (disk.arms old) (disk.arms new)
