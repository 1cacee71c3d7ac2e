-- A machine that keeps a value in a journal on its device: an opening, a record, a checkpoint, a
-- stop and a failure.
use Rattle.std.specs.Prelude.{ℕ, suc, Bool, true, false, nat_le, ◌||◌, ◌+◌, ◌-◌, ◌<◌, ◌≡◌, ◌⊎◌}
use Rattle.std.specs.Prelude.{List, [], ◌∷◌, length, Option, Some, None}
use Rattle.syn_model.specs.Limits.{half_size}
use Rattle.syn_model.specs.Path.{Bytes}

pub data Status : Type 0 where
  Up : Status
  Halted : Status
  Down : Status

-- the device call that fails unmade, and the one after which the machine is down, counted from the
-- next, which is 1; 0 is none, and a stop at 0 arms nothing but stops the machine at once
pub record Arms : Type 0 where
  pub fail : ℕ
  pub stop : ℕ

abbrev pub unarmed : Arms
unarmed = record { fail = 0; stop = 0 }

-- so many calls are over before the armed one comes, or none is armed
abbrev pub IsBefore : ℕ → ℕ → Type 0
IsBefore calls armed = (armed ≡ 0) ⊎ (calls < armed)

-- what is still to come after so many calls
abbrev pub after_calls : ℕ → Arms → Arms
after_calls calls arms = record { fail = arms.fail - calls; stop = arms.stop - calls }

-- So many device calls in a row: the status and the arms after them, and how many of them failed.
-- All are made, or one fails, by itself or as it was armed, or the machine is down after one, as a
-- stop was armed, and hears no more of that one
pub data Meets (arms : Arms) (calls : ℕ) : Status → Arms → ℕ → Type 0 where
  all_made : IsBefore calls arms.fail → IsBefore calls arms.stop →
      Meets arms calls Up (after_calls calls arms) 0
  one_fails : (made : ℕ) → made < calls → IsBefore made arms.fail → IsBefore (suc made) arms.stop →
      Meets arms calls Halted (after_calls (suc made) arms) 1
  one_stops : (made : ℕ) → made < calls → IsBefore made arms.fail → arms.stop ≡ suc made →
      Meets arms calls Down unarmed 0

-- What it stands for, how many bytes its journal has left, and its generation; where it stopped or
-- its device failed, whether a checkpoint and which record was being written; and how many of its
-- device calls failed
pub record Journaled (V W : Type 0) : Type 0 where
  pub status : Status
  pub value : V
  pub room : ℕ
  pub generation : ℕ
  pub compacting : Bool
  pub writing : Option W
  pub arms : Arms
  pub failures : ℕ

-- what a record makes of a value, whether it changes nothing there and so is not written,
-- and the bytes of a record and of an image
pub record Layout (V W : Type 0) : Type 0 where
  pub after : V → W → V
  pub is_idle : V → W → Bool
  pub payload : W → Bytes
  pub image : V → Bytes

-- a record in a journal is a gate, a length of four bytes and its payload
abbrev pub record_size : Bytes → ℕ
record_size payload = 5 + length payload

-- the bytes of a half of the disk but for the image, what stands before it
-- (a gate, a generation, its length) and a gate after it
abbrev pub room_after : Bytes → ℕ
room_after image = half_size - (14 + length image)

-- the record need not be written, or fits into what the journal has left
abbrev pub has_room : {V W : Type 0} → Layout V W → Journaled V W → W → Bool
has_room layout machine kept =
    layout.is_idle machine.value kept || nat_le (record_size (layout.payload kept)) machine.room

-- how device calls left the machine, and how many failed
abbrev pub after_device : {V W : Type 0} → Journaled V W → Status → Arms → ℕ → Journaled V W
after_device machine status arms failed =
    record machine { status = status; arms = arms; failures = machine.failures + failed }

-- a machine that stops forgets what was armed at it
abbrev pub cut : {V W : Type 0} → Journaled V W → Journaled V W
cut machine = record machine { status = Down; arms = unarmed }

-- with the record
abbrev pub with_record : {V W : Type 0} → Layout V W → Journaled V W → W → Arms → Journaled V W
with_record layout machine kept arms = record machine {
  value = layout.after machine.value kept;
  room = machine.room - record_size (layout.payload kept);
  arms = arms;
}

-- the image alone stands in the journal, with the next generation
abbrev pub with_image : {V W : Type 0} → Layout V W → Journaled V W → Arms → Journaled V W
with_image layout machine arms = record machine {
  room = room_after (layout.image machine.value);
  generation = suc machine.generation;
  arms = arms;
}

-- A record is written by four device calls and acknowledged; or one of them fails, or a stop cuts
-- it off. One that changes nothing is acknowledged and not written
pub data Writes {V W : Type 0} (layout : Layout V W) (machine : Journaled V W)
    (kept : W) : Journaled V W → List W → Type 0 where
  idle : layout.is_idle machine.value kept ≡ true →
      Writes layout machine kept (record machine { value = layout.after machine.value kept })
      (kept ∷ [])
  written : (arms : Arms) → layout.is_idle machine.value kept ≡ false →
      Meets machine.arms 4 Up arms 0 →
      Writes layout machine kept (with_record layout machine kept arms) (kept ∷ [])
  unwritten : (status : Status) (arms : Arms) (failed : ℕ) →
      layout.is_idle machine.value kept ≡ false →
      (status ≡ Halted) ⊎ (status ≡ Down) → Meets machine.arms 4 status arms failed →
      Writes layout machine kept (after_device (record machine {
        writing = Some kept;
      }) status arms failed) []

-- A checkpoint makes six device calls. One that fails or is cut off is under way until the next
-- opening
pub data Compacts {V W : Type 0} (layout : Layout V W) (machine : Journaled V W) : Journaled V W →
    Type 0 where
  compacted : (arms : Arms) → Meets machine.arms 6 Up arms 0 →
      Compacts layout machine (with_image layout machine arms)
  not_compacted : (status : Status) (arms : Arms) (failed : ℕ) → (status ≡ Halted)
      ⊎ (status ≡ Down) →
      Meets machine.arms 6 status arms failed →
      Compacts layout machine (after_device (record machine {
        compacting = true;
      }) status arms failed)

-- the journal is as it was left, or as the checkpoint that was under way leaves it
abbrev pub IsAsLeft : {V W : Type 0} → Layout V W → Journaled V W → ℕ → ℕ → Type 0
IsAsLeft layout machine room generation =
    ((room ≡ machine.room) × (generation ≡ machine.generation))
    ⊎ ((machine.compacting ≡ true) × (room ≡ room_after (layout.image machine.value))
    × (generation ≡ suc machine.generation))

-- what an opening leaves of a machine, beside its value
abbrev pub reopened : {V W : Type 0} → Journaled V W → ℕ → ℕ → Arms → Journaled V W
reopened machine room generation arms = record machine {
  status = Up;
  room = room;
  generation = generation;
  compacting = false;
  writing = None;
  arms = arms;
}

-- An opening by so many device calls gives the value; or, with it, the record that was being
-- written
pub data Opens {V W : Type 0} (layout : Layout V W) (CanKeep : V → W → Type 0)
    (machine : Journaled V W) (calls : ℕ) :
    Journaled V W → List W → Type 0 where
  opened : (room generation : ℕ) (arms : Arms) → Meets machine.arms calls Up arms 0 →
      IsAsLeft layout machine room generation →
      Opens layout CanKeep machine calls (reopened machine room generation arms) []
  recovered : (arms : Arms) (kept : W) → Meets machine.arms calls Up arms 0 →
      machine.writing ≡ Some kept →
      CanKeep machine.value kept →
      Opens layout CanKeep machine calls (with_record layout (reopened machine machine.room
      machine.generation arms) kept arms) (kept ∷ [])
