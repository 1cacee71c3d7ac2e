-- What the device calls of a call on a journal are to the machine that makes it.
use Rattle.std.specs.Prelude.{ℕ, true, false, ◌+◌, ◌≤◌, ◌≡◌}
use Rattle.std.specs.Option.{option_map_or}
use Rattle.syn_disk.specs.Arms.{Arms as DiskArms, is_stopped}
use Rattle.syn_disk.specs.Calls.{Makes, MakesAtLeast, Breaks}
use Rattle.syn_machine.specs.Machine.{Status, Up, Halted, Down, Arms, unarmed, Meets, IsBefore}
use Rattle.syn_machine.specs.Machine.{Journaled}

-- what is armed at the machine of a disk that was not stopped yet
abbrev pub armed_at : DiskArms → Arms
armed_at arms = record { fail = arms.failure; stop = option_map_or (λ calls. calls) arms.stop 0 }

-- So many device calls of a disk that was not stopped before them: its machine met this, or it went
-- down among them, which is where the disk is stopped now
pub data CallsMeet (old new : DiskArms) (calls : ℕ) (status : Status) (failed : ℕ) : Type 0 where
  goes_on : is_stopped new ≡ false → Meets (armed_at old) calls status (armed_at new) failed →
      CallsMeet old new calls status failed
  goes_down : is_stopped new ≡ true → Meets (armed_at old) calls Down unarmed 0 →
      CallsMeet old new calls status failed

-- a call that succeeds: the machine is up, or its stop came right after the last device call
abbrev pub MadeCallsMeet : Type 0
MadeCallsMeet = (calls : ℕ) (old new : DiskArms) → is_stopped old ≡ false → Makes calls old new →
    CallsMeet old new calls Up 0

-- where such a call succeeds and the machine went down, the stop was armed after its last device
-- call
abbrev pub StopsAfter : Type 0
StopsAfter = (calls : ℕ) (old new : DiskArms) → is_stopped old ≡ false → Makes calls old new →
    is_stopped new ≡ true →
    ((armed_at old).stop ≡ calls) × IsBefore calls (armed_at old).fail

-- a call that is refused 9: one device call of the machine failed, by itself or as it was armed,
-- and halts it
abbrev pub BrokenCallsMeet : Type 0
BrokenCallsMeet = (most : ℕ) (old new : DiskArms) → is_stopped old ≡ false → Breaks most old new →
    CallsMeet old new most Halted 1

-- an opening that gives a value, or is refused otherwise, by as many device calls as it makes
abbrev pub MadeReadsMeet : Type 0
MadeReadsMeet = (least : ℕ) (old new : DiskArms) → is_stopped old ≡ false →
    MakesAtLeast least old new →
    (calls : ℕ) × (least ≤ calls) × CallsMeet old new calls Up 0

-- The machine counts no more failed calls than its disk, whose count was the first and is the
-- second: so where no call of the disk failed, none of the machine's did
abbrev pub CountsNoMore : {V W : Type 0} → ℕ → ℕ → Journaled V W → Journaled V W → Type 0
CountsNoMore before after old new = new.failures + before ≤ old.failures + after

-- a disk with these arms was not stopped, and nothing is armed at it
pub record IsFree (arms : DiskArms) : Type 0 where
  pub goes : is_stopped arms ≡ false
  pub unarmed_is : armed_at arms ≡ unarmed

-- and so it is after calls none of which failed
abbrev pub StaysFree : Type 0
StaysFree = (least : ℕ) (old new : DiskArms) → IsFree old → MakesAtLeast least old new → IsFree new
