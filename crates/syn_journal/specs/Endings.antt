-- How a call of a machine ended, and what its device saw of it.
use Rattle.std.specs.Prelude.{◌≡◌, ◌<◌, ℕ, Bool, true, false, Result, Ok, Err, Option, Some, None}
use Rattle.syn_disk.specs.Arms.{Arms}
use Rattle.syn_disk.specs.Calls.{Makes, MakesAtLeast, Breaks, BreaksSometime}
use Rattle.syn_disk.specs.Stops.{Untouched}
use Rattle.syn_disk.specs.declared.disk.Disk.{Ghosts}
use Rattle.syn_model.specs.Refusal.{Refusal, Device}

-- why a call was refused, if it was
abbrev pub ended : {X E : Type 0} → (E → Refusal) → Result X E → Option Refusal
ended why (Ok x) = None
ended why (Err e) = Some (why e)

abbrev pub is_device : Refusal → Bool
is_device Device = true
is_device _ = false

-- the count of failed calls grew, or not
abbrev pub Grows : Bool → ℕ → ℕ → Type 0
Grows true old new = old < new
Grows false old new = new ≡ old

-- it grew exactly where 9 was answered
abbrev pub CountsFailures : Option Refusal → ℕ → ℕ → Type 0
CountsFailures None old new = new ≡ old
CountsFailures (Some why) old new = Grows (is_device why) old new

-- the last of at most so many device calls failed, or none was made
abbrev pub BreaksIf : Bool → ℕ → Arms → Arms → Type 0
BreaksIf true most old new = Breaks most old new
BreaksIf false most old new = new ≡ old

-- all these device calls were made where the call succeeded, the last that was made failed where 9
-- was answered, and none was made where anything else was
abbrev pub MakesOrBreaks : ℕ → Option Refusal → Arms → Arms → Type 0
MakesOrBreaks calls None old new = Makes calls old new
MakesOrBreaks calls (Some why) old new = BreaksIf (is_device why) calls old new

-- the last of some device calls failed, or at least so many were made and none of them failed
abbrev pub BreaksOrReads : Bool → ℕ → Arms → Arms → Type 0
BreaksOrReads true least old new = BreaksSometime old new
BreaksOrReads false least old new = MakesAtLeast least old new

-- none of the device calls failed, except that the last did where 9 was answered
abbrev pub ReadsOrBreaks : ℕ → Option Refusal → Arms → Arms → Type 0
ReadsOrBreaks least None old new = MakesAtLeast least old new
ReadsOrBreaks least (Some why) old new = BreaksOrReads (is_device why) least old new

-- what a device sees of a call that makes so many device calls
pub record Spends {D : Type 0} (disk : Ghosts D) (calls : ℕ) (why : Option Refusal)
    (old new : D) : Type 0 where
  pub failures : CountsFailures why (disk.failures old) (disk.failures new)
  pub arms : MakesOrBreaks calls why (disk.arms old) (disk.arms new)

-- and of one that writes nothing: a sync, and then reads, whose number is not fixed
pub record Reads {D : Type 0} (disk : Ghosts D) (why : Option Refusal) (old new : D)
    : Type 0 where
  pub untouched : Untouched disk.seen disk.may_leave disk.moment disk.left_since old new
  pub failures : CountsFailures why (disk.failures old) (disk.failures new)
  pub arms : ReadsOrBreaks 1 why (disk.arms old) (disk.arms new)
