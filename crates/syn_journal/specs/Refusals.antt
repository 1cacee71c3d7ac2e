-- The refusals of a journal.
use Rattle.std.specs.Prelude.{◌≡◌, ◌<◌, ℕ, Result, Err, MatchResult}
use Rattle.syn_disk.specs.Arms.{Arms}
use Rattle.syn_disk.specs.Calls.{MakesAtLeast, Breaks, BreaksSometime}
use Rattle.syn_model.specs.Refusal.{Refusal, number}
use Rattle.syn_model.specs.Refusal as why
use Rattle.syn_journal.specs.Layout.{Fault, no_image, damaged}
use Rattle.syn_journal.specs.declared.error.JournalError.{JournalError}
use Rattle.syn_journal.specs.declared.error.JournalError.TheVariants.{Full, JournalFull, Device}
use Rattle.syn_journal.specs.declared.error.JournalError.TheVariants.{Halted, Memory, NoImage}
use Rattle.syn_journal.specs.declared.error.JournalError.TheVariants.{Damaged}

abbrev pub refusal_of : JournalError → Refusal
refusal_of Full = why.Full
refusal_of JournalFull = why.JournalFull
refusal_of Device = why.Device
refusal_of Halted = why.Halted
refusal_of Memory = why.Memory
refusal_of NoImage = why.NoImage
refusal_of Damaged = why.Damaged

abbrev pub number_of : JournalError → ℕ
number_of error = number (refusal_of error)

-- Device is answered where the count of failed calls grew, and any other refusal where it did not.
abbrev pub CountsFailures : JournalError → ℕ → ℕ → Type 0
CountsFailures Device old new = old < new
CountsFailures _ old new = new ≡ old

-- Where Device is answered, the last of at most so many device calls failed, and none was made
-- where any other refusal is.
abbrev pub MakesIfDevice : JournalError → ℕ → Arms → Arms → Type 0
MakesIfDevice Device most old new = Breaks most old new
MakesIfDevice _ most old new = new ≡ old

-- Where Device is answered, the last device call failed, and none where any other refusal is.
abbrev pub AfterReads : ℕ → JournalError → Arms → Arms → Type 0
AfterReads least Device old new = BreaksSometime old new
AfterReads least _ old new = MakesAtLeast least old new

abbrev pub ReadsAtLeast : {T : Type 0} → ℕ → Result T JournalError → Arms → Arms → Type 0
ReadsAtLeast least result old new =
    MatchResult result (λ _. MakesAtLeast least old new) (λ e. AfterReads least e old new)

-- the refusals of each call
abbrev pub IsFormatRefusal : JournalError → Type 0
IsFormatRefusal Full = Unit {0}
IsFormatRefusal Memory = Unit {0}
IsFormatRefusal Device = Unit {0}
IsFormatRefusal _ = ⊥

-- and what each refusal of open says of what the disk stands for
abbrev pub IsOpenRefusal : {X : Type 0} → JournalError → Result X Fault → Type 0
IsOpenRefusal NoImage meaning = meaning ≡ Err no_image
IsOpenRefusal Damaged meaning = meaning ≡ Err damaged
IsOpenRefusal Device meaning = Unit {0}
IsOpenRefusal Memory meaning = Unit {0}
IsOpenRefusal _ meaning = ⊥

abbrev pub IsAppendRefusal : JournalError → Type 0
IsAppendRefusal Halted = Unit {0}
IsAppendRefusal JournalFull = Unit {0}
IsAppendRefusal Memory = Unit {0}
IsAppendRefusal Device = Unit {0}
IsAppendRefusal _ = ⊥

abbrev pub IsCheckpointRefusal : JournalError → Type 0
IsCheckpointRefusal Halted = Unit {0}
IsCheckpointRefusal Full = Unit {0}
IsCheckpointRefusal Memory = Unit {0}
IsCheckpointRefusal Device = Unit {0}
IsCheckpointRefusal _ = ⊥
