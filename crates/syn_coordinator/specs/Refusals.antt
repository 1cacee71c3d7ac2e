-- Why a session does not start, as a refusal of the product.
use Rattle.std.specs.Prelude.{◌≡◌, ◌<◌, ℕ}
use Rattle.syn_model.specs.Refusal.{Refusal}
use Rattle.syn_model.specs.Refusal as why
use Rattle.syn_coordinator.specs.declared.error.StartError.{StartError}
use Rattle.syn_coordinator.specs.declared.error.StartError.TheVariants.{Full, JournalFull, Device}
use Rattle.syn_coordinator.specs.declared.error.StartError.TheVariants.{Halted, Memory, Busy}

abbrev pub refusal_of : StartError → Refusal
refusal_of Full = why.Full
refusal_of JournalFull = why.JournalFull
refusal_of Device = why.Device
refusal_of Halted = why.Halted
refusal_of Memory = why.Memory
refusal_of Busy = why.Busy

-- Device is answered where the count of failed calls grew, and any other refusal where it did not
abbrev pub CountsFailures : StartError → ℕ → ℕ → Type 0
CountsFailures Device old new = old < new
CountsFailures _ old new = new ≡ old
