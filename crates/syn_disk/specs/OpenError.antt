-- Why a disk in a file cannot be opened, as a refusal of the product.
use Rattle.std.specs.Prelude.{ℕ}
use Rattle.syn_model.specs.Refusal.{Refusal, number}
use Rattle.syn_model.specs.Refusal as why
use Rattle.syn_disk.specs.declared.error.OpenError.{OpenError}
use Rattle.syn_disk.specs.declared.error.OpenError.TheVariants.{System, Length, Sync, Memory, Busy}

abbrev pub refusal_of : OpenError → Refusal
refusal_of (System error) = why.Device
refusal_of (Length bytes) = why.Device
refusal_of Sync = why.Device
refusal_of Memory = why.Memory
refusal_of Busy = why.Busy

abbrev pub number_of : OpenError → ℕ
number_of error = number (refusal_of error)
