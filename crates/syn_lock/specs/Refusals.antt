-- Why a call of the lock is refused, as a refusal of the product.
use Rattle.syn_model.specs.Refusal.{Refusal}
use Rattle.syn_model.specs.Refusal as why
use Rattle.syn_lock.specs.declared.error.LockError.{LockError}
use Rattle.syn_lock.specs.declared.error.LockError.TheVariants.{Memory, Busy, NoSeat}

abbrev pub refusal_of : LockError → Refusal
refusal_of Memory = why.Memory
refusal_of Busy = why.Busy
refusal_of NoSeat = why.NoSeat
