-- What became of a worker's work.
use Rattle.std.specs.Prelude.{◌≡◌, Result, Ok, Err}
use Rattle.syn_lock.specs.declared.error.LockError.{LockError}
use Rattle.syn_lock.specs.declared.error.LockError.TheVariants.{Memory, Busy, NoSeat}

-- with a pass it was done, also where the pass was not taken back
abbrev pub IsDone : {W : Type 0} → (W → W → Type 0) → W → W → Result Unit LockError → Type 0
IsDone does old new (Ok x) = does old new
IsDone does old new (Err Memory) = does old new
IsDone does old new (Err NoSeat) = ⊥
IsDone does old new (Err Busy) = ⊥

-- without a pass nothing was done
abbrev pub IsNotDone : {W : Type 0} → W → W → Result Unit LockError → Type 0
IsNotDone old new (Ok x) = ⊥
IsNotDone old new (Err Memory) = ⊥
IsNotDone old new (Err NoSeat) = new ≡ old
IsNotDone old new (Err Busy) = ⊥
