-- Why a call of a shared replica is refused, as a refusal of the product.
use Rattle.std.specs.Prelude.{Option, Some, None, Result, Ok, Err}
use Rattle.syn_model.specs.Refusal.{Refusal}
use Rattle.syn_model.specs.Refusal as why
use Rattle.syn_replica.specs.ErrorRefusals.{refusal_of as of_replica}
use Rattle.syn_replica.specs.declared.error.ReplicaError.{ReplicaError}
use Rattle.syn_shared.specs.declared.error.SharedError.{SharedError}
use Rattle.syn_shared.specs.declared.error.SharedError.TheVariants.{Busy, Replica}

abbrev pub refusal_of : SharedError → Refusal
refusal_of Busy = why.Busy
refusal_of (Replica error) = of_replica error

-- what the replica answered, or none where the lock was taken and it was not asked
abbrev pub answer_in : {X : Type 0} → Result X SharedError → Option (Result X ReplicaError)
answer_in (Ok x) = Some (Ok x)
answer_in (Err (Replica e)) = Some (Err e)
answer_in (Err Busy) = None
