-- Why a call of a replica is refused, as a refusal of the product.
use Rattle.std.specs.Prelude.{Option, Some, None, Result, Ok, Err}
use Rattle.syn_model.specs.Refusal.{Refusal}
use Rattle.syn_model.specs.Refusal as why
use Rattle.syn_tree.specs.Refusals.{refusal_of as of_tree}
use Rattle.syn_history.specs.Refusals.{refusal_of as of_history}
use Rattle.syn_journal.specs.Refusals.{refusal_of as of_journal}
use Rattle.syn_replica.specs.declared.error.ReplicaError.{ReplicaError}
use Rattle.syn_replica.specs.declared.error.ReplicaError.TheVariants.{Tree, History, Journal}
use Rattle.syn_replica.specs.declared.error.ReplicaError.TheVariants.{Memory, Touched, OldSession}
use Rattle.syn_replica.specs.declared.error.ReplicaError.TheVariants.{Damaged, WrongPair}
use Rattle.syn_replica.specs.declared.error.ReplicaError.TheVariants.{OldVersion}

abbrev pub refusal_of : ReplicaError → Refusal
refusal_of (Tree error) = of_tree error
refusal_of (History error) = of_history error
refusal_of (Journal error) = of_journal error
refusal_of Memory = why.Memory
refusal_of Touched = why.Touched
refusal_of OldSession = why.OldSession
refusal_of Damaged = why.Damaged
refusal_of WrongPair = why.WrongPair
refusal_of OldVersion = why.OldVersion

-- why a call was refused, if it was
abbrev pub refusal_in : {X : Type 0} → Result X ReplicaError → Option Refusal
refusal_in (Ok x) = None
refusal_in (Err e) = Some (refusal_of e)
