-- Why a folder and a replica are not reconciled, as a refusal of the product.
use Rattle.syn_archive.specs.Refusals.{refusal_of as of_archive}
use Rattle.syn_model.specs.Refusal.{Refusal}
use Rattle.syn_model.specs.Refusal as why
use Rattle.syn_refusal.specs.Refusals.{cause_of}
use Rattle.syn_replica.specs.ErrorRefusals.{refusal_of as of_replica}
use Rattle.syn_reconcile.specs.declared.error.ReconcileError.{ReconcileError}
use Rattle.syn_reconcile.specs.declared.error.ReconcileError.TheVariants.{Empty, TooMany, OtherPair}
use Rattle.syn_reconcile.specs.declared.error.ReconcileError.TheVariants.{Unplanned, Unready}
use Rattle.syn_reconcile.specs.declared.error.ReconcileError.TheVariants.{Archive, Memory, Replica}

abbrev pub refusal_of : ReconcileError → Refusal
refusal_of (Empty side) = why.Absent
refusal_of TooMany = why.Full
refusal_of OtherPair = why.WrongPair
refusal_of (Unplanned refusal) = cause_of refusal
refusal_of (Unready refusal) = cause_of refusal
refusal_of (Replica error) = of_replica error
refusal_of (Archive error) = of_archive error
refusal_of Memory = why.Memory
