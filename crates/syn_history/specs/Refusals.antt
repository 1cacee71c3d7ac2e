-- Why a call of a trail is refused, as a refusal of the product.
use Rattle.syn_model.specs.Refusal.{Refusal}
use Rattle.syn_model.specs.Refusal as why
use Rattle.syn_history.specs.declared.error.HistoryError.{HistoryError}
use Rattle.syn_history.specs.declared.error.HistoryError.TheVariants.{Full, Memory, BelowFloor}

abbrev pub refusal_of : HistoryError → Refusal
refusal_of Full = why.Full
refusal_of Memory = why.Memory
refusal_of BelowFloor = why.BelowFloor
