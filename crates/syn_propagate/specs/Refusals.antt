-- Why a transfer goes no further, as a refusal of the product.
use Rattle.syn_model.specs.Refusal.{Refusal}
use Rattle.syn_model.specs.Refusal as why
use Rattle.syn_propagate.specs.declared.error.TransferError.{TransferError}
use Rattle.syn_propagate.specs.declared.error.TransferError.TheVariants.{BadMessage, Memory}

abbrev pub refusal_of : TransferError → Refusal
refusal_of BadMessage = why.BadMessage
refusal_of Memory = why.Memory
