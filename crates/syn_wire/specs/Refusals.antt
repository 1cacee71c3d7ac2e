-- Why nothing is written or read, as a refusal of the product.
use Rattle.syn_model.specs.Refusal.{Refusal}
use Rattle.syn_model.specs.Refusal as why
use Rattle.syn_wire.specs.declared.error.WireError.{WireError}
use Rattle.syn_wire.specs.declared.error.WireError.TheVariants.{Memory}

abbrev pub refusal_of : WireError → Refusal
refusal_of Memory = why.Memory
