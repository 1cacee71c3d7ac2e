-- Why a call is refused, as a refusal of the product.
use Rattle.syn_model.specs.Refusal.{Refusal}
use Rattle.syn_model.specs.Refusal as why
use Rattle.syn_dirty.specs.declared.error.DirtyError.{DirtyError}
use Rattle.syn_dirty.specs.declared.error.DirtyError.TheVariants.{Memory}

abbrev pub refusal_of : DirtyError → Refusal
refusal_of Memory = why.Memory
