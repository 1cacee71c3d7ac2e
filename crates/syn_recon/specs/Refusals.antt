-- Why a call is refused, as a refusal of the product.
use Rattle.syn_model.specs.Refusal.{Refusal}
use Rattle.syn_model.specs.Refusal as why
use Rattle.syn_recon.specs.declared.error.PlanError.{PlanError}
use Rattle.syn_recon.specs.declared.error.PlanError.TheVariants.{Memory}

abbrev pub refusal_of : PlanError → Refusal
refusal_of Memory = why.Memory
