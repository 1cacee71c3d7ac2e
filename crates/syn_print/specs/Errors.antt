-- Why something is not printed, as a refusal of the product.
use Rattle.syn_model.specs.Refusal.{Refusal}
use Rattle.syn_model.specs.Refusal as why
use Rattle.syn_print.specs.declared.error.PrintError.{PrintError}
use Rattle.syn_print.specs.declared.error.PrintError.TheVariants.{Device, Memory}

abbrev pub refusal_of : PrintError → Refusal
refusal_of (Device error) = why.Device
refusal_of Memory = why.Memory
