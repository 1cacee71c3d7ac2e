-- Why no path is given, as a refusal of the product.
use Rattle.syn_model.specs.Refusal.{Refusal}
use Rattle.syn_model.specs.Refusal as why
use Rattle.syn_path.specs.declared.error.PathError.{PathError}
use Rattle.syn_path.specs.declared.error.PathError.TheVariants.{BadPath, Memory}

abbrev pub refusal_of : PathError → Refusal
refusal_of BadPath = why.BadPath
refusal_of Memory = why.Memory
