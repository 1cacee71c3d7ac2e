-- Why a frame is neither read nor written, as a refusal of the product.
use Rattle.syn_model.specs.Refusal.{Refusal}
use Rattle.syn_model.specs.Refusal as why
use Rattle.syn_link.specs.declared.error.LinkError.{LinkError}
use Rattle.syn_link.specs.declared.error.LinkError.TheVariants.{BadFrame, TooLarge, Device, Memory}

abbrev pub refusal_of : LinkError → Refusal
refusal_of BadFrame = why.BadFrame
refusal_of TooLarge = why.TooLarge
refusal_of Device = why.Device
refusal_of Memory = why.Memory
