-- Why a connection is closed, as a refusal of the product.
use Rattle.syn_model.specs.Refusal.{Refusal}
use Rattle.syn_model.specs.Refusal as why
use Rattle.syn_serve.specs.declared.error.ServeError.{ServeError}
use Rattle.syn_serve.specs.declared.error.ServeError.TheVariants.{BadFrame, BadMessage}
use Rattle.syn_serve.specs.declared.error.ServeError.TheVariants.{BegunElsewhere, Device, Memory}
use Rattle.syn_serve.specs.declared.error.ServeError.TheVariants.{TooLarge}

abbrev pub refusal_of : ServeError → Refusal
refusal_of Device = why.Device
refusal_of Memory = why.Memory
refusal_of BadFrame = why.BadFrame
refusal_of TooLarge = why.TooLarge
refusal_of BadMessage = why.BadMessage
refusal_of BegunElsewhere = why.OldSession
