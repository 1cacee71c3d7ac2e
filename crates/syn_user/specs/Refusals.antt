-- Why a user's request is not answered as it was wanted, as a refusal of the product.
use Rattle.syn_model.specs.Refusal.{Refusal}
use Rattle.syn_model.specs.Refusal as why
use Rattle.syn_refusal.specs.Refusals.{cause_of}
use Rattle.syn_user.specs.declared.error.UserError.{UserError}
use Rattle.syn_user.specs.declared.error.UserError.TheVariants.{BadFrame, BadMessage, Device}
use Rattle.syn_user.specs.declared.error.UserError.TheVariants.{Memory, Refused, TooLarge}

abbrev pub refusal_of : UserError → Refusal
refusal_of (Refused refusal) = cause_of refusal
refusal_of Device = why.Device
refusal_of Memory = why.Memory
refusal_of BadFrame = why.BadFrame
refusal_of TooLarge = why.TooLarge
refusal_of BadMessage = why.BadMessage
