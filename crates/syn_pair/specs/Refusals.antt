-- Why no session begins, as a refusal of the product.
use Rattle.syn_model.specs.Refusal.{Refusal, Busy, Full, OldSession, WrongPair}
use Rattle.syn_pair.specs.declared.check.Cause.{Cause}
use Rattle.syn_pair.specs.declared.check.Cause.TheVariants as cause
use Rattle.syn_pair.specs.declared.check.Mismatch.{Mismatch}
use Rattle.syn_pair.specs.declared.check.Mismatch.TheVariants as mismatch

-- the archive is older, or the side is another one or an older one
abbrev pub refusal_for : Cause → Refusal
refusal_for (cause.OlderArchive archive side) = OldSession
refusal_for (cause.OlderThanKnown archive known) = OldSession
refusal_for (cause.OlderKnown known side) = OldSession
refusal_for (cause.Unknown archive side) = WrongPair
refusal_for cause.OtherReplica = WrongPair
refusal_for (cause.OlderSession known side) = WrongPair
refusal_for cause.OlderReplacement = WrongPair
refusal_for (cause.OlderPosition known side) = WrongPair
refusal_for (cause.OtherEvent place) = WrongPair

abbrev pub refusal_of : Mismatch → Refusal
refusal_of mismatch.OneReplica = Busy
refusal_of (mismatch.OtherPair side) = WrongPair
refusal_of (mismatch.LastSession side) = Full
refusal_of (mismatch.Of side why) = refusal_for why
