use Rattle.std.proofs.Common.{◌≡◌, take}
use Rattle.syn_world.proofs.copies.copy_refused.Given as goal

abbrev pub invariant-loop-why : goal.invariant-loop-why
invariant-loop-why l = l.copies.items ≡ take l.why-index l.source
