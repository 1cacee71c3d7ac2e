use Rattle.std.proofs.Common.{◌≡◌, map, take}
use Rattle.syn_image.specs.Archives.{kept_of}
use Rattle.syn_world.proofs.copies.copy_kept.Given as goal

abbrev pub invariant-loop-kept : goal.invariant-loop-kept
invariant-loop-kept l = map kept_of l.copies.items ≡ map kept_of (take l.kept-index l.source)
