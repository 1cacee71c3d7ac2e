use Rattle.std.proofs.Common.{◌≡◌, ◌++◌, take}
use Rattle.syn_image.specs.inner.Pasts.{each_spelling}
use Rattle.syn_image.proofs.image.write_each.Given as goal

abbrev pub invariant-loop-touch : goal.invariant-loop-touch
invariant-loop-touch l =
    l.out.items ≡ l.initial.out.items ++ each_spelling (take l.touch-index l.touches)
