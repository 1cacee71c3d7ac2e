use Rattle.std.proofs.Common.{◌≡◌, ◌++◌}
use Rattle.syn_image.specs.inner.Pasts.{HasTouches, each_spelling}
use Rattle.syn_image.proofs.image_reading.read_each.Given as goal

abbrev pub invariant-loop-read : goal.invariant-loop-read
invariant-loop-read l = record {
  so_far : HasTouches l._read l.touches.items;
  spelled : l.initial.reader ≡ each_spelling l.touches.items ++ l.reader;
}
