use Rattle.std.proofs.Common.{◌≡◌, ◌⊎◌, ℕ, ◌-◌, ◌<◌, ◌≤◌, length}
use Rattle.std.specs.Prelude.{if◌then◌else◌, slice_index}
use Rattle.syn_disk.specs.Written.{is_written}
use Rattle.syn_disk.proofs.simulated.part.complement.Given as goal

abbrev pub invariant-loop-i : goal.invariant-loop-i
invariant-loop-i l = record {
  size : length l.content ≡ length l.initial.content;
  done : (k : ℕ) → l.from ≤ k → k < l.i → slice_index l.content k ≡ (if is_written l.written k
      then 255 - slice_index l.initial.content k else slice_index l.initial.content k);
  others : (k : ℕ) → (k < l.from) ⊎ (l.i ≤ k) →
      slice_index l.content k ≡ slice_index l.initial.content k;
}
