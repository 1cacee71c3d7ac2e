use Rattle.std.proofs.Common.{◌≡◌, ℕ, false, vec_len, slice_index_or, ◌≤◌}
use Rattle.syn_simulate.proofs.notes.note.Given as goal

abbrev pub invariant-loop : goal.invariant-loop
invariant-loop l = record {
  grown : l.counter ≤ vec_len l.flags;
  same : (other : ℕ) → slice_index_or l.flags.items other false
      ≡ slice_index_or l.fn.delivered.items other false;
}
