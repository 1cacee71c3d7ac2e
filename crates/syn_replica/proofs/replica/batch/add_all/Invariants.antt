use Rattle.std.proofs.Common.{◌≡◌, ◌≤◌, ◌-◌, ◌++◌, ℕ, None, length, map}
use Rattle.syn_journal.specs.Batches.{bytes_of_each, records_size}
use Rattle.syn_replica.specs.Edits.{event_by}
use Rattle.syn_replica.specs.inner.Batches.{AddsAll, add_all_refusal_at}
use Rattle.syn_replica.proofs.replica.batch.add_all.Given as goal

abbrev pub invariant-loop-edit : goal.invariant-loop-edit
invariant-loop-edit l = record {
  whole : l.fn.edits.items ≡ l.yielded ++ l.edit-iterator.rest.items;
  added : AddsAll l.fn.first (map (event_by l.user) l.yielded) (bytes_of_each l.payloads.items)
      l.standing;
  count : length l.payloads.items ≡ length l.yielded;
  room : l.left ≡ l.room - records_size (bytes_of_each l.payloads.items);
  fits : (left : ℕ) → l.room ≡ left - 5 → records_size (bytes_of_each l.payloads.items) ≤ left;
  passed : add_all_refusal_at l.room l.fn.first (map (event_by l.user) l.yielded) ≡ None;
}
