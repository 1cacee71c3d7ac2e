use Rattle.std.proofs.Common.{◌≡◌, ◌+◌, take}
use Rattle.syn_journal.specs.Batches.{bytes_of_each, records_size}
use Rattle.syn_journal.proofs.journal.batch.size_within.Given as goal

abbrev pub invariant-loop-payload : goal.invariant-loop-payload
invariant-loop-payload l =
    l.left + records_size (bytes_of_each (take l.payload-index l.payloads)) ≡ l.most
