use Rattle.std.proofs.Common.{◌≡◌, take}
use Rattle.syn_journal.specs.Batches.{bytes_of_each}
use Rattle.syn_journal.specs.Layout.{records_of}
use Rattle.syn_journal.proofs.journal.batch.records_and_gate.Given as goal

abbrev pub invariant-loop-payload : goal.invariant-loop-payload
invariant-loop-payload l =
    l.records.items ≡ records_of (bytes_of_each (take l.payload-index l.payloads))
