use Rattle.std.proofs.Common.{take}
use Rattle.syn_print.proofs.KnownLemmas.{AddsUpTo}
use Rattle.syn_print.proofs.log.reading.push_events.Given as goal
use Rattle.syn_replica.specs.Readings.{bytes_of_each}

abbrev pub invariant-loop-payload : goal.invariant-loop-payload
invariant-loop-payload l =
    AddsUpTo l.first l.position (bytes_of_each (take l.payload-index l.payloads))
    l.initial.logged.items l.logged.items
