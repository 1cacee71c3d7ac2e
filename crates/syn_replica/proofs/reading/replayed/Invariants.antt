use Rattle.std.proofs.Common.{take}
use Rattle.syn_wire.specs.Versions.{version_of}
use Rattle.syn_replica.specs.Readings.{Replays, bytes_of_each}
use Rattle.syn_replica.proofs.reading.replayed.Given as goal

abbrev pub invariant-loop-payload : goal.invariant-loop-payload
invariant-loop-payload l =
    Replays (version_of l.fn.version) l.fn.first
    (bytes_of_each (take l.payload-index l.payloads)) l.standing
