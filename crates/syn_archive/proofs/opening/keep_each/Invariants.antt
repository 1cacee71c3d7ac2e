use Rattle.std.proofs.Common.{◌≡◌, take}
use Rattle.syn_wire.specs.Versions.{version_of}
use Rattle.syn_archive.specs.inner.Openings.{Replays, archive_read, bytes_of_each}
use Rattle.syn_archive.proofs.opening.keep_each.Given as goal

abbrev pub invariant-loop-payload : goal.invariant-loop-payload
invariant-loop-payload l = record {
  replays : Replays (version_of l.version) (archive_read l.initial.archive)
      (bytes_of_each (take l.payload-index l.payloads)) (archive_read l.archive);
  pair : l.archive.pair ≡ l.initial.archive.pair;
}
