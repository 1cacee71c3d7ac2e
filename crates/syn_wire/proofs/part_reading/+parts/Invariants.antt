use Rattle.std.proofs.Common.{◌+◌, ◌-◌, length}
use Rattle.syn_wire.specs.Versions.{version_of}
use Rattle.syn_wire.proofs.ListedLemmas.{ListedSoFar}
use Rattle.syn_wire.proofs.PartsLemmas.{ReadSoFar}
use Rattle.syn_wire.proofs.part_reading.+parts.Given as goal

-- three calls a name
abbrev pub decreases-read_parts : goal.decreases-read_parts
decreases-read_parts g l =
    (16 - length l.above.now) + (16 - length l.above.now) + (16 - length l.above.now)

abbrev pub decreases-read_directory_at : goal.decreases-read_directory_at
decreases-read_directory_at g l =
    (16 - length l.path) + (16 - length l.path) + (16 - length l.path) + 1

abbrev pub decreases-read_part : goal.decreases-read_part
decreases-read_part g l = (16 - length l.path) + (16 - length l.path) + (16 - length l.path) + 2

abbrev pub invariant-read_parts-loop-read : goal.invariant-read_parts-loop-read
invariant-read_parts-loop-read g l = record {
  so_far : ReadSoFar (g.C.Readable.kind (version_of l.version)) l.above l.count l._read
      l.initial.reader l.reader l.initial.list.items l.list.items;
  spelled : ListedSoFar (g.C.Readable.kind (version_of l.version)) l.above l._read l.initial.reader
      l.reader l.initial.list.items l.list.items;
}
