use Rattle.std.proofs.Common.{◌≡◌, ◌++◌}
use Rattle.syn_wire.specs.Names.{AreNames, names_spelling}
use Rattle.syn_wire.proofs.reader.Reader.names.Given as goal

abbrev pub invariant-loop-read : goal.invariant-loop-read
invariant-loop-read l = record {
  so_far : AreNames l._read l.names.items;
  spelled : l.initial.self ≡ names_spelling l.names.items ++ l.self;
}
