use Rattle.std.proofs.Common.{◌≡◌, length}
use Rattle.std.specs.Io.KnownBytes.{Consumes}
use Rattle.syn_folder.proofs.system.streams.all_names.Given as goal

abbrev pub invariant-loop-turn : goal.invariant-loop-turn
invariant-loop-turn g l = record {
  consumed : Consumes (g.D.Read.remaining l.fn.dir) (g.D.Read.remaining l.dir) l.names.items;
  room : length l.chunk ≡ 4096;
}
