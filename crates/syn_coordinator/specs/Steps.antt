-- What a call of the archive is to its machine, as the archive says it.
pub use Rattle.syn_archive.specs.Machines.{Moves, moves_on, moves_down, KeepsSo, CompactsSo}
