use Rattle.std.proofs.Common.{◌≡◌, map, take}
use Rattle.std.specs.Prelude.{All}
use Rattle.syn_model.specs.Path.{IsName}
use Rattle.syn_path.proofs.path.parse_names.Given as goal

abbrev pub invariant-loop-piece : goal.invariant-loop-piece
invariant-loop-piece l = record {
  so_far : l.names.items ≡ map (λ p. p.now) (take l.piece-index l.pieces);
  lawful : All IsName l.names.items;
}
