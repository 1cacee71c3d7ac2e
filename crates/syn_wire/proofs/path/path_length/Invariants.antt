use Rattle.std.proofs.Common.{◌∷◌, ◌≡◌, ◌+◌, ◌*◌, ◌≤◌, length, take}
use Rattle.std.specs.List.{flat_map}
use Rattle.syn_wire.proofs.path.path_length.Given as goal

abbrev pub invariant-loop-name : goal.invariant-loop-name
invariant-loop-name l = record {
  so_far : l.length ≡ 1 + length
      (flat_map (λ name. length name ∷ name) (take l.name-index l.name-items));
  small : l.length ≤ 1 + 65 * l.name-index;
}
