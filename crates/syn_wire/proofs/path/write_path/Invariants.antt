use Rattle.std.proofs.Common.{◌≡◌, ◌++◌, take}
use Rattle.syn_wire.specs.Names.{names_spelling}
use Rattle.syn_wire.proofs.path.write_path.Given as goal

abbrev pub invariant-loop-name : goal.invariant-loop-name
invariant-loop-name l =
    l.out.items ≡ l.initial.out.items ++ names_spelling (take l.name-index l.names)
