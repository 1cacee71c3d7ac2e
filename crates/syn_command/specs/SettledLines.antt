-- The lines that tell that an item was settled on both sides.
use Rattle.std.specs.Prelude.{ℕ, List, ◌++◌, codes}
use Rattle.syn_model.specs.Path.{Path}
use Rattle.syn_path.specs.Paths.{printed_form}

abbrev pub carried_line : Path → List ℕ
carried_line path = codes "carried " ++ (printed_form path ++ codes "\n")

abbrev pub marked_line : Path → List ℕ
marked_line path = codes "marked " ++ (printed_form path ++ codes "\n")
