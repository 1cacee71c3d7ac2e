-- The other lines that tell how a session goes.
use Rattle.std.specs.Prelude.{ℕ, List, ◌++◌, codes}
use Rattle.std.specs.Fmt.{decimal}
use Rattle.syn_model.specs.Path.{Path}
use Rattle.syn_model.specs.Refusal.{Refusal, number}
use Rattle.syn_path.specs.Paths.{printed_form}

abbrev pub conflict_line : Path → List ℕ
conflict_line path = codes "conflict " ++ (printed_form path ++ codes "\n")

abbrev pub refused_line : Refusal → Path → List ℕ
refused_line cause path = codes "refused "
    ++ (decimal (number cause) ++ (codes " " ++ (printed_form path ++ codes "\n")))

-- how many items of the plan were settled, and how many bytes were fetched
abbrev pub count_line : ℕ → ℕ → ℕ → List ℕ
count_line settled planned fetched = decimal settled
    ++ (codes " of " ++ (decimal planned
    ++ (codes " items, " ++ (decimal fetched ++ codes " bytes"))))
