-- The lines that are printed of a session that ended.
use Rattle.std.specs.Prelude.{ℕ, Bool, List, [], ◌∷◌, length, map, flat_map, ◌++◌, codes}
use Rattle.std.specs.Prelude.{Option, Some, None, if◌then◌else◌}
use Rattle.std.specs.Fmt.{decimal}
use Rattle.std.specs.Ordering.{is_lt}
use Rattle.syn_machine.specs.Report.{Report, End, Complete, Incomplete}
use Rattle.syn_model.specs.Path.{Path, path_cmp}
use Rattle.syn_model.specs.Refusal.{Refusal, number}
use Rattle.syn_path.specs.Paths.{printed_form}

-- an item that a report names: a conflict, or one that was refused for a cause
pub record Named : Type 0 where
  pub path : Path
  pub refused : Option Refusal

-- the items that a report names, first its conflicts, and then what was refused
abbrev pub named_in : Report → List Named
named_in report = map (λ path. record { path = path; refused = None }) report.conflicts
    ++ map (λ one. record { path = one.1; refused = Some one.0 }) report.refused

-- the list with one more, which stands before the first that is not below it
abbrev pub inserted : {X : Type 0} → (X → X → Bool) → X → List X → List X
inserted is_below one [] = one ∷ []
inserted is_below one (other ∷ rest) =
    if is_below other one then other ∷ inserted is_below one rest else one ∷ (other ∷ rest)

-- the list in order; those that tie stand as they stood
abbrev pub in_order : {X : Type 0} → (X → X → Bool) → List X → List X
in_order is_below [] = []
in_order is_below (one ∷ rest) = inserted is_below one (in_order is_below rest)

abbrev pub is_earlier : Named → Named → Bool
is_earlier item other = is_lt (path_cmp item.path other.path)

abbrev pub end_word : End → List ℕ
end_word Complete = codes "complete"
end_word Incomplete = codes "incomplete"

abbrev pub session_line : ℕ → End → List ℕ
session_line session end =
    codes "session " ++ (decimal session ++ (codes " " ++ (end_word end ++ codes "\n")))

-- the line of four numbers: what was carried, what was marked, the conflicts, and what was refused
abbrev pub counts_line : ℕ → ℕ → ℕ → ℕ → List ℕ
counts_line done marked conflicts refused = codes "done " ++ (decimal done
    ++ (codes " marked " ++ (decimal marked ++ (codes " conflicts " ++ (decimal conflicts
    ++ (codes " refused " ++ (decimal refused ++ codes "\n")))))))

abbrev pub conflict_line : Path → List ℕ
conflict_line path = codes "conflict " ++ (printed_form path ++ codes "\n")

abbrev pub refused_line : Refusal → Path → List ℕ
refused_line cause path = codes "refused "
    ++ (decimal (number cause) ++ (codes " " ++ (printed_form path ++ codes "\n")))

abbrev pub line_at : Path → Option Refusal → List ℕ
line_at path None = conflict_line path
line_at path (Some cause) = refused_line cause path

-- the lines of items, in their order
abbrev pub lines_of_named : List Named → List ℕ
lines_of_named items = flat_map (λ item. line_at item.path item.refused) items

-- the line of what ended a session early, if anything did
abbrev pub ended_line : Option Refusal → List ℕ
ended_line None = []
ended_line (Some cause) = codes "ended " ++ (decimal (number cause) ++ codes "\n")

-- how the session ended, its four numbers, the items in path order, and what ended it early
abbrev pub report_lines : Report → List ℕ
report_lines report = session_line report.session report.end
    ++ (counts_line report.done report.marked (length report.conflicts) (length report.refused)
    ++ (lines_of_named (in_order is_earlier (named_in report)) ++ ended_line report.ended))
