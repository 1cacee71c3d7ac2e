-- Two trees path by path: which paths one of them has, and whether they differ there.
use Rattle.std.specs.Prelude.{Bool, true, false, not, ◌||◌, if◌then◌else◌, List, [], ◌∷◌, map}
use Rattle.std.specs.Borrow.{Bor}
use Rattle.std.specs.FinMap.Entries.{by_order}
use Rattle.syn_model.specs.Path.{Path, path_cmp, is_prefix}
use Rattle.syn_model.specs.Tree.{Pair}
use Rattle.syn_model.specs.Dirty.{is_same_content}
use Rattle.syn_placed.specs.Pairs.{Pairs}

-- a path, and whether something differs at it
abbrev pub Row : Type 0
Row = Path × Bool

abbrev pub Rows : Type 0
Rows = List Row

abbrev pub alone : Pair → Row
alone pair = (pair.0, true)

-- a pair of the one side among those of the other, with what is after it
abbrev pub among : Pair → (Pairs → Rows) → Pairs → Rows
among left later [] = alone left ∷ later []
among left later (right ∷ rights) = by_order (path_cmp left.0 right.0)
    (alone left ∷ later (right ∷ rights))
    ((left.0, not (is_same_content left.1 right.1)) ∷ later rights)
    (alone right ∷ among left later rights)

-- the paths of both, in order, each once
abbrev pub compared : Pairs → Pairs → Rows
compared [] rights = map alone rights
compared (left ∷ lefts) rights = among left (compared lefts) rights

-- a path in a set differs too
abbrev pub with_set : (Path → Bool) → Rows → Rows
with_set set rows = map (λ row. (row.0, row.1 || set row.0)) rows

-- the first of the paths is at or below this one
abbrev pub begins_first : Path → List Path → Bool
begins_first path [] = false
begins_first path (first ∷ more) = is_prefix path first

-- the paths at or above one that differs
abbrev pub changed : Rows → List Path
changed [] = []
changed (row ∷ rows) = if row.1 || begins_first row.0 (changed rows) then row.0 ∷ changed rows
    else changed rows

-- what the references point to
abbrev pub rows_at : List (Bor Path × Bool) → Rows
rows_at rows = map (λ (row : Bor Path × Bool). (row.0.now, row.1)) rows
