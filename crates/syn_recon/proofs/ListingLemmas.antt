-- The listing of a directory of a tree: its names rise, its paths keep the limits, and it is short.
use Rattle.std.proofs.Common.{◌≡◌, ◌≤◌, ◌∙◌, ◌∷◌, ◌&&◌, [], Option, Some, None, ap, ap₂, arith}
use Rattle.std.proofs.Common.{length, refl, sym, true}
use Rattle.std.proofs.lemmas.Bool.{and_parts}
use Rattle.std.specs.FinMap.{entries, entries_sorted, len, len-entries}
use Rattle.std.specs.FinMap.Entries.{is_sorted}
use Rattle.std.specs.List.{cons_option, list_all}
use Rattle.syn_model.specs.Limits.{children, fits_path, fits_paths}
use Rattle.syn_model.specs.Path.{Path, name_cmp}
use Rattle.syn_model.specs.Tree.{Pair, Tree}
use Rattle.syn_model.proofs.BaseLemmas.{is_true}
use Rattle.syn_model.proofs.ChildrenLemmas.{Row, rise_rows, row, row_is, rows}
use Rattle.syn_placed.specs.Pairs.{Pairs}
use Rattle.syn_scan.specs.Asked.{fit_below, names_rise}

-- ---- names rise

pub names_in_order : (tree : Tree) (p : Path) → names_rise (children tree p) ≡ true
names_in_order tree p =
    is_true (is_sorted name_cmp (rows p (entries tree)))
    (rise_rows p (entries tree) (entries_sorted tree))

-- ---- paths keep the limits

fit_rows : (p : Path) (pairs : Pairs)
    → list_all (λ (pair : Pair). fits_path pair.0) pairs ≡ true → fit_below p (rows p pairs) ≡ true
fit_rows p [] fit = refl
fit_rows p (pair ∷ pairs) fit = by (row p pair) refl (fit_rows p pairs both.1)
  where
    both : (fits_path pair.0 ≡ true)
        × (list_all (λ (other : Pair). fits_path other.0) pairs ≡ true)
    both = and_parts (fits_path pair.0) (list_all (λ (other : Pair). fits_path other.0) pairs) fit

    by : (o : Option Row) → row p pair ≡ o → fit_below p (rows p pairs) ≡ true
        → fit_below p (cons_option o (rows p pairs)) ≡ true
    by None at rest = rest
    by (Some one) at rest =
        ap₂ (λ a b. a && b) (ap fits_path (sym (row_is p pair one at).0) ∙ both.0) rest

pub paths_fit : (tree : Tree) (p : Path) → fits_paths tree ≡ true
    → fit_below p (children tree p) ≡ true
paths_fit tree p fit = fit_rows p (entries tree) fit

-- ---- there are no more of them than nodes

few_rows : (p : Path) (pairs : Pairs) → length (rows p pairs) ≤ length pairs
few_rows p [] = omega arith
few_rows p (pair ∷ pairs) = by (row p pair) (few_rows p pairs)
  where
    by : (o : Option Row) → length (rows p pairs) ≤ length pairs
        → length (cons_option o (rows p pairs)) ≤ length (pair ∷ pairs)
    by None rest = omega (arith, rest)
    by (Some one) rest = omega (arith, rest)

pub few_names : (tree : Tree) (p : Path) → length (children tree p) ≤ len tree
few_names tree p = omega (arith, few_rows p (entries tree), len-entries tree)
