-- The names in a directory: each is the last name of one of the tree's paths, and they rise.
use Rattle.std.proofs.Common.{◌≡◌, ◌++◌, ◌∷◌, [], ◌∙◌, List, Option, Some, None, T}
use Rattle.std.proofs.Common.{Equal, Greater, Less, ap, option_map, refl, subst}
use Rattle.std.proofs.lemmas.Option.{none-some, same_Some}
use Rattle.std.specs.Cmp.{tied_itself}
use Rattle.std.specs.FinMap.Entries.{below_all, is_sorted}
use Rattle.std.specs.List.{cons_option}
use Rattle.std.specs.Ordering.{is_lt, ordering_then}
use Rattle.std.specs.Prelude.{filter_map, option_and_then}
use Rattle.syn_model.specs.Limits.{only_name}
use Rattle.syn_model.specs.Path.{Name, Path, child, name_cmp, path_cmp, strip_prefix}
use Rattle.syn_model.specs.Tree.{Content, Pair}
use Rattle.syn_model.proofs.BaseLemmas.{both_hold}
use Rattle.syn_model.proofs.PathLemmas.{name_total, strip_prefix-is}
use Rattle.syn_model.proofs.SubtreeLemmas.{joined}

-- a name in a directory, with what stands there
abbrev pub Row : Type 0
Row = Name × Content

-- what the pair is in the directory; none where it stands elsewhere
abbrev pub row : Path → Pair → Option Row
row path pair =
    option_map (λ name. (name, pair.1)) (option_and_then only_name (strip_prefix path pair.0))

abbrev pub rows : Path → List Pair → List Row
rows path pairs = filter_map {Y = Row} (row path) pairs

-- the pair that a row is of
pub row_is : (path : Path) (pair : Pair) (one : Row) → row path pair ≡ Some one →
    (pair.0 ≡ child path one.0) × (pair.1 ≡ one.1)
row_is path pair one is = by (strip_prefix path pair.0) refl is
  where
    last : (rest : Path) → pair.0 ≡ path ++ rest →
        option_map (λ name. (name, pair.1)) (only_name rest) ≡ Some one →
        (pair.0 ≡ child path one.0) × (pair.1 ≡ one.1)
    last [] at is = absurd (none-some _ is)
    last (name ∷ []) at is =
        let same : (name, pair.1) ≡ one = same_Some _ _ is in
        (at ∙ ap (λ (r : Row). child path r.0) same, ap (λ (r : Row). r.1) same)
    last (name ∷ next ∷ rest) at is = absurd (none-some _ is)

    by : (o : Option Path) → strip_prefix path pair.0 ≡ o →
        option_map (λ name. (name, pair.1)) (option_and_then only_name o) ≡ Some one →
        (pair.0 ≡ child path one.0) × (pair.1 ≡ one.1)
    by None at is = absurd (none-some _ is)
    by (Some rest) at is = last rest (strip_prefix-is path pair.0 rest at) is

-- names in one directory go as their paths do
under : (path : Path) (a b : Name) → path_cmp (child path a) (child path b) ≡ name_cmp a b
under [] a b = elim (name_cmp a b) as (λ o. ordering_then o Equal ≡ o)
    [ Less ↦ refl | Equal ↦ refl | Greater ↦ refl ]
under (n ∷ path) a b =
    ap (λ o. ordering_then o (path_cmp (child path a) (child path b))) (tied_itself name_total n)
    ∙ under path a b

below_rows : (path : Path) (name : Name) (pairs : List Pair) →
    T (below_all path_cmp (child path name) pairs) → T (below_all name_cmp name (rows path pairs))
below_rows path name [] below = tt
below_rows path name (pair ∷ pairs) below =
    by (row path pair) refl (below_rows path name pairs both.1)
  where
    both : T (is_lt (path_cmp (child path name) pair.0))
        × T (below_all path_cmp (child path name) pairs)
    both = both_hold (is_lt (path_cmp (child path name) pair.0))
        (below_all path_cmp (child path name) pairs) below

    by : (o : Option Row) → row path pair ≡ o → T (below_all name_cmp name (rows path pairs)) →
        T (below_all name_cmp name (cons_option o (rows path pairs)))
    by None at rest = rest
    by (Some one) at rest =
        joined (is_lt (name_cmp name one.0)) (below_all name_cmp name (rows path pairs))
        (subst (λ o. T (is_lt o)) (ap (path_cmp (child path name)) (row_is path pair one at).0
        ∙ under path name one.0) both.0) rest

-- where the paths rise, the names do
pub rise_rows : (path : Path) (pairs : List Pair) → T (is_sorted path_cmp pairs) →
    T (is_sorted name_cmp (rows path pairs))
rise_rows path [] sorted = tt
rise_rows path (pair ∷ pairs) sorted = by (row path pair) refl (rise_rows path pairs both.1)
  where
    both : T (below_all path_cmp pair.0 pairs) × T (is_sorted path_cmp pairs)
    both = both_hold (below_all path_cmp pair.0 pairs) (is_sorted path_cmp pairs) sorted

    by : (o : Option Row) → row path pair ≡ o → T (is_sorted name_cmp (rows path pairs)) →
        T (is_sorted name_cmp (cons_option o (rows path pairs)))
    by None at rest = rest
    by (Some one) at rest =
        joined (below_all name_cmp one.0 (rows path pairs)) (is_sorted name_cmp (rows path pairs))
        (below_rows path one.0 pairs
        (subst (λ q. T (below_all path_cmp q pairs)) (row_is path pair one at).0 both.0)) rest
