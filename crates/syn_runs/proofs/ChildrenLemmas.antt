-- What a directory's entries name, its tree has there.
use Rattle.std.proofs.Common.{◌≡◌, ◌++◌, ◌∙◌, zero, suc, true, false, cond, T, List, [], ◌∷◌}
use Rattle.std.proofs.Common.{filter_map, refl, sym, ap, subst, Option, Some, None, arith}
use Rattle.std.proofs.Common.{is_lt, option_map, option_and_then}
use Rattle.std.specs.Prelude.{Contains}
use Rattle.std.specs.List.{cons_option}
use Rattle.std.specs.Ordering.{eq_by_cmp}
use Rattle.std.specs.Cmp.{tied_itself}
use Rattle.std.specs.FinMap.{entries, entries_sorted, find, get, get-entries, is_sorted}
use Rattle.std.specs.FinMap.Entries.{below_all}
use Rattle.std.proofs.lemmas.List.Elements.{Contains-append_right}
use Rattle.std.proofs.lemmas.Option.{none-some, same_Some}
use Rattle.syn_model.specs.Path.{Name, Path, child, path_cmp, strip_prefix}
use Rattle.syn_model.specs.Tree.{Content, Pair, Tree}
use Rattle.syn_model.specs.Limits.{children, only_name}
use Rattle.syn_model.proofs.PathLemmas.{path_itself, path_total, same_path, strip_prefix-is}
use Rattle.syn_model.proofs.BaseLemmas.{both_hold}

-- each pair after the first has a greater path
after_first : (first : Path) (pairs : List Pair) → T (below_all path_cmp first pairs) →
    (path : Path) (content : Content) → Contains pairs (path, content) →
    T (is_lt (path_cmp first path))
after_first first [] less path content c = absurd (omega (arith, c.1))
after_first first (pair ∷ pairs) less path content (zero, h, at) =
    subst (λ (p : Pair). T (is_lt (path_cmp first p.0))) at
    (both_hold (is_lt (path_cmp first pair.0)) (below_all path_cmp first pairs) less).0
after_first first (pair ∷ pairs) less path content (suc k, h, at) =
    after_first first pairs
    (both_hold (is_lt (path_cmp first pair.0)) (below_all path_cmp first pairs) less).1 path content
    (k, omega (arith, h), at)

-- a pair is found by its path, where the paths rise
found_pair : (pairs : List Pair) → T (is_sorted path_cmp pairs) → (path : Path)
    (content : Content) → Contains pairs (path, content) → find path_cmp path pairs ≡ Some content
found_pair [] sorted path content c = absurd (omega (arith, c.1))
found_pair (pair ∷ pairs) sorted path content (zero, h, at) =
    ap (λ (p : Pair). find path_cmp path (p ∷ pairs)) at
    ∙ ap (λ b. cond b (Some content) (find path_cmp path pairs)) (path_itself path)
found_pair (pair ∷ pairs) sorted path content (suc k, h, at) =
    let both = both_hold (below_all path_cmp pair.0 pairs) (is_sorted path_cmp pairs) sorted in
    let later : Contains pairs (path, content) = (k, omega (arith, h), at) in
    elim (eq_by_cmp path_cmp path pair.0) as (λ b. eq_by_cmp path_cmp path pair.0 ≡ b →
    cond b (Some pair.1) (find path_cmp path pairs) ≡ Some content) [
      | false ↦ λ _. found_pair pairs both.1 path content later
      | true ↦ λ same. absurd (subst (λ o. T (is_lt o)) (tied_itself path_total path)
          (subst (λ p. T (is_lt (path_cmp p path))) (sym (same_path path pair.0 same))
          (after_first pair.0 pairs both.0 path content later)))
    ] refl

-- an entry of a directory is the pair one name below it
abbrev named : Path → Pair → Option (Name × Content)
named path pair =
    option_map (λ name. (name, pair.1)) (option_and_then only_name (strip_prefix path pair.0))

named_so : (path : Path) (pair : Pair) (name : Name) (content : Content) →
    named path pair ≡ Some (name, content) → pair ≡ (child path name, content)
named_so path pair name content is = by (strip_prefix path pair.0) refl is
  where
    by : (rest : Option Path) → strip_prefix path pair.0 ≡ rest →
        option_map {U = Name × Content} (λ n. (n, pair.1)) (option_and_then only_name rest)
        ≡ Some (name, content) → pair ≡ (child path name, content)
    by None at e = absurd (none-some _ e)
    by (Some []) at e = absurd (none-some _ e)
    by (Some (n ∷ next ∷ rest)) at e = absurd (none-some _ e)
    by (Some (n ∷ [])) at e =
        let same : (n, pair.1) ≡ (name, content) = same_Some _ _ e in
        let there : pair.0 ≡ child path name =
        strip_prefix-is path pair.0 (n ∷ []) at ∙ ap (λ x. path ++ x.0 ∷ []) same in
        let has : pair.1 ≡ content = ap (λ x. x.1) same in
        λ i. (there i, has i)

named_pair : (path : Path) (pairs : List Pair) (name : Name) (content : Content) →
    Contains (filter_map (named path) pairs) (name, content) →
    Contains pairs (child path name, content)
named_pair path [] name content c = absurd (omega (arith, c.1))
named_pair path (pair ∷ pairs) name content c =
    let later : Contains (filter_map (named path) pairs) (name, content) →
    Contains (pair ∷ pairs) (child path name, content) = λ there.
    Contains-append_right (pair ∷ []) pairs _ (named_pair path pairs name content there) in
    by later (named path pair) refl c
  where
    by : (Contains (filter_map (named path) pairs) (name, content) →
        Contains (pair ∷ pairs) (child path name, content)) → (row : Option (Name × Content)) →
        named path pair ≡ row →
        Contains (cons_option row (filter_map (named path) pairs)) (name, content) →
        Contains (pair ∷ pairs) (child path name, content)
    by later None is there = later there
    by later (Some row) is (zero, h, at) =
        (zero, omega arith, named_so path pair name content (is ∙ ap (λ r. Some r) at))
    by later (Some row) is (suc k, h, at) = later (k, omega (arith, h), at)

pub child_is : (tree : Tree) (path : Path) (name : Name) (content : Content) →
    Contains (children tree path) (name, content) → get tree (child path name) ≡ Some content
child_is tree path name content c =
    get-entries tree (child path name)
    ∙ found_pair (entries tree) (entries_sorted tree) (child path name) content
    (named_pair path (entries tree) name content c)
