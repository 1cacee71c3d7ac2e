-- What stands below a path is the part at and below it without its first, where that stands at the
-- path.
use Rattle.std.proofs.Common.{◌≡◌, Bool, true, false, cond, not, ◌&&◌, [], ◌∷◌, filter, refl, sym}
use Rattle.std.proofs.Common.{ap, ap₂, ◌∙◌, subst, Option, Some, None, Less, is_lt, is_some}
use Rattle.std.proofs.Common.{true≢false, append-nil}
use Rattle.std.specs.Ordering.{eq_by_cmp}
use Rattle.syn_model.specs.Path.{Path, path_cmp, strip_prefix, is_prefix}
use Rattle.syn_model.specs.Tree.{Pair}
use Rattle.syn_model.proofs.PathLemmas.{path_itself, same_path, strip_prefix-is, prefix-append}
use Rattle.syn_placed.specs.Pairs.{Pairs, rooted, is_within, is_below, within}
use Rattle.syn_placed.proofs.OrderLemmas.{not_before, first_of_all}
use Rattle.syn_placed.proofs.RisingLemmas.{Rising, Each, each-both, each-filter}
use Rattle.syn_placed.proofs.RisingLemmas.{filter-keeps, rising-filter}
use Rattle.syn_model.proofs.BaseLemmas.{each_with}

-- a path is no prefix of one that it stands after
longer : (at p : Path) → path_cmp at p ≡ Less → is_prefix p at ≡ false
longer at p less = by_test (is_prefix p at) refl
  where
    by_test : (b : Bool) → is_prefix p at ≡ b → b ≡ false
    by_test true is = absurd (true≢false (sym (ap is_lt less) ∙ not_before p at is))
    by_test false is = refl

-- what is at or below a path, and not at it, stands after it
after_place : (at p : Path) → is_prefix at p ≡ true → eq_by_cmp path_cmp p at ≡ false →
    path_cmp at p ≡ Less
after_place at p inside other = by_rest (strip_prefix at p) refl inside
  where
    by_rest : (o : Option Path) → strip_prefix at p ≡ o → is_some o ≡ true → path_cmp at p ≡ Less
    by_rest None is k = absurd (true≢false (sym k))
    by_rest (Some []) is k =
        absurd (true≢false (sym (path_itself at) ∙ (ap (λ q. eq_by_cmp path_cmp q at)
        (sym (strip_prefix-is at p [] is ∙ append-nil at)) ∙ other)))
    by_rest (Some (n ∷ r)) is k =
        ap (path_cmp at) (strip_prefix-is at p (n ∷ r) is) ∙ first_of_all at n r

below_of : (at : Path) (e : Pair) → is_within at e ≡ true → path_cmp at e.0 ≡ Less →
    is_below at e ≡ true
below_of at e inside less =
    ap (λ b. is_prefix at e.0 && not b) (longer at e.0 less) ∙ ap (λ b. b && true) inside

-- what is below is within
below-within : (at : Path) (es : Pairs) →
    filter (is_below at) (within at es) ≡ filter (is_below at) es
below-within at [] = refl
below-within at (e ∷ es) =
    let rest = below-within at es in
    elim (is_within at e)
    as (λ b. is_within at e ≡ b → filter (is_below at) (cond b (e ∷ within at es) (within at es))
    ≡ cond (b && not (is_prefix e.0 at)) (e ∷ filter (is_below at) es) (filter (is_below at) es)) [
      | true ↦ λ inside. ap (λ b. cond (b && not (is_prefix e.0 at))
          (e ∷ filter (is_below at) (within at es)) (filter (is_below at) (within at es))) inside
          ∙ ap (λ xs. cond (not (is_prefix e.0 at)) (e ∷ xs) xs) rest
      | false ↦ λ out. rest
    ] refl

later : (at : Path) (first x : Pair) → is_within at first ≡ true → path_cmp first.0 x.0 ≡ Less →
    is_within at x ≡ true → path_cmp at x.0 ≡ Less
later at first x top less inside =
    after_place at x.0 inside (not_same (eq_by_cmp path_cmp x.0 at) refl)
  where
    not_same : (b : Bool) → eq_by_cmp path_cmp x.0 at ≡ b → b ≡ false
    not_same true is =
        absurd (true≢false (sym (ap is_lt
        (ap (path_cmp first.0) (sym (same_path x.0 at is)) ∙ less)) ∙ not_before at first.0 top))
    not_same false is = refl

rest_below : (at : Path) (first : Pair) (rest : Pairs) → Rising (first ∷ rest) →
    Each (is_within at) (first ∷ rest) → Each (is_below at) rest
rest_below at first rest rising inside =
    each_with (λ x. (path_cmp first.0 x.0 ≡ Less) × (is_within at x ≡ true)) (λ x. is_below at x
    ≡ true) (λ x k. below_of at x k.1 (later at first x inside.0 k.0 k.1)) rest
    (each-both (λ x. path_cmp first.0 x.0 ≡ Less)
    (λ x. is_within at x ≡ true) rest rising.0 inside.1)

-- the part begins at the path, or has nothing at it
pub without_first : (at : Path) (es : Pairs) (first : Pair) (rest : Pairs) → Rising es →
    within at es ≡ first ∷ rest → eq_by_cmp path_cmp first.0 at ≡ true →
    rest ≡ filter (is_below at) es
without_first at es first rest h is same =
    let rising = subst Rising is (rising-filter (is_within at) es h) in
    let inside = subst (Each (is_within at)) is (each-filter (is_within at) es) in
    let here : is_prefix first.0 at ≡ true = ap (λ p. is_prefix p at) (same_path first.0 at same)
    ∙ (ap (is_prefix at) (sym (append-nil at)) ∙ prefix-append at []) in
    let none : is_below at first ≡ false = ap₂ (λ a b. a && not b) inside.0 here in
    sym (sym (below-within at es) ∙ (ap (filter (is_below at)) is
    ∙ (ap (λ b. cond b (first ∷ filter (is_below at) rest) (filter (is_below at) rest)) none
    ∙ filter-keeps (is_below at) rest (rest_below at first rest rising inside))))

pub with_first : (at : Path) (es : Pairs) (first : Pair) (rest : Pairs) → Rising es →
    within at es ≡ first ∷ rest → eq_by_cmp path_cmp first.0 at ≡ false →
    first ∷ rest ≡ filter (is_below at) es
with_first at es first rest h is other =
    let rising = subst Rising is (rising-filter (is_within at) es h) in
    let inside = subst (Each (is_within at)) is (each-filter (is_within at) es) in
    let all : Each (is_below at) (first ∷ rest) = (
      below_of at first inside.0
          (after_place at first.0 inside.0 other),
      rest_below at first rest rising inside,
    ) in
    sym (sym (below-within at es)
    ∙ (ap (filter (is_below at)) is ∙ filter-keeps (is_below at) (first ∷ rest) all))

pub without_any : (at : Path) (es : Pairs) → within at es ≡ [] → [] ≡ filter (is_below at) es
without_any at es is = sym (ap (filter (is_below at)) is) ∙ below-within at es

-- the root is below nothing
pub below_rooted : (at : Path) (es : Pairs) →
    filter (is_below at) (rooted es) ≡ filter (is_below at) es
below_rooted [] es = refl
below_rooted (n ∷ at) es = refl
