-- How the order of paths and the paths below a path go together.
use Rattle.std.proofs.Common.{◌≡◌, true, false, if◌then◌else◌, [], ◌∷◌, ◌++◌, refl, sym, ap, ◌∙◌}
use Rattle.std.proofs.Common.{Ordering, Less, Equal, Greater, is_eq, is_lt, is_some, None}
use Rattle.std.proofs.Common.{true≢false, append-nil}
use Rattle.std.specs.Ordering.{eq_by_cmp, ordering_then, ordering_reverse}
use Rattle.std.specs.Cmp.{tied_itself}
use Rattle.syn_model.specs.Path.{Name, Path, name_cmp, path_cmp, strip_prefix, is_prefix}
use Rattle.syn_model.proofs.PathLemmas.{name_total, path_total, same_name, name_itself}
use Rattle.syn_model.proofs.BaseLemmas.{less_of}

-- a path with a prefix begins with its first name
prefix_names : (n m : Name) (p q : Path) → is_prefix (n ∷ p) (m ∷ q) ≡ true →
    (n ≡ m) × (is_prefix p q ≡ true)
prefix_names n m p q h =
    elim (eq_by_cmp name_cmp n m) as (λ b. eq_by_cmp name_cmp n m ≡ b →
    is_some (if b then strip_prefix p q else None) ≡ true → (n ≡ m) × (is_prefix p q ≡ true)) [
      | true ↦ λ e k. (same_name n m e, k)
      | false ↦ λ e k. absurd (true≢false (sym k))
    ] refl h

pub prefix_step : (n : Name) (p q : Path) → is_prefix (n ∷ p) (n ∷ q) ≡ is_prefix p q
prefix_step n p q = ap (λ b. is_some (if b then strip_prefix p q else None)) (name_itself n)

pub step : (n : Name) (p q : Path) → path_cmp (n ∷ p) (n ∷ q) ≡ path_cmp p q
step n p q = ap (λ o. ordering_then o (path_cmp p q)) (tied_itself name_total n)

-- what stands at or below a path does not stand before it
pub not_before : (at p : Path) → is_prefix at p ≡ true → is_lt (path_cmp p at) ≡ false
not_before [] [] h = refl
not_before [] (m ∷ p) h = refl
not_before (n ∷ at) [] h = absurd (true≢false (sym h))
not_before (n ∷ at) (m ∷ p) h =
    let both = prefix_names n m at p h in
    ap (λ x. is_lt (path_cmp (x ∷ p) (n ∷ at))) (sym both.0)
    ∙ (ap is_lt (step n p at) ∙ not_before at p both.1)

-- a path before one that stands before a place stands before it too
pub before_more : (a b at : Path) → path_cmp a b ≡ Less → is_lt (path_cmp b at) ≡ true →
    is_lt (path_cmp a at) ≡ true
before_more a b at h k = ap is_lt (path_total.trans a b at h (less_of (path_cmp b at) k))

then_less : (o r : Ordering) → o ≡ Less → ordering_then o r ≡ Less
then_less o r e = ap (λ x. ordering_then x r) e

-- between a place and what is below it there is only what is below it
pub between : (at a b : Path) → is_lt (path_cmp a at) ≡ false → path_cmp a b ≡ Less →
    is_prefix at b ≡ true → is_prefix at a ≡ true
between [] a b low h k = refl
between (n ∷ at) a [] low h k = absurd (true≢false (sym k))
between (n ∷ at) [] (m ∷ b) low h k = absurd (true≢false low)
between (n ∷ at) (x ∷ a) (m ∷ b) low h k =
    let both = prefix_names n m at b k in
    let less : path_cmp (x ∷ a) (n ∷ b) ≡ Less = ap (λ y. path_cmp (x ∷ a) (y ∷ b)) both.0 ∙ h in
    elim (name_cmp x n) as (λ o. name_cmp x n ≡ o → is_lt (ordering_then o (path_cmp a at))
    ≡ false → ordering_then o (path_cmp a b) ≡ Less → is_prefix (n ∷ at) (x ∷ a) ≡ true) [
      | Less ↦ λ e l c. absurd (true≢false l)
      | Equal ↦ λ e l c. ap (λ y. is_prefix (n ∷ at) (y ∷ a)) (same_name x n (ap is_eq e))
          ∙ (prefix_step n at a ∙ between at a b l c both.1)
      | Greater ↦ λ e l c. absurd (true≢false (sym (ap is_lt c)))
    ] refl low less

-- a path is at most any below it
pub first_of_all : (at : Path) (n : Name) (q : Path) → path_cmp at (at ++ n ∷ q) ≡ Less
first_of_all [] n q = refl
first_of_all (m ∷ at) n q = step m at (at ++ n ∷ q) ∙ first_of_all at n q

-- what stands before a place stands before all below it
pub before_under : (a at q : Path) → is_lt (path_cmp a at) ≡ true → path_cmp a (at ++ q) ≡ Less
before_under a at [] h = ap (path_cmp a) (append-nil at) ∙ less_of (path_cmp a at) h
before_under a at (n ∷ q) h =
    path_total.trans a at (at ++ n ∷ q) (less_of (path_cmp a at) h) (first_of_all at n q)

-- what stands after a place stands after all below it
pub under_after : (at q c : Path) → is_lt (path_cmp c at) ≡ false → is_prefix at c ≡ false →
    path_cmp (at ++ q) c ≡ Less
under_after [] q c low out = absurd (true≢false out)
under_after (n ∷ at) q [] low out = absurd (true≢false low)
under_after (n ∷ at) q (x ∷ c) low out =
    elim (name_cmp x n) as (λ o. name_cmp x n ≡ o →
    is_lt (ordering_then o (path_cmp c at)) ≡ false → path_cmp (n ∷ (at ++ q)) (x ∷ c) ≡ Less) [
      | Less ↦ λ e l. absurd (true≢false l)
      | Equal ↦ λ e l.
          let same : x ≡ n = same_name x n (ap is_eq e) in
          ap (λ y. path_cmp (n ∷ (at ++ q)) (y ∷ c)) same ∙ (step n (at ++ q) c
          ∙ under_after at q c l
          (sym (prefix_step n at c) ∙ (ap (λ y. is_prefix (n ∷ at) (y ∷ c)) (sym same) ∙ out)))
      | Greater ↦ λ e l. then_less (name_cmp n x) (path_cmp (at ++ q) c)
          (name_total.antisymm n x ∙ ap ordering_reverse e)
    ] refl low
