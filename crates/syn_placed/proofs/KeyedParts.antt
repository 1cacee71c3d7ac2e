-- Values at paths that strictly rise: what stands at and below a path, and what some entry tells.
use Rattle.std.proofs.Common.{◌≡◌, ◌≤◌, ℕ, Bool, true, false, cond, not, ◌||◌, inl}
use Rattle.std.proofs.Common.{inr, List, [], ◌∷◌, ◌++◌, length, take, drop, filter, refl, sym}
use Rattle.std.proofs.Common.{ap, ap₂, ◌∙◌, subst, Some, Less, is_lt, is_some, true≢false}
use Rattle.std.specs.List.{list_any}
use Rattle.std.specs.Option.{unwrap_or}
use Rattle.std.specs.Ordering.{eq_by_cmp}
use Rattle.std.specs.FinMap.{find}
use Rattle.std.proofs.Math.Seq.{take-append_seam}
use Rattle.std.proofs.lemmas.Bool.{or_left, or_right, or_cases}
use Rattle.std.proofs.lemmas.List.{take-append-drop}
use Rattle.std.specs.List.Sorted.{IsPartitionedBy, IsPartitionPoint}
use Rattle.syn_placed.proofs.PointLemmas.{partitioned, point}
use Rattle.std.proofs.lemmas.List.Elements.{filter-append}
use Rattle.syn_model.specs.Path.{Path, path_cmp, is_prefix}
use Rattle.syn_model.proofs.PathLemmas.{same_path, path_itself}
use Rattle.syn_placed.specs.Keyed.{IsRising, comes_before, stands_within}
use Rattle.syn_placed.proofs.OrderLemmas.{not_before, between}
use Rattle.syn_placed.proofs.RisingLemmas.{Each, NoneOf, each-filter, filter-keeps}
use Rattle.syn_placed.proofs.RisingLemmas.{filter-drops}
use Rattle.syn_placed.proofs.KeyedLemmas.{Follow, Rising, IsPlace, find_after, front_before}
use Rattle.syn_placed.proofs.KeyedLemmas.{not_none, none_of_others, turned}
use Rattle.syn_model.proofs.BaseLemmas.{each_with}

-- ---- what stands at and below a path

within_out : {V : Type 0} (at p : Path) (es : List (Path × V)) → Follow p es →
    is_lt (path_cmp p at) ≡ false → is_prefix at p ≡ false → NoneOf (stands_within at) es
within_out at p es h low out =
    each_with (λ e. path_cmp p e.0 ≡ Less) (λ e. stands_within at e ≡ false)
    (λ e less. never e.0 less (is_prefix at e.0) refl) es h
  where
    never : (q : Path) → path_cmp p q ≡ Less → (b : Bool) → is_prefix at q ≡ b → b ≡ false
    never q less true k = absurd (true≢false (sym (between at p q low less k) ∙ out))
    never q less false k = refl

-- among what does not stand before a path, what is within comes first
pub within_first : {V : Type 0} (at : Path) (es : List (Path × V)) → Rising es →
    NoneOf (comes_before at) es →
    es ≡ filter (stands_within at) es ++ filter (λ e. not (stands_within at e)) es
within_first at [] h low = refl
within_first at (e ∷ es) h low =
    elim (stands_within at e) as (λ b. stands_within at e ≡ b → e ∷ es
    ≡ cond b (e ∷ filter (stands_within at) es) (filter (stands_within at) es)
    ++ cond (not b) (e ∷ filter (λ f. not (stands_within at f)) es)
    (filter (λ f. not (stands_within at f)) es)) [
      | true ↦ λ _. ap (λ xs. e ∷ xs) (within_first at es h.1 low.1)
      | false ↦ λ out.
          let none = within_out at e.0 es h.0 low.0 out in
          sym (ap₂ (λ xs ys. xs ++ e ∷ ys) (filter-drops (stands_within at) es none)
          (filter-keeps (λ f. not (stands_within at f)) es (turned (stands_within at) es none)))
    ] refl

pub within_parted : {V : Type 0} (at : Path) (es : List (Path × V)) → Rising es →
    NoneOf (comes_before at) es → IsPartitionedBy (stands_within at) es
within_parted at es h low =
    subst (IsPartitionedBy (stands_within at)) (sym (within_first at es h low))
    (partitioned (stands_within at) (filter (stands_within at) es)
    (filter (λ e. not (stands_within at e)) es) (each-filter (stands_within at) es)
    (none_of_others (stands_within at) es))

-- so many of them are within
pub within_placed : {V : Type 0} (at : Path) (n : ℕ) (es : List (Path × V)) → Rising es →
    NoneOf (comes_before at) es → n ≤ length es →
    IsPartitionPoint (λ e. stands_within at e ≡ true) (λ e. stands_within at e ≡ false) es n →
    take n es ≡ filter (stands_within at) es
within_placed at n es h low l found =
    let parts = within_first at es h low in
    let inside = filter (stands_within at) es in
    let outside = filter (λ e. not (stands_within at e)) es in
    let place = point (stands_within at) inside outside n
    (each-filter (stands_within at) es) (none_of_others (stands_within at) es)
    (subst (λ xs. n ≤ length xs) parts l)
    (subst (λ xs. IsPartitionPoint (λ e. stands_within at e ≡ true)
    (λ e. stands_within at e ≡ false) xs n) parts found) in
    ap₂ (λ (m : ℕ) xs. take m xs) place parts ∙ take-append_seam inside outside

before_out : {V : Type 0} (at : Path) (es : List (Path × V)) → Each (comes_before at) es →
    NoneOf (stands_within at) es
before_out at es h =
    each_with (λ e. comes_before at e ≡ true) (λ e. stands_within at e ≡ false)
    (λ e is. never e.0 is (is_prefix at e.0) refl) es h
  where
    never : (q : Path) → is_lt (path_cmp q at) ≡ true → (b : Bool) → is_prefix at q ≡ b → b ≡ false
    never q is true k = absurd (true≢false (sym is ∙ not_before at q k))
    never q is false k = refl

pub within_rest : {V : Type 0} (at : Path) (n : ℕ) (es : List (Path × V)) → IsRising es →
    IsPlace at n es → filter (stands_within at) (drop n es) ≡ filter (stands_within at) es
within_rest at n es h place =
    let none = filter-drops (stands_within at) (take n es)
    (before_out at (take n es) (front_before at n es h place)) in
    sym (ap (filter (stands_within at)) (sym (take-append-drop n es))
    ∙ (filter-append (stands_within at) (take n es) (drop n es)
    ∙ ap (λ xs. xs ++ filter (stands_within at) (drop n es)) none))

-- ---- what some entry tells

-- what is found at a path, and passes a test, is an entry that does
pub found_any : {V : Type 0} (p : Path × V → Bool) (k : Path) (v : V) (es : List (Path × V)) →
    find path_cmp k es ≡ Some v → p (k, v) ≡ true → list_any p es ≡ true
found_any p k v [] is h = absurd (not_none v (sym is))
found_any {V = V} p k v (e ∷ es) is h =
    elim (eq_by_cmp path_cmp k e.0) as (λ b. eq_by_cmp path_cmp k e.0 ≡ b →
    cond b (Some e.1) (find path_cmp k es) ≡ Some v → (p e || list_any p es) ≡ true) [
      | true ↦ λ tie same.
          let key : e.0 ≡ k = sym (same_path k e.0 tie) in
          let value : e.1 ≡ v = some_same e.1 v same in
          let pair : p e ≡ p (k, v) = λ i. p (key i, value i) in
          or_left (p e) (list_any p es) (pair ∙ h)
      | false ↦ λ _ rest. or_right (p e) (list_any p es) (found_any p k v es rest h)
    ] refl is
  where
    some_same : (x y : V) → Some x ≡ Some y → x ≡ y
    some_same x y same = ap (λ o. unwrap_or o x) same

-- an entry with what is found at its path
pub record IsFoundBy {V : Type 0} (p : Path × V → Bool) (es : List (Path × V)) : Type 0 where
  pub entry : Path × V
  pub found : find path_cmp entry.0 es ≡ Some entry.1
  pub passes : p entry ≡ true

-- an entry that passes a test, among those that rise, is found at its path
pub any_found : {V : Type 0} (p : Path × V → Bool) (es : List (Path × V)) → Rising es →
    list_any p es ≡ true → IsFoundBy p es
any_found p [] h some = absurd (true≢false (sym some))
any_found p (e ∷ es) h some =
    elim (or_cases (p e) (list_any p es) some) [
      | inl here ↦ record {
        entry = e;
        found = ap (λ b. cond b (Some e.1) (find path_cmp e.0 es)) (path_itself e.0);
        passes = here;
      }
      | inr rest ↦ later (any_found p es h.1 rest)
    ]
  where
    apart : (k : Path) (b : Bool) → eq_by_cmp path_cmp k e.0 ≡ b →
        is_some (find path_cmp k es) ≡ true → b ≡ false
    apart k true tie there = absurd (true≢false (sym there ∙ ap is_some
        (ap (λ q. find path_cmp q es) (same_path k e.0 tie) ∙ find_after e.0 es h.0)))
    apart k false tie there = refl

    later : IsFoundBy p es → IsFoundBy p (e ∷ es)
    later was =
        let k = was.entry.0 in
        let other = apart k (eq_by_cmp path_cmp k e.0) refl (ap is_some was.found) in
        record {
          entry = was.entry;
          found = ap (λ b. cond b (Some e.1) (find path_cmp k es)) other ∙ was.found;
          passes = was.passes;
        }
