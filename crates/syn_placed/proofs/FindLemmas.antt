-- What stands at a path, where the pairs before it are counted.
use Rattle.std.proofs.Common.{◌≡◌, ◌≢◌, ◌<◌, ◌≤◌, ◌==◌, ℕ, subst, suc, Bool, true, false, cond, []}
use Rattle.std.proofs.Common.{◌∷◌, length, slice_index_or, refl, sym, ap, ◌∙◌, Some, None, Ordering}
use Rattle.std.proofs.Common.{Less, Equal, Greater, is_lt, is_eq, true≢false, arith}
use Rattle.std.specs.Ordering.{eq_by_cmp, ordering_reverse}
use Rattle.std.proofs.lemmas.Bool.{ne_eqb}
use Rattle.std.specs.FinMap.{find}
use Rattle.syn_model.specs.Path.{Path, path_cmp, is_root}
use Rattle.syn_model.specs.Tree.{Pair, Directory}
use Rattle.syn_model.proofs.PathLemmas.{path_total, same_path, path_itself}
use Rattle.syn_placed.specs.Pairs.{Pairs, rooted, is_before, before}
use Rattle.syn_placed.proofs.RisingLemmas.{Rising, After, none_before, filter-drops}
use Rattle.syn_model.proofs.BaseLemmas.{less_of, each_with}

-- nothing is found where each path comes later
pub find_after : (q : Path) (es : Pairs) → After q es → find path_cmp q es ≡ None
find_after q [] h = refl
find_after q (e ∷ es) h =
    ap (λ o. cond (is_eq o) (Some e.1) (find path_cmp q es)) h.0 ∙ find_after q es h.1

-- a pair that stands before is not the one that is sought
pub find_later : (q : Path) (e : Pair) (es : Pairs) → is_before q e ≡ true →
    find path_cmp q (e ∷ es) ≡ find path_cmp q es
find_later q e es h =
    ap (λ o. cond (is_eq o) (Some e.1) (find path_cmp q es))
    (path_total.antisymm q e.0 ∙ ap ordering_reverse (less_of (path_cmp e.0 q) h))

-- what comes after a path comes after those before it
pub after_more : (q p : Path) (es : Pairs) → path_cmp q p ≡ Less → After p es → After q es
after_more q p es less h =
    each_with (λ e. path_cmp p e.0 ≡ Less) (λ e. path_cmp q e.0 ≡ Less)
    (λ e k. path_total.trans q p e.0 less k) es h

none_there : (q : Path) (e : Pair) (es : Pairs) → After e.0 es → is_before q e ≡ false →
    before q es ≡ []
none_there q e es h low = filter-drops (is_before q) es (none_before q e.0 es h low)

pub found : (q : Path) (es : Pairs) (d : Pair) → Rising es → length (before q es) < length es →
    (slice_index_or es (length (before q es)) d).0 ≡ q →
    find path_cmp q es ≡ Some (slice_index_or es (length (before q es)) d).1
found q [] d h l e = absurd (omega arith)
found q (x ∷ es) d h l e =
    elim (is_before q x) as (λ b. is_before q x ≡ b →
    length (cond b (x ∷ before q es) (before q es)) < suc (length es) → (slice_index_or (x ∷ es)
    (length (cond b (x ∷ before q es) (before q es))) d).0 ≡ q → find path_cmp q (x ∷ es)
    ≡ Some (slice_index_or (x ∷ es) (length (cond b (x ∷ before q es) (before q es))) d).1) [
      | true ↦ λ less l e. find_later q x es less ∙ found q es d h.1 (omega arith) e
      | false ↦ λ low l e.
          let none = ap length (none_there q x es h.0 low) in
          let same : x.0 ≡ q = sym (ap (λ n. (slice_index_or (x ∷ es) n d).0) none) ∙ e in
          ap (λ b. cond b (Some x.1) (find path_cmp q es))
          (ap (eq_by_cmp path_cmp q) same ∙ path_itself q)
          ∙ sym (ap (λ n. Some (slice_index_or (x ∷ es) n d).1) none)
    ] refl l e

pub missing : (q : Path) (es : Pairs) (d : Pair) → Rising es →
    (length (before q es) < length es → (slice_index_or es (length (before q es)) d).0 ≢ q) →
    find path_cmp q es ≡ None
missing q [] d h e = refl
missing q (x ∷ es) d h e =
    elim (is_before q x) as (λ b. is_before q x ≡ b →
    (length (cond b (x ∷ before q es) (before q es)) < suc (length es) →
    (slice_index_or (x ∷ es) (length (cond b (x ∷ before q es) (before q es))) d).0 ≢ q) →
    find path_cmp q (x ∷ es) ≡ None) [
      | true ↦ λ less e. find_later q x es less ∙ missing q es d h.1 (λ l. e (omega arith))
      | false ↦ λ low e.
          let none = ap length (none_there q x es h.0 low) in
          let other : x.0 ≢ q = λ same. e (omega (arith, none))
          (ap (λ n. (slice_index_or (x ∷ es) n d).0) none ∙ same) in
          different (eq_by_cmp path_cmp q x.0) refl other
          ∙ find_after q es (later (path_cmp q x.0) refl low other)
    ] refl e
  where
    different : (b : Bool) → eq_by_cmp path_cmp q x.0 ≡ b → x.0 ≢ q →
        find path_cmp q (x ∷ es) ≡ find path_cmp q es
    different true same other = absurd (other (sym (same_path q x.0 same)))
    different false same other = ap (λ b. cond b (Some x.1) (find path_cmp q es)) same

    -- it comes later, and so do all after it
    later : (o : Ordering) → path_cmp q x.0 ≡ o → is_before q x ≡ false → x.0 ≢ q → After q es
    later Less less low other = after_more q x.0 es less h.0
    later Equal same low other = absurd (other (sym (same_path q x.0 (ap is_eq same))))
    later Greater more low other =
        absurd
        (true≢false (sym (ap is_lt (path_total.antisymm x.0 q ∙ ap ordering_reverse more)) ∙ low))

-- ---- what the number of the pairs before a path tells

-- below the root the root is not looked at
pub below_root : (q : Path) (es : Pairs) → (length q == 0) ≡ false →
    find path_cmp q (rooted es) ≡ find path_cmp q es
below_root [] es h = absurd (true≢false h)
below_root (n ∷ q) es h = refl

pub not_empty : (q : Path) → is_root q ≡ false → (length q == 0) ≡ false
not_empty [] h = absurd (true≢false h)
not_empty (n ∷ q) h = ne_eqb (length (n ∷ q)) 0 (λ e. omega (arith, e))

pub there : (q : Path) (es : Pairs) (at : ℕ) (x : Pair) → Rising es → at ≡ length (before q es) →
    at < length es → x ≡ slice_index_or es at x → eq_by_cmp path_cmp x.0 q ≡ true →
    Some x.1 ≡ find path_cmp q es
there q es at x h count l is same =
    let place = sym (is ∙ ap (λ n. slice_index_or es n x) count) in
    ap (λ (y : Pair). Some y.1) (sym place) ∙ sym (found q es x h
    (subst (λ n. n < length es) count l) (ap (λ (y : Pair). y.0) place ∙ same_path x.0 q same))

pub not_there : (q : Path) (es : Pairs) (at : ℕ) (x : Pair) → Rising es →
    at ≡ length (before q es) → x ≡ slice_index_or es at x → eq_by_cmp path_cmp x.0 q ≡ false →
    find path_cmp q es ≡ None
not_there q es at x h count is other =
    let place = sym (is ∙ ap (λ n. slice_index_or es n x) count) in
    missing q es x h (λ l e. true≢false (sym (path_itself q)
    ∙ (ap (λ p. eq_by_cmp path_cmp p q) (sym e ∙ ap (λ (y : Pair). y.0) place) ∙ other)))

pub ended : (q : Path) (es : Pairs) (at : ℕ) → Rising es → at ≡ length (before q es) →
    length es ≤ at → find path_cmp q es ≡ None
ended q es at h count l = missing q es (q, Directory) h (λ k e. omega (arith, count, l, k))
