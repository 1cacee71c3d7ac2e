-- What seats know, where one of them learns something or a new one comes.
use Rattle.std.proofs.Common.{◌≡◌, ◌≢◌, ℕ, zero, suc, ◌+◌, ◌⊎◌, List, [], ◌∷◌, ◌++◌, length, get_or}
use Rattle.std.proofs.Common.{set, refl, ap, sym, ◌∙◌, subst, ⊎_elim, inl, inr, arith, cond, eqb}
use mathlib.Core.Option.{some, some-injective, some-ne-none}
use lib.ListN.{get_elem?}
use lib.Seq.{set-get_or}
use Rattle.atomic_table.proofs.Lists.{at_set, set_here, at_longer}
use Rattle.syn_lock.specs.declared.view.Known.{Known}
use Rattle.syn_lock.specs.inner.Rule.{IsUnused, is_pass, passes_of}
use Rattle.syn_lock.proofs.Histories.{at_below}

module _ {A : Type 0} where
  -- the elements of a list that is one longer
  pub newest : (P : ℕ → A → Type 0) (l : List A) (w : A) →
      P (length l) w → ((i : ℕ) (u : A) → get_elem? l i ≡ some u → P i u) → (j : ℕ) (v : A) →
      get_elem? (l ++ w ∷ []) j ≡ some v → P j v
  newest P [] w last old zero v e = subst (P 0) (some-injective w v e) last
  newest P [] w last old (suc j) v e = absurd (some-ne-none v (sym e))
  newest P (x ∷ xs) w last old zero v e = old zero v e
  newest P (x ∷ xs) w last old (suc j) v e =
      newest (λ i u. P (suc i) u) xs w last (λ i u at. old (suc i) u at) j v e

  -- the elements after one of them changed
  pub others : (P : ℕ → A → Type 0) (l : List A) (id : ℕ) (w : A) →
      P id w → ((j : ℕ) (v : A) → j ≢ id → get_elem? l j ≡ some v → P j v) → (j : ℕ) (v : A) →
      get_elem? (set l id w) j ≡ some v → P j v
  others P l id w mine rest j v e =
      ⊎_elim (λ (t : (j ≡ id) × (w ≡ v)). subst (λ (x : ℕ × A). P x.0 x.1)
      (λ i. (sym t.0 i, t.1 i)) mine)
      (λ (t : (j ≢ id) × (get_elem? l j ≡ some v)). rest j v t.0 t.1) (at_set l id j w v e)

  -- an element is the one that changed, or stays
  pub changed_or_there : (l : List A) (i j : ℕ) (v w u : A) → get_elem? l i ≡ some v →
      get_elem? l j ≡ some u → ((j ≡ i) × (u ≡ v)) ⊎ (get_elem? (set l i w) j ≡ some u)
  changed_or_there [] i j v w u a b = absurd (some-ne-none v (sym a))
  changed_or_there (x ∷ xs) zero zero v w u a b = inl (refl, some-injective u v (sym b ∙ a))
  changed_or_there (x ∷ xs) zero (suc j) v w u a b = inr b
  changed_or_there (x ∷ xs) (suc i) zero v w u a b = inr b
  changed_or_there (x ∷ xs) (suc i) (suc j) v w u a b =
      ⊎_elim (λ (t : (j ≡ i) × (u ≡ v)). inl (ap suc t.0, t.1))
      (λ (t : get_elem? (set xs i w) j ≡ some u). inr t) (changed_or_there xs i j v w u a b)

-- a step that writes back what it found
pub still : (l : List ℕ) (i j : ℕ) → get_or (set l i (get_or l i 0)) j 0 ≡ get_or l j 0
still l i j = ap (λ (m : List ℕ). get_or m j 0) (set-get_or l i 0)

module _ {S : Type 0} where
  -- a number that no seat has now, and that this seat had not before, was no seat's before
  unused_at : (l : List (Known S)) (id : ℕ) (v w : Known S) (p : ℕ) →
      get_elem? l id ≡ some v → v.view.number ≢ p →
      ((j : ℕ) (u : Known S) → get_elem? (set l id w) j ≡ some u → u.view.number ≢ p) → (j : ℕ)
      (u : Known S) → get_elem? l j ≡ some u → u.view.number ≢ p
  unused_at l id v w p at old none j u e is =
      ⊎_elim (λ (t : (j ≡ id) × (u ≡ v)). old (ap (λ k. k.view.number) (sym t.1) ∙ is))
      (λ (t : get_elem? (set l id w) j ≡ some u). none j u t is)
      (changed_or_there l id j v w u at e)

  pub unused_set : (l : List (Known S)) (id : ℕ) (v w : Known S) → get_elem? l id ≡ some v →
      w.view.number ≡ v.view.number → (p : ℕ) → IsUnused (set l id w) p → IsUnused l p
  unused_set l id v w at same p e = ⊎_elim (λ (z : p ≡ 0). inl z)
      (λ (none : (j : ℕ) (u : Known S) → get_elem? (set l id w) j ≡ some u → u.view.number ≢ p).
      inr (unused_at l id v w p at
      (λ is. none id w (set_here l id w (at_below l id v at)) (same ∙ is)) none))
      e

  -- the same where a seat with no number has got one
  pub unused_numbered : (l : List (Known S)) (id : ℕ) (v w : Known S) → get_elem? l id ≡ some v →
      v.view.number ≡ 0 → (p : ℕ) → IsUnused (set l id w) p → IsUnused l p
  unused_numbered l id v w at nobody zero e = inl refl
  unused_numbered l id v w at nobody (suc q) e = ⊎_elim (λ (z : suc q ≡ 0). inl z)
      (λ (none : (j : ℕ) (u : Known S) → get_elem? (set l id w) j ≡ some u → u.view.number ≢ suc q).
      inr (unused_at l id v w (suc q) at (λ is. omega arith) none))
      e

  pub unused_more : (l : List (Known S)) (w : Known S) (p : ℕ) → IsUnused (l ++ w ∷ []) p →
      IsUnused l p
  unused_more l w p e = ⊎_elim (λ (z : p ≡ 0). inl z)
      (λ (none : (j : ℕ) (u : Known S) → get_elem? (l ++ w ∷ []) j ≡ some u → u.view.number ≢ p).
      inr (λ j u at. none j u (at_longer l (w ∷ []) j u at)))
      e

  -- the number of a pass is in use
  pub number_used : (l : List (Known S)) (id : ℕ) (v : Known S) (p : ℕ) → get_elem? l id ≡ some v →
      v.view.number ≢ 0 → IsUnused l p → v.view.number ≢ p
  number_used l id v p at some_number e is =
      ⊎_elim (λ (z : p ≡ 0). some_number (is ∙ z))
      (λ (none : (j : ℕ) (u : Known S) → get_elem? l j ≡ some u → u.view.number ≢ p).
      none id v at is) e

  -- the number of passes, where a seat changed and where one came
  pub passes_of-set : (l : List (Known S)) (id : ℕ) (v w : Known S) → get_elem? l id ≡ some v →
      passes_of (set l id w) + is_pass v ≡ passes_of l + is_pass w
  passes_of-set [] id v w at = absurd (some-ne-none v (sym at))
  passes_of-set (x ∷ xs) zero v w at =
      let e : is_pass x ≡ is_pass v = ap is_pass (some-injective x v at) in
      omega (arith, e)
  passes_of-set (x ∷ xs) (suc id) v w at = let e = passes_of-set xs id v w at in omega (arith, e)

  pub passes_of-more : (l : List (Known S)) (w : Known S) → w.view.number ≡ 0 →
      passes_of (l ++ w ∷ []) ≡ passes_of l
  passes_of-more [] w nobody = ap (λ n. cond (eqb n 0) 0 1 + 0) nobody
  passes_of-more (x ∷ xs) w nobody = ap (λ n. is_pass x + n) (passes_of-more xs w nobody)

  pub same_kind : (v w : Known S) → w.view.number ≡ v.view.number → is_pass w ≡ is_pass v
  same_kind v w same = ap (λ n. cond (eqb n 0) 0 1) same
