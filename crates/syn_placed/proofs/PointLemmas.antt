-- Where a search for the end of a part ends.
use Rattle.std.proofs.Common.{◌≡◌, ◌≤◌, ◌<◌, ℕ, zero, suc, nat_lt, Bool, true, false, List, [], ◌∷◌}
use Rattle.std.proofs.Common.{◌++◌, length, slice_index_or, refl, sym, ap, ◌∙◌, true≢false, arith}
use Rattle.std.proofs.lemmas.Bool.Decides.{nat_tests}
use Rattle.std.specs.List.Sorted.{IsPartitionedBy, IsPartitionPoint}
use Rattle.syn_placed.proofs.RisingLemmas.{Each, NoneOf}

lt-of : (m n : ℕ) → nat_lt m n ≡ true → m < n
lt-of m n h = grind (arith, nat_tests)

ge-of : (m n : ℕ) → nat_lt m n ≡ false → n ≤ m
ge-of m n h = grind (arith, nat_tests)

-- elements that pass a test, and then elements that do not
passes : {X : Type 0} (p : X → Bool) (ys zs : List X) (i : ℕ) (d : X) → Each p ys → i < length ys →
    p (slice_index_or (ys ++ zs) i d) ≡ true
passes p [] zs i d h l = absurd (omega arith)
passes p (y ∷ ys) zs zero d h l = h.0
passes p (y ∷ ys) zs (suc i) d h l = passes p ys zs i d h.1 (omega arith)

fails : {X : Type 0} (p : X → Bool) (ys zs : List X) (i : ℕ) (d : X) → NoneOf p zs → length ys ≤ i →
    i < length (ys ++ zs) → p (slice_index_or (ys ++ zs) i d) ≡ false
fails p [] [] i d h l m = absurd (omega arith)
fails p [] (z ∷ zs) zero d h l m = h.0
fails p [] (z ∷ zs) (suc i) d h l m = fails p [] zs i d h.1 (omega arith) (omega arith)
fails p (y ∷ ys) zs zero d h l m = absurd (omega arith)
fails p (y ∷ ys) zs (suc i) d h l m = fails p ys zs i d h (omega arith) (omega arith)

pub partitioned : {X : Type 0} (p : X → Bool) (ys zs : List X) → Each p ys → NoneOf p zs →
    IsPartitionedBy p (ys ++ zs)
partitioned p ys zs h k i j d le l is = place (nat_lt i (length ys)) refl
  where
    place : (b : Bool) → nat_lt i (length ys) ≡ b → p (slice_index_or (ys ++ zs) i d) ≡ true
    place true e = passes p ys zs i d h (lt-of i (length ys) e)
    place false e =
        absurd
        (true≢false (sym is ∙ fails p ys zs j d k (omega (arith, ge-of i (length ys) e, le)) l))

-- the end of a search is the end of the part
pub point : {X : Type 0} (p : X → Bool) (ys zs : List X) (n : ℕ) → Each p ys → NoneOf p zs →
    n ≤ length (ys ++ zs) → IsPartitionPoint (λ y. p y ≡ true) (λ y. p y ≡ false) (ys ++ zs) n →
    n ≡ length ys
point p [] [] n h k l at = omega arith
point p [] (z ∷ zs) zero h k l at = refl
point p [] (z ∷ zs) (suc n) h k l at =
    absurd (true≢false (sym (at.0 0 z (omega arith) (omega arith)) ∙ k.0))
point p (y ∷ ys) zs zero h k l at =
    absurd (true≢false (sym h.0 ∙ at.1 0 y (omega arith) (omega arith)))
point p (y ∷ ys) zs (suc n) h k l at =
    ap suc (point p ys zs n h.1 k (omega arith) (
      (λ i d le lt. at.0 (suc i) d (omega arith)
          (omega arith)),
      (λ i d le lt. at.1 (suc i) d (omega arith) (omega arith)),
    ))
