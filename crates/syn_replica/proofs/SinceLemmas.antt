-- Whether a path was touched since it was listed.
use Rattle.std.proofs.Common.{◌≡◌, ◌⊎◌, ◌<◌, ℕ, Bool, true, false, not, ◌||◌, if◌then◌else◌, nat_lt}
use Rattle.std.proofs.Common.{List, [], ◌∷◌, length, refl, ap, ap₂, Some, None, inl, inr, arith}
use Rattle.std.proofs.lemmas.Bool.Decides.{nat_tests}
use Rattle.syn_model.specs.Path.{Path}
use Rattle.syn_model.specs.Refusal.{Refusal, BelowFloor, Touched, Cause, first_cause}
use Rattle.syn_model.specs.History.{History, floor, is_quiet}
use Rattle.syn_replica.specs.Causes.{since_causes}

pub first_true : (b : Bool) (why : Refusal) (rest : List Cause) → b ≡ true →
    first_cause ((b, why) ∷ rest) ≡ Some why
first_true b why rest e = ap (λ b. first_cause ((b, why) ∷ rest)) e

pub first_false : (b : Bool) (why : Refusal) (rest : List Cause) → b ≡ false →
    first_cause ((b, why) ∷ rest) ≡ first_cause rest
first_false b why rest e = ap (λ b. first_cause ((b, why) ∷ rest)) e

-- ---- whether the path was touched since

module _ (history : History) (path : Path) (since : ℕ) where
  is_below : Bool
  is_below = nat_lt since (floor history) || nat_lt (length history) since

  below_test : (a b c : ℕ) → (a < b) ⊎ (c < a) → (nat_lt a b || nat_lt c a) ≡ true
  below_test a b c (inl h) = ap (λ x. x || nat_lt c a) (lt a b h)
    where
      lt : (m n : ℕ) → m < n → nat_lt m n ≡ true
      lt m n h = grind (arith, nat_tests)
  below_test a b c (inr h) = by_first (nat_lt a b) (nat_lt c a) (lt c a h)
    where
      lt : (m n : ℕ) → m < n → nat_lt m n ≡ true
      lt m n h = grind (arith, nat_tests)

      by_first : (x y : Bool) → y ≡ true → (x || y) ≡ true
      by_first true y e = refl
      by_first false y e = e

  above_test : (a b c : ℕ) → ((a < b) ⊎ (c < a) → ⊥) → (nat_lt a b || nat_lt c a) ≡ false
  above_test a b c h =
      ap₂ (λ x y. x || y) (not_lt a b (λ l. h (inl l))) (not_lt c a (λ l. h (inr l)))
    where
      not_lt : (m n : ℕ) → (m < n → ⊥) → nat_lt m n ≡ false
      not_lt m n h = grind (arith, nat_tests)

  pub since_below : (since < floor history) ⊎ (length history < since) →
      first_cause (since_causes history path since) ≡ Some BelowFloor
  since_below h =
      first_true (nat_lt since (floor history) || nat_lt (length history) since) BelowFloor
      ((not (is_quiet history since (length history) path), Touched) ∷ [])
      (below_test since (floor history) (length history) h)

  pub since_told : ((since < floor history) ⊎ (length history < since) → ⊥) →
      first_cause (since_causes history path since)
      ≡ (if not (is_quiet history since (length history) path) then Some Touched else None)
  since_told h =
      first_false (nat_lt since (floor history) || nat_lt (length history) since) BelowFloor
      ((not (is_quiet history since (length history) path), Touched) ∷ [])
      (above_test since (floor history) (length history) h)
