-- Ranges of a disk after a further one.
use Rattle.std.proofs.Common.{◌≡◌, ◌⊎◌, inl, inr, ℕ, ◌+◌, ◌<◌, ◌≤◌, Bool, true, false, ◌||◌, List}
use Rattle.std.proofs.Common.{[], ◌∷◌, ◌++◌, refl, ◌∙◌, ap, arith}
use Rattle.std.proofs.lemmas.Grind.{common_steps}
use Rattle.syn_disk.specs.Extent.{is_between, is_in_some}
use Rattle.syn_model.proofs.BaseLemmas.{or_false, or_assoc}

pub is_in_some-push : (ranges : List (ℕ × ℕ)) (range : ℕ × ℕ) (i : ℕ) →
    is_in_some (ranges ++ range ∷ []) i ≡ (is_in_some ranges i || is_between range.0 range.1 i)
is_in_some-push [] range i = or_false (is_between range.0 range.1 i)
is_in_some-push (first ∷ rest) range i =
    ap (λ b. is_between first.0 first.1 i || b) (is_in_some-push rest range i)
    ∙ or_assoc (is_between first.0 first.1 i) (is_in_some rest i) (is_between range.0 range.1 i)

pub outside : (start len i : ℕ) → (i < start) ⊎ (start + len ≤ i) → is_between start len i ≡ false
outside start len i (inl less) = grind (arith, common_steps)
outside start len i (inr past) = grind (arith, common_steps)
