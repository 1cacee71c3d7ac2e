-- Flags after a range of them was set or cleared.
use Rattle.std.proofs.Common.{◌≡◌, ◌⊎◌, inl, inr, ℕ, ◌+◌, ◌-◌, ◌<◌, ◌≤◌, Bool, false, List, length}
use Rattle.std.proofs.Common.{replicate, sym, ◌∙◌, ap, arith}
use Rattle.std.proofs.lemmas.List.{length-replicate, get_or-replicate}
use Rattle.std.proofs.lemmas.Bool.{cases_lt}
use Rattle.syn_disk.specs.Disk.{overwritten}
use Rattle.syn_disk.specs.Written.{is_written}
use Rattle.syn_disk.proofs.Overwritten.{length-overwritten, overwritten-below, overwritten-in}
use Rattle.syn_disk.proofs.Overwritten.{overwritten-after}

module _ (written : List Bool) (at n : ℕ) (within : at + n ≤ length written) (value : Bool) where
  abbrev marked : List Bool
  marked = overwritten written at (replicate n value)

  fits : at + length (replicate n value) ≤ length written
  fits = omega (arith, length-replicate n value)

  pub length-marked : length marked ≡ length written
  length-marked = length-overwritten written at (replicate n value) fits

  pub marked-outside : (i : ℕ) → (i < at) ⊎ (at + n ≤ i) →
      is_written marked i ≡ is_written written i
  marked-outside i (inl less) = overwritten-below written at (replicate n value) fits i false less
  marked-outside i (inr past) =
      overwritten-after written at (replicate n value) fits i false
      (omega (arith, length-replicate n value))

  pub marked-inside : (i : ℕ) → at ≤ i → i < at + n → is_written marked i ≡ value
  marked-inside i low high =
      let is : at + (i - at) ≡ i = omega arith in
      ap (λ j. is_written marked j) (sym is) ∙ overwritten-in written at (replicate n value) fits
      (i - at) false (omega (arith, length-replicate n value))
      ∙ get_or-replicate n (i - at) value false (omega arith)

-- where an index lies
pub place : (from to i : ℕ) → ((i < from) ⊎ (to ≤ i)) ⊎ ((from ≤ i) × (i < to))
place from to i = elim (cases_lt i from) [
  | inl less ↦ inl (inl less)
  | inr more ↦ elim (cases_lt i to) [ inl within ↦ inr (more, within) | inr past ↦ inl (inr past) ]
]
