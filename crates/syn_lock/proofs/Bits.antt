-- The lowest bit of a number, set.
use Rattle.std.proofs.Common.{◌≡◌, ℕ, ◌+◌, ◌*◌, ◌/◌, ◌%◌, ◌≤◌, arith, ◌∙◌}
use Rattle.std.proofs.Math.Nat.{max-eq_right}
use Rattle.std.specs.Int.Bits.{bit_or, or_step, or_zero_r}

set_bit : (n : ℕ) → bit_or n 1 ≡ n / 2 * 2 + 1
set_bit n =
    let small : n % 2 ≤ 1 = omega arith in
    or_step n 1 ∙ (λ i. or_zero_r (n / 2) i * 2 + max-eq_right small i)

pub with_bit : (n : ℕ) → (bit_or n 1 % 2 ≡ 1) × (bit_or n 1 / 2 ≡ n / 2)
with_bit n = let e = set_bit n in (omega (arith, e), omega (arith, e))

pub bit_there : (n : ℕ) → n % 2 ≡ 1 → bit_or n 1 ≡ n
bit_there n odd = let e = set_bit n in omega (arith, e, odd)
