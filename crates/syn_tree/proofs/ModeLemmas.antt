-- The octal digits of a mode.
use Rattle.std.proofs.Common.{◌≡◌, ◌<◌, ◌≤◌, ◌+◌, ◌*◌, ◌/◌, ◌%◌, ℕ, Bool, true, false, List, []}
use Rattle.std.proofs.Common.{◌∷◌, ◌++◌, length, slice_index_or, refl, ap, ap₂, ◌∙◌, arith}
use Rattle.std.specs.Fmt.{decimal}
use Rattle.std.proofs.lemmas.Fmt.{decimal_digit}
use Rattle.syn_tree.specs.Modes.{access_of, bit_of, mode_digits, mode_of}
use Rattle.syn_tree.specs.declared.mode.AccessRights.{AccessRights}
use Rattle.syn_tree.specs.declared.mode.Mode.{Mode}

one_bit : (set : Bool) → bit_of set ≤ 1
one_bit true = omega arith
one_bit false = omega arith

three_bits : (access : AccessRights) → access_of access < 8
three_bits access =
    omega (arith, one_bit access.read, one_bit access.write, one_bit access.execute)

abbrev three : ℕ → ℕ → ℕ → List ℕ
three a b c = (48 + a) ∷ (48 + b) ∷ (48 + c) ∷ []

digits : (a b c : ℕ) → a < 8 → b < 8 → c < 8 → mode_digits (64 * a + 8 * b + c) ≡ three a b c
digits a b c ha hb hc =
    let mode = 64 * a + 8 * b + c in
    let first : mode / 64 ≡ a = omega (arith, hb, hc) in
    let second : mode / 8 % 8 ≡ b = omega (arith, hb, hc) in
    let third : mode % 8 ≡ c = omega (arith, hc) in
    ap₂ (λ x (y : List ℕ). x ++ y) (ap decimal first ∙ decimal_digit a (omega (arith, ha)))
    (ap₂ (λ x (y : List ℕ). x ++ y) (ap decimal second ∙ decimal_digit b (omega (arith, hb)))
    (ap decimal third ∙ decimal_digit c (omega (arith, hc))))

-- one for each kind of users
pub digits_are : (mode : Mode) → mode_digits (mode_of mode)
    ≡ three (access_of mode.owner) (access_of mode.group) (access_of mode.others)
digits_are mode =
    digits (access_of mode.owner) (access_of mode.group) (access_of mode.others)
    (three_bits mode.owner) (three_bits mode.group) (three_bits mode.others)

-- a list of three
pub of_three : (xs : List ℕ) → length xs ≡ 3 →
    xs ≡ slice_index_or xs 0 0 ∷ slice_index_or xs 1 0 ∷ slice_index_or xs 2 0 ∷ []
of_three [] e = absurd (omega (arith, e))
of_three (a ∷ []) e = absurd (omega (arith, e))
of_three (a ∷ b ∷ []) e = absurd (omega (arith, e))
of_three (a ∷ b ∷ c ∷ []) e = refl
of_three (a ∷ b ∷ c ∷ d ∷ xs) e = absurd (omega (arith, e))
