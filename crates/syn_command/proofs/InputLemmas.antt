-- What a reader with a limit gives.
use Rattle.std.proofs.Common.{◌≡◌, ◌++◌, ℕ, List, [], Option, Some, None, option_map, take, subst}
use Rattle.std.specs.Option.{IfSome}
use Rattle.std.specs.Io.Take.{take_inner, take_limit, take_remaining}
use Rattle.std.specs.declared.io.traits.Take.{Take}

from_known : (known : Option (List ℕ)) (most : ℕ) (items : List ℕ) →
    IfSome (option_map (take most) known) (λ xs. items ≡ xs) →
    IfSome known (λ left. items ≡ take most left)
from_known None most items h = tt
from_known (Some left) most items h = h

-- all that is left of a reader with a limit are the first bytes that are left of the reader
pub taken : {R : Type 0} (t : Take R) (remaining : R → Option (List ℕ)) (inner : R) (most : ℕ)
    (items start : List ℕ) → take_limit t ≡ most → take_inner t ≡ inner → start ≡ [] →
    IfSome (take_remaining remaining t) (λ xs. items ≡ start ++ xs) →
    IfSome (remaining inner) (λ left. items ≡ take most left)
taken {R} t remaining inner most items start limited same empty h =
    let of_inner = subst (λ (r : R). IfSome (option_map (take t.limit) (remaining r))
    (λ xs. items ≡ start ++ xs)) same h in
    let of_most = subst (λ (n : ℕ). IfSome (option_map (take n) (remaining inner))
    (λ xs. items ≡ start ++ xs)) limited of_inner in
    let of_all = subst (λ (s : List ℕ). IfSome (option_map (take most) (remaining inner))
    (λ xs. items ≡ s ++ xs)) empty of_most in
    from_known (remaining inner) most items of_all
