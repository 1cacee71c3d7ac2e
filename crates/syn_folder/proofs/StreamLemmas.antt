-- What is read of something whose bytes are known.
use Rattle.std.proofs.Common.{◌≡◌, ℕ, List, [], ◌++◌, take, sym, ap, ◌∙◌, append_assoc, append-nil}
use Rattle.std.proofs.Common.{refl}
use Rattle.std.proofs.Common.{Option, Some, None, IfSome, option_map}
use Rattle.std.specs.Io.KnownBytes.{Consumes, IsAtEnd}

-- nothing was read yet
pub consumed_none : (known : Option (List ℕ)) → Consumes known known []
consumed_none None = tt
consumed_none (Some all) = refl

-- one more read
pub consumed_more : (first known rest : Option (List ℕ)) (before more : List ℕ)
    → Consumes first known before → Consumes known rest more
    → Consumes first rest (before ++ more)
consumed_more None known rest before more first then = tt
consumed_more (Some all) None rest before more first then = absurd first
consumed_more (Some all) (Some some) None before more first then = absurd then
consumed_more (Some all) (Some some) (Some rest) before more first then =
    first ∙ (ap (λ xs. before ++ xs) then ∙ sym (append_assoc before more rest))

-- all was read
pub consumed_all : (first rest : Option (List ℕ)) (bytes : List ℕ) → Consumes first rest bytes
    → IsAtEnd rest → IfSome first (λ all. bytes ≡ all)
consumed_all None rest bytes consumed end = tt
consumed_all (Some all) None bytes consumed end = absurd consumed
consumed_all (Some all) (Some rest) bytes consumed end =
    sym (consumed ∙ (ap (λ xs. bytes ++ xs) end ∙ append-nil bytes))

-- as many were read as may be
pub taken : (known : Option (List ℕ)) (most : ℕ) (before bytes : List ℕ) → before ≡ []
    → IfSome (option_map (take most) known) (λ xs. bytes ≡ before ++ xs)
    → IfSome known (λ all. bytes ≡ take most all)
taken None most before bytes none read = tt
taken (Some all) most before bytes none read = read ∙ ap (λ xs. xs ++ take most all) none
