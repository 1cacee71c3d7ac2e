-- Laws of the words of a line.
use Rattle.std.proofs.Common.{◌≡◌, ◌<◌, ◌-◌, ℕ, List, [], ◌∷◌, ◌++◌, length, map, drop, get_or}
use Rattle.std.proofs.Common.{take, length-drop, append-nil, sym, ap, arith}
use Rattle.std.proofs.lemmas.List.{take_all}
use Rattle.std.specs.List.{flat_map, join_with_byte}

-- the first piece, and each other after the byte
pub join-flat : {W : Type 0} (text : W → List ℕ) (b : ℕ) (first : W) (others : List W) →
    join_with_byte b (map text (first ∷ others))
    ≡ text first ++ flat_map (λ word. b ∷ text word) others
join-flat text b first [] = sym (append-nil (text first))
join-flat text b first (next ∷ others) =
    ap (λ rest. text first ++ (b ∷ rest)) (join-flat text b next others)

-- the same of a list with a first piece
pub joined_is : {W : Type 0} (text : W → List ℕ) (b : ℕ) (words : List W) (d : W) →
    0 < length words → join_with_byte b (map text words)
    ≡ text (get_or words 0 d) ++ flat_map (λ word. b ∷ text word) (drop 1 words)
joined_is text b [] d l = absurd (omega arith)
joined_is text b (first ∷ others) d l = join-flat text b first others

-- a list without its first elements, as a pattern has it
pub others_of : {W : Type 0} (n : ℕ) (words : List W) →
    take (length words - n) (drop n words) ≡ drop n words
others_of n words = take_all (length words - n) (drop n words) (omega (arith, length-drop n words))

-- the first word and the others
pub first_word : {W : Type 0} (text : W → List ℕ) (words : List W) (d : W) → 0 < length words →
    map text words ≡ text (get_or words 0 d) ∷ map text (take (length words - 1) (drop 1 words))
first_word text [] d l = absurd (omega arith)
first_word text (first ∷ others) d l =
    ap (λ ws. text first ∷ map text ws) (sym (others_of 1 (first ∷ others)))

-- the first two words and the others
pub two_words : {W : Type 0} (text : W → List ℕ) (words : List W) (d : W) → 1 < length words →
    map text words ≡ text (get_or words 0 d) ∷ text (get_or words 1 d)
    ∷ map text (take (length words - 2) (drop 2 words))
two_words text [] d l = absurd (omega arith)
two_words text (first ∷ []) d l = absurd (omega arith)
two_words text (first ∷ next ∷ others) d l =
    ap (λ ws. text first ∷ text next ∷ map text ws) (sym (others_of 2 (first ∷ next ∷ others)))
