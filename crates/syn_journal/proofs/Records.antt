-- How records are read that were spelled.
use Rattle.std.proofs.Common.{◌≡◌, ◌≢◌, ℕ, zero, suc, ◌+◌, ◌^◌, ◌<◌, ◌≤◌, true, false, ltb, List}
use Rattle.std.proofs.Common.{[], ◌∷◌, ◌++◌, length, take, drop, Some, None, refl, sym, ◌∙◌, ap}
use Rattle.std.proofs.Common.{subst, arith, length-append}
use Rattle.std.proofs.lemmas.List.{append-nil, append_assoc, take_at, drop_at}
use Rattle.std.proofs.lemmas.Bool.Decides.{nat_tests}
use Rattle.std.proofs.lemmas.Nat.{from_be_bytes-to_be_bytes_4}
use Rattle.std.specs.Int.{w32, to_be_bytes, from_be_bytes}
use Rattle.std.specs.Prelude.{if◌then◌else◌}
use Rattle.syn_journal.specs.Layout.{open_gate, and_before, records, record_of, records_of}

one_step : (fuel : ℕ) (rest : List ℕ) (n : ℕ) → from_be_bytes w32 (take 4 rest) ≡ n →
    4 + n < length rest → records (suc fuel) (open_gate ∷ rest)
    ≡ and_before (take n (drop 4 rest)) (records fuel (drop (4 + n) rest))
one_step fuel rest n size fits =
    let whole : ltb (4 + n) (length rest) ≡ true = grind (arith, nat_tests) in
    let P : ℕ → Type 0 = λ k. (if ltb (4 + k) (length rest)
    then and_before (take k (drop 4 rest)) (records fuel (drop (4 + k) rest)) else None)
    ≡ and_before (take n (drop 4 rest)) (records fuel (drop (4 + n) rest)) in
    let at_n : P n = rw whole refl in
    subst P (sym size) at_n

-- one open record, and then the rest
one_record : (fuel : ℕ) (word payload rest : List ℕ) → length word ≡ 4 →
    from_be_bytes w32 word ≡ length payload → 0 < length rest → records (suc fuel)
    (open_gate ∷ (word ++ payload) ++ rest) ≡ and_before payload (records fuel rest)
one_record fuel word payload rest four reads some =
    let split : (word ++ payload) ++ rest ≡ word ++ (payload ++ rest) =
    append_assoc word payload rest in
    let size : from_be_bytes w32 (take 4 ((word ++ payload) ++ rest)) ≡ length payload =
    ap (λ (l : List ℕ). from_be_bytes w32 (take 4 l)) split
    ∙ ap (from_be_bytes w32) (take_at word (payload ++ rest) 4 four) ∙ reads in
    let first : take (length payload) (drop 4 ((word ++ payload) ++ rest)) ≡ payload =
    ap (λ (l : List ℕ). take (length payload) (drop 4 l)) split
    ∙ ap (λ (l : List ℕ). take (length payload) l) (drop_at word (payload ++ rest) 4 four)
    ∙ take_at payload rest (length payload) refl in
    let after : drop (4 + length payload) ((word ++ payload) ++ rest) ≡ rest =
    drop_at (word ++ payload) rest (4 + length payload)
    (omega (arith, four, length-append word payload)) in
    one_step fuel ((word ++ payload) ++ rest) (length payload) size
    (omega (arith, four, some, length-append (word ++ payload) rest, length-append word payload))
    ∙ (λ i. and_before (first i) (records fuel (after i)))

-- up to a closed gate
pub records_read : (payloads : List (List ℕ)) (fuel gate : ℕ) (rest : List ℕ) → gate ≢ open_gate →
    length (records_of payloads) < 2 ^ 32 → length (records_of payloads) < fuel →
    records fuel (records_of payloads ++ gate ∷ rest) ≡ Some payloads
records_read payloads zero gate rest closed small enough = absurd (omega arith)
records_read [] (suc fuel) gate rest closed small enough = grind (arith, nat_tests)
records_read (payload ∷ payloads) (suc fuel) gate rest closed small enough =
    let size = length-append (record_of payload) (records_of payloads) in
    let size' = length-append (to_be_bytes w32 (length payload)) payload in
    ap (records (suc fuel)) (append_assoc (record_of payload) (records_of payloads) (gate ∷ rest))
    ∙ one_record fuel (to_be_bytes w32 (length payload)) payload
    (records_of payloads ++ gate ∷ rest) refl
    (from_be_bytes-to_be_bytes_4 (length payload) (omega (arith, size, size', small)))
    (omega (arith, length-append (records_of payloads) (gate ∷ rest)))
    ∙ ap (and_before payload) (records_read payloads fuel gate rest closed
    (omega (arith, size, small)) (omega (arith, size, size', enough)))

-- an open record that is too long
too_long : (fuel : ℕ) (rest : List ℕ) → length rest ≤ 4 + from_be_bytes w32 (take 4 rest) →
    records (suc fuel) (open_gate ∷ rest) ≡ None
too_long fuel rest long =
    let test : ltb (4 + from_be_bytes w32 (take 4 rest)) (length rest) ≡ false =
    grind (arith, nat_tests) in
    rw test refl

-- up to an open record that is too long
pub records_broken : (payloads : List (List ℕ)) (fuel : ℕ) (rest : List ℕ) →
    length rest ≤ 4 + from_be_bytes w32 (take 4 rest) → length (records_of payloads) < 2 ^ 32 →
    length (records_of payloads) < fuel →
    records fuel (records_of payloads ++ open_gate ∷ rest) ≡ None
records_broken payloads zero rest long small enough = absurd (omega arith)
records_broken [] (suc fuel) rest long small enough = too_long fuel rest long
records_broken (payload ∷ payloads) (suc fuel) rest long small enough =
    let size = length-append (record_of payload) (records_of payloads) in
    let size' = length-append (to_be_bytes w32 (length payload)) payload in
    ap (records (suc fuel))
    (append_assoc (record_of payload) (records_of payloads) (open_gate ∷ rest))
    ∙ one_record fuel (to_be_bytes w32 (length payload)) payload
    (records_of payloads ++ open_gate ∷ rest) refl
    (from_be_bytes-to_be_bytes_4 (length payload) (omega (arith, size, size', small)))
    (omega (arith, length-append (records_of payloads) (open_gate ∷ rest)))
    ∙ ap (and_before payload) (records_broken payloads fuel rest long (omega (arith, size, small))
    (omega (arith, size, size', enough)))

-- some and then more
pub records_of-append : (payloads more : List (List ℕ)) →
    records_of (payloads ++ more) ≡ records_of payloads ++ records_of more
records_of-append [] more = refl
records_of-append (p ∷ payloads) more =
    ap (λ (l : List ℕ). record_of p ++ l) (records_of-append payloads more)
    ∙ sym (append_assoc (record_of p) (records_of payloads) (records_of more))

-- one more at the end
pub records_of-push : (payloads : List (List ℕ)) (payload : List ℕ) →
    records_of (payloads ++ payload ∷ []) ≡ records_of payloads ++ record_of payload
records_of-push payloads payload =
    records_of-append payloads (payload ∷ [])
    ∙ ap (λ (l : List ℕ). records_of payloads ++ l) (append-nil (record_of payload))
