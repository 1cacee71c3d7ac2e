-- Parts of a disk's bytes, by their places.
use Rattle.std.proofs.Common.{◌≡◌, ℕ, zero, suc, ◌+◌, ◌-◌, ◌<◌, ◌≤◌, List, [], ◌∷◌, ◌++◌, length}
use Rattle.std.proofs.Common.{get_or, take, drop, refl, sym, ◌∙◌, ap, arith, length-append}
use Rattle.std.proofs.Common.{length-take, length-drop}
use Rattle.std.proofs.lemmas.List.{get_or-take, get_or-drop, get_or_append_left}
use Rattle.std.proofs.lemmas.List.{get_or-append_right, ext_get_or, drop-drop, take_at, drop_at}
use Rattle.syn_disk.specs.Disk.{Torn, overwritten}

-- equal at each place of a part
pub same_part : (old new : List ℕ) (at n : ℕ) →
    length new ≡ length old → ((i : ℕ) → at ≤ i → i < at + n → get_or new i 0 ≡ get_or old i 0) →
    take n (drop at new) ≡ take n (drop at old)
same_part old new at n size each =
    ext_get_or 0 _ _ (omega (
      arith,
      length-take n (drop at new),
      length-take n (drop at old),
      length-drop at new,
      length-drop at old,
    )) here
  where
    here : (i : ℕ) → i < length (take n (drop at new)) →
        get_or (take n (drop at new)) i 0 ≡ get_or (take n (drop at old)) i 0
    here i less =
        let within : i < n = omega (arith, less, length-take n (drop at new)) in
        get_or-take n (drop at new) i 0 within ∙ get_or-drop at new i 0
        ∙ each (at + i) (omega arith) (omega (arith, within)) ∙ sym (get_or-drop at old i 0)
        ∙ sym (get_or-take n (drop at old) i 0 within)

-- a part that has these bytes at its places is these bytes
pub part_is : (xs disk : List ℕ) (at : ℕ) → at + length xs ≤ length disk →
    ((k : ℕ) → k < length xs → get_or disk (at + k) 0 ≡ get_or xs k 0) →
    take (length xs) (drop at disk) ≡ xs
part_is xs disk at fits each = ext_get_or 0 _ xs long here
  where
    long : length (take (length xs) (drop at disk)) ≡ length xs
    long = omega (arith, length-take (length xs) (drop at disk), length-drop at disk)

    here : (i : ℕ) → i < length (take (length xs) (drop at disk)) →
        get_or (take (length xs) (drop at disk)) i 0 ≡ get_or xs i 0
    here i less =
        let within : i < length xs = omega (arith, less, long) in
        get_or-take (length xs) (drop at disk) i 0 within ∙ get_or-drop at disk i 0 ∙ each i within

empty : (k : ℕ) → [] ≡ take {A = ℕ} k []
empty zero = refl
empty (suc k) = refl

pub take_add : (m n : ℕ) (xs : List ℕ) → take (m + n) xs ≡ take m xs ++ take n (drop m xs)
take_add zero n xs = ap (λ k. take k xs) (omega arith)
take_add (suc m) n [] = sym (empty (suc m + n)) ∙ empty n
take_add (suc m) n (x ∷ xs) =
    let more : suc m + n ≡ suc (m + n) = omega arith in
    ap (λ k. take k (x ∷ xs)) more ∙ ap (λ (l : List ℕ). x ∷ l) (take_add m n xs)

pub part_add : (m n at : ℕ) (disk : List ℕ) →
    take (m + n) (drop at disk) ≡ take m (drop at disk) ++ take n (drop (at + m) disk)
part_add m n at disk =
    take_add m n (drop at disk)
    ∙ ap (λ (l : List ℕ). take m (drop at disk) ++ take n l) (drop-drop m at disk)

module _ (old : List ℕ) (at : ℕ) (bytes : List ℕ) (fits : at + length bytes ≤ length old) where
  pub length-overwritten : length (overwritten old at bytes) ≡ length old
  length-overwritten =
      omega (
        arith,
        length-append (take at old) (bytes ++ drop (at + length bytes) old),
        length-append bytes (drop (at + length bytes) old),
        length-take at old,
        length-drop (at + length bytes) old,
      )

  front : length (take at old) ≡ at
  front = omega (arith, length-take at old)

  pub overwritten-below : (i : ℕ) → i < at → get_or (overwritten old at bytes) i 0 ≡ get_or old i 0
  overwritten-below i below =
      get_or_append_left (take at old) _ 0 i (omega (arith, front)) ∙ get_or-take at old i 0 below

  pub overwritten-in : (i : ℕ) → i < length bytes →
      get_or (overwritten old at bytes) (at + i) 0 ≡ get_or bytes i 0
  overwritten-in i within =
      let n : at + i - at ≡ i = omega arith in
      get_or-append_right (take at old) _ at (at + i) 0 front (omega arith)
      ∙ ap (λ k. get_or (bytes ++ drop (at + length bytes) old) k 0) n
      ∙ get_or_append_left bytes _ 0 i within

  pub overwritten-after : (i : ℕ) → at + length bytes ≤ i →
      get_or (overwritten old at bytes) i 0 ≡ get_or old i 0
  overwritten-after i later =
      let n : at + length bytes + (i - at - length bytes) ≡ i = omega arith in
      get_or-append_right (take at old) _ at i 0 front (omega arith)
      ∙ get_or-append_right bytes _ (length bytes) (i - at) 0 refl (omega arith)
      ∙ get_or-drop (at + length bytes) old (i - at - length bytes) 0 ∙ ap (λ k. get_or old k 0) n

-- a part and what stands after it
pub next_part : (disk : List ℕ) (at n at' : ℕ) (p q : List ℕ) → drop at disk ≡ p ++ q →
    length p ≡ n → at' ≡ at + n → (take n (drop at disk) ≡ p) × (drop at' disk ≡ q)
next_part disk at n at' p q is size next = (
  ap (λ (l : List ℕ). take n l) is ∙ take_at p q n size,
  ap (λ k. drop k disk) next ∙ sym (drop-drop n at disk) ∙ ap (λ (l : List ℕ). drop n l) is
      ∙ drop_at p q n size,
)

pub take_over : (xs : List ℕ) (x : ℕ) (rest : List ℕ) (m k : ℕ) → m ≡ length xs + suc k →
    take m (xs ++ x ∷ rest) ≡ xs ++ x ∷ take k rest
take_over [] x rest zero k is = absurd (omega arith)
take_over [] x rest (suc m) k is = let same : m ≡ k = omega arith in ap (λ j. x ∷ take j rest) same
take_over (y ∷ xs) x rest zero k is = absurd (omega arith)
take_over (y ∷ xs) x rest (suc m) k is =
    ap (λ (l : List ℕ). y ∷ l) (take_over xs x rest m k (omega arith))

pub torn_by : (old : List ℕ) (at : ℕ) (bytes : List ℕ) → at + length bytes ≤ length old →
    Torn at (length bytes) old (overwritten old at bytes)
torn_by old at bytes fits =
    record {
      size = length-overwritten old at bytes fits;
      before = overwritten-below old at bytes fits;
      after = overwritten-after old at bytes fits;
    }
