-- A list that is kept in part: its elements, after more of it is kept, and after a write into what
-- is kept.
use Rattle.std.proofs.Common.{◌≡◌, ℕ, zero, suc, ◌+◌, ◌-◌, ◌≤◌, List, ◌∷◌, ◌++◌, length, get_or}
use Rattle.std.proofs.Common.{take, drop, replicate, refl, sym, ◌∙◌, ap, inl, inr, arith}
use Rattle.std.proofs.Common.{append_assoc, length-append, length-drop}
use Rattle.std.proofs.lemmas.Bool.{cases_lt}
use Rattle.std.proofs.lemmas.List.{length-replicate, take-append-le, drop-append-le, get_or_past}
use Rattle.std.proofs.lemmas.List.{get_or_append_left, get_or-append_right, get_or-replicate}
use Rattle.syn_disk.specs.Disk.{overwritten}
use Rattle.syn_disk.specs.Padded.{padded}
use Rattle.syn_disk.proofs.Overwritten.{length-overwritten}

module _ {X : Type 0} (rest : X) where
  get-replicate : (n i : ℕ) → get_or (replicate n rest) i rest ≡ rest
  get-replicate n i = elim (cases_lt i n) [
    | inl less ↦ get_or-replicate n i rest rest less
    | inr past ↦ get_or_past (replicate n rest) i rest (omega (arith, length-replicate n rest))
  ]

  pub get-padded : (items : List X) (size i : ℕ) →
      get_or (padded items size rest) i rest ≡ get_or items i rest
  unfolding padded
  get-padded items size i = elim (cases_lt i (length items)) [
    | inl less ↦ get_or_append_left items (replicate (size - length items) rest) rest i less
    | inr past ↦ get_or-append_right items (replicate (size - length items) rest)
        (length items) i rest refl past ∙ get-replicate (size - length items) (i - length items)
        ∙ sym (get_or_past items i rest past)
  ]

  replicate-add : (m n k : ℕ) → m + n ≡ k → replicate m rest ++ replicate n rest ≡ replicate k rest
  replicate-add zero n k is = ap (λ j. replicate j rest) (let e : n ≡ k = omega arith in e)
  replicate-add (suc m) n zero is = absurd (omega arith)
  replicate-add (suc m) n (suc k) is = ap (λ xs. rest ∷ xs) (replicate-add m n k (omega arith))

  -- more is kept
  pub padded-reach : (items : List X) (size to : ℕ) → length items ≤ size → to ≤ size →
      padded (items ++ replicate (to - length items) rest) size rest ≡ padded items size rest
  unfolding padded
  padded-reach items size to fits within =
      let more = replicate (to - length items) rest in
      let long : length (items ++ more) ≡ length items + (to - length items) =
      omega (arith, length-append items more, length-replicate (to - length items) rest) in
      append_assoc items more _ ∙ ap (λ xs. items ++ xs) (replicate-add (to - length items)
      (size - length (items ++ more)) (size - length items) (omega (arith, long)))

  pub overwritten-padded : (items : List X) (size at : ℕ) (new : List X) →
      at + length new ≤ length items →
      overwritten (padded items size rest) at new ≡ padded (overwritten items at new) size rest
  unfolding padded
  overwritten-padded items size at new fits =
      let tail = replicate (size - length items) rest in
      let front = take-append-le at items tail (omega arith) in
      let back = drop-append-le (at + length new) items tail fits in
      let whole = length-overwritten items at new fits in
      rw (front, back, whole)
      (ap (λ xs. take at items ++ xs) (sym (append_assoc new (drop (at + length new) items) tail))
      ∙ sym (append_assoc (take at items) (new ++ drop (at + length new) items) tail))

  -- what is read lies in what is kept
  pub part-padded : (items : List X) (size at n : ℕ) → at + n ≤ length items →
      take n (drop at (padded items size rest)) ≡ take n (drop at items)
  unfolding padded
  part-padded items size at n fits =
      let tail = replicate (size - length items) rest in
      let back = drop-append-le at items tail (omega arith) in
      rw back (take-append-le n (drop at items) tail (omega (arith, length-drop at items)))
