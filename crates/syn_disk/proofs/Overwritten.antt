-- The elements of a list with a part written over.
use Rattle.std.proofs.Common.{◌≡◌, ℕ, ◌+◌, ◌-◌, ◌<◌, ◌≤◌, List, ◌++◌, length, get_or, take, drop}
use Rattle.std.proofs.Common.{refl, ◌∙◌, ap, arith, length-append, length-take, length-drop}
use Rattle.std.proofs.lemmas.List.{get_or_append_left, get_or-append_right, get_or-take}
use Rattle.std.proofs.lemmas.List.{get_or-drop}
use Rattle.syn_disk.specs.Disk.{overwritten}

module _ {X : Type 0} (old : List X) (at : ℕ) (items : List X)
    (fits : at + length items ≤ length old) where
  pub length-overwritten : length (overwritten old at items) ≡ length old
  length-overwritten =
      omega (
        arith,
        length-append (take at old) (items ++ drop (at + length items) old),
        length-append items (drop (at + length items) old),
        length-take at old,
        length-drop (at + length items) old,
      )

  front : length (take at old) ≡ at
  front = omega (arith, length-take at old)

  pub overwritten-below : (i : ℕ) (d : X) → i < at →
      get_or (overwritten old at items) i d ≡ get_or old i d
  overwritten-below i d below =
      get_or_append_left (take at old) _ d i (omega (arith, front)) ∙ get_or-take at old i d below

  pub overwritten-in : (i : ℕ) (d : X) → i < length items →
      get_or (overwritten old at items) (at + i) d ≡ get_or items i d
  overwritten-in i d within =
      let n : at + i - at ≡ i = omega arith in
      get_or-append_right (take at old) _ at (at + i) d front (omega arith)
      ∙ ap (λ k. get_or (items ++ drop (at + length items) old) k d) n
      ∙ get_or_append_left items _ d i within

  pub overwritten-after : (i : ℕ) (d : X) → at + length items ≤ i →
      get_or (overwritten old at items) i d ≡ get_or old i d
  overwritten-after i d after =
      let n : at + length items + (i - at - length items) ≡ i = omega arith in
      get_or-append_right (take at old) _ at i d front (omega arith)
      ∙ get_or-append_right items _ (length items) (i - at) d refl (omega arith)
      ∙ get_or-drop (at + length items) old (i - at - length items) d ∙ ap (λ k. get_or old k d) n
