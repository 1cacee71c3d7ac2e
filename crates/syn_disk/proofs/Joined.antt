-- Two lists as one: a write over both, a read of both, and flags of both.
use Rattle.std.proofs.Common.{◌≡◌, ◌⊎◌, inl, inr, ℕ, ◌+◌, ◌-◌, ◌<◌, ◌≤◌, min, Bool, false, List}
use Rattle.std.proofs.Common.{◌++◌, length, get_or, take, drop, refl, sym, ◌∙◌, ap, arith}
use Rattle.std.proofs.Common.{length-append, length-take, length-drop}
use Rattle.std.proofs.lemmas.Bool.{cases_lt}
use Rattle.std.proofs.lemmas.List.{get_or-take, get_or-drop, get_or_append_left}
use Rattle.std.proofs.lemmas.List.{get_or-append_right, ext_get_or}
use Rattle.syn_disk.specs.Disk.{overwritten}
use Rattle.syn_disk.specs.Written.{is_written}
use Rattle.syn_disk.proofs.Flags.{place}
use Rattle.syn_disk.proofs.Overwritten.{length-overwritten, overwritten-below, overwritten-in}
use Rattle.syn_disk.proofs.Overwritten.{overwritten-after}

pub none_joined : (low high : List Bool) → ((i : ℕ) → is_written low i ≡ false) →
    ((i : ℕ) → is_written high i ≡ false) → (i : ℕ) → is_written (low ++ high) i ≡ false
none_joined low high none none' i = elim (cases_lt i (length low)) [
  | inl less ↦ get_or_append_left low high false i less ∙ none i
  | inr past ↦ get_or-append_right low high (length low) i false refl past ∙ none' (i - length low)
]

-- The k first items go to the first list, and the others to the second.
module _ {X : Type 0} (d : X) (low high : List X) (h at : ℕ) (items : List X)
    (size : length low ≡ h) (fits : at + length items ≤ h + length high) (k : ℕ)
    (is_k : k ≡ min (h - at) (length items)) where
  abbrev first : List X
  first = take k items

  abbrev second : List X
  second = drop k items

  first_size : length first ≡ k
  first_size = omega (arith, length-take k items)

  second_size : length second ≡ length items - k
  second_size = length-drop k items

  in_low : min at h + length first ≤ length low
  in_low = omega (arith, first_size)

  in_high : at - h + length second ≤ length high
  in_high = omega (arith, second_size)

  in_both : at + length items ≤ length (low ++ high)
  in_both = omega (arith, length-append low high)

  abbrev new_low : List X
  new_low = overwritten low (min at h) first

  abbrev new_high : List X
  new_high = overwritten high (at - h) second

  low_size : length new_low ≡ h
  low_size = length-overwritten low (min at h) first in_low ∙ size

  outside : (i : ℕ) → (i < at) ⊎ (at + length items ≤ i) →
      get_or (overwritten (low ++ high) at items) i d ≡ get_or (low ++ high) i d
  outside i (inl less) = overwritten-below (low ++ high) at items in_both i d less
  outside i (inr past) = overwritten-after (low ++ high) at items in_both i d past

  inside : (i : ℕ) → at ≤ i → i < at + length items →
      get_or (overwritten (low ++ high) at items) i d ≡ get_or items (i - at) d
  inside i after before =
      let is : at + (i - at) ≡ i = omega arith in
      ap (λ j. get_or (overwritten (low ++ high) at items) j d) (sym is)
      ∙ overwritten-in (low ++ high) at items in_both (i - at) d (omega arith)

  -- a place of the first list
  below : (i : ℕ) → i < h → get_or (overwritten (low ++ high) at items) i d ≡ get_or new_low i d
  below i less = elim (place at (at + length items) i) [
    | inl apart ↦ outside i apart ∙ get_or_append_left low high d i (omega arith) ∙ sym (kept apart)
    | inr within ↦ inside i within.0 within.1 ∙ sym (written within.0 within.1)
  ]
    where
      kept : (i < at) ⊎ (at + length items ≤ i) → get_or new_low i d ≡ get_or low i d
      kept (inl before) = overwritten-below low (min at h) first in_low i d (omega arith)
      kept (inr past) =
          overwritten-after low (min at h) first in_low i d (omega (arith, first_size))

      written : at ≤ i → i < at + length items → get_or new_low i d ≡ get_or items (i - at) d
      written after before =
          let is : min at h + (i - at) ≡ i = omega arith in
          ap (λ j. get_or new_low j d) (sym is) ∙ overwritten-in low (min at h) first in_low
          (i - at) d (omega (arith, first_size)) ∙ get_or-take k items (i - at) d (omega arith)

  -- a place of the second
  above : (i : ℕ) → h ≤ i →
      get_or (overwritten (low ++ high) at items) i d ≡ get_or new_high (i - h) d
  above i more = elim (place at (at + length items) i) [
    | inl apart ↦ outside i apart ∙ get_or-append_right low high h i d size more ∙ sym (kept apart)
    | inr within ↦ inside i within.0 within.1 ∙ sym (written within.0 within.1)
  ]
    where
      kept : (i < at) ⊎ (at + length items ≤ i) → get_or new_high (i - h) d ≡ get_or high (i - h) d
      kept (inl before) = overwritten-below high (at - h) second in_high (i - h) d (omega arith)
      kept (inr past) =
          overwritten-after high (at - h) second in_high (i - h) d (omega (arith, second_size))

      written : at ≤ i → i < at + length items → get_or new_high (i - h) d ≡ get_or items (i - at) d
      written after before =
          let is : at - h + (i - at - k) ≡ i - h = omega arith in
          let on : k + (i - at - k) ≡ i - at = omega arith in
          ap (λ j. get_or new_high j d) (sym is) ∙ overwritten-in high (at - h) second in_high
          (i - at - k) d (omega (arith, second_size)) ∙ get_or-drop k items (i - at - k) d
          ∙ ap (λ j. get_or items j d) on

  pub overwritten-joined : overwritten (low ++ high) at items ≡ new_low ++ new_high
  overwritten-joined =
      let high_size = length-overwritten high (at - h) second in_high in
      let both = length-overwritten (low ++ high) at items in_both in
      ext_get_or d _ (new_low ++ new_high) (omega
      (arith, both, high_size, low_size, length-append low high, length-append new_low new_high))
      (λ i _. elim (cases_lt i h) [
        | inl less ↦ below i less
            ∙ sym (get_or_append_left new_low new_high d i (omega (arith, low_size)))
        | inr more ↦ above i more ∙ sym (get_or-append_right new_low new_high h i d low_size more)
      ])

  pub joined_write : (p q : ℕ) (front back new_front new_back : List X) → p ≡ min at h →
      q ≡ at - h → front ≡ first → back ≡ second → new_front ≡ overwritten low p front →
      new_back ≡ overwritten high q back →
      new_front ++ new_back ≡ overwritten (low ++ high) at items
  joined_write p q front back new_front new_back p_is q_is front_is back_is front_new back_new =
      rw (front_new, back_new, p_is, q_is, front_is, back_is) (sym overwritten-joined)

-- a read of both
module _ (low high : List ℕ) (h at n : ℕ) (size : length low ≡ h) (fits : at + n ≤ h + length high)
    (k : ℕ) (is_k : k ≡ min (h - at) n) where
  abbrev front : List ℕ
  front = take k (drop (min at h) low)

  abbrev back : List ℕ
  back = take (n - k) (drop (at - h) high)

  front_size : length front ≡ k
  front_size = omega (arith, length-take k (drop (min at h) low), length-drop (min at h) low)

  back_size : length back ≡ n - k
  back_size = omega (arith, length-take (n - k) (drop (at - h) high), length-drop (at - h) high)

  whole_size : length (take n (drop at (low ++ high))) ≡ n
  whole_size =
      omega (
        arith,
        length-take n (drop at (low ++ high)),
        length-drop at (low ++ high),
        length-append low high,
      )

  each : (i : ℕ) → i < n → get_or (front ++ back) i 0 ≡ get_or (take n (drop at (low ++ high))) i 0
  each i less =
      there
      ∙ sym (get_or-take n (drop at (low ++ high)) i 0 less ∙ get_or-drop at (low ++ high) i 0)
    where
      there : get_or (front ++ back) i 0 ≡ get_or (low ++ high) (at + i) 0
      there = elim (cases_lt i k) [
        | inl before ↦ get_or_append_left front back 0 i (omega (arith, front_size))
            ∙ get_or-take k (drop (min at h) low) i 0 before ∙ get_or-drop (min at h) low i 0
            ∙ ap (λ j. get_or low j 0) (let e : min at h + i ≡ at + i = omega arith in e)
            ∙ sym (get_or_append_left low high 0 (at + i) (omega arith))
        | inr past ↦ get_or-append_right front back k i 0 front_size past ∙ get_or-take (n - k)
            (drop (at - h) high) (i - k) 0 (omega arith) ∙ get_or-drop (at - h) high (i - k) 0
            ∙ ap (λ j. get_or high j 0) (let e : at - h + (i - k) ≡ at + i - h = omega arith in e)
            ∙ sym (get_or-append_right low high h (at + i) 0 size (omega arith))
      ]

  pub part-joined : front ++ back ≡ take n (drop at (low ++ high))
  part-joined =
      let long : length (front ++ back) ≡ n =
      omega (arith, length-append front back, front_size, back_size) in
      ext_get_or 0 _ _ (long ∙ sym whole_size) (λ i less. each i (omega (arith, long)))

  pub joined_read : (p q a b : ℕ) (new_front new_back : List ℕ) → p ≡ min at h → q ≡ at - h →
      a ≡ k → b ≡ n - k → new_front ≡ take a (drop p low) → new_back ≡ take b (drop q high) →
      new_front ++ new_back ≡ take n (drop at (low ++ high))
  joined_read p q a b new_front new_back p_is q_is a_is b_is front_new back_new =
      rw (front_new, back_new, p_is, q_is, a_is, b_is) part-joined
