-- What a stop may leave after a write and after a sync, and how the moments go on.
use Rattle.std.proofs.Common.{◌≡◌, ◌⊎◌, inl, inr, ℕ, ◌+◌, ◌-◌, ◌<◌, ◌≤◌, Bool, false, List, [], ◌∷◌}
use Rattle.std.proofs.Common.{◌++◌, length, get_or, take, drop, sym, ◌∙◌, ap, subst, arith}
use Rattle.std.proofs.Common.{length-take, length-drop, length-append}
use Rattle.std.proofs.lemmas.List.{get_or-take, get_or-drop, get_or_past, get_or_default}
use Rattle.std.proofs.lemmas.List.{get_or_append_left, get_or-append_right, ext_get_or}
use Rattle.std.proofs.lemmas.Bool.{cases_lt}
use Rattle.syn_disk.specs.Disk.{overwritten, Torn, Only, Elapses}
use Rattle.syn_disk.specs.Moments.{MayLeave, LeftSince}
use Rattle.syn_disk.specs.declared.disk.TheConstants.{DISK_SIZE}
use Rattle.syn_disk.proofs.Overwritten.{length-overwritten, overwritten-below, overwritten-in}
use Rattle.syn_disk.proofs.Overwritten.{overwritten-after}
use Rattle.syn_disk.proofs.Flags.{place}

-- After a write that marks no more than its range, a stop leaves what it might have left before,
-- with any bytes in the range.
module _ (content bytes : List ℕ) (at : ℕ) (size : length content ≡ DISK_SIZE)
    (fits : at + length bytes ≤ length content)
    (is_written is_written' : ℕ → Bool) (marks : (i : ℕ) → (i < at) ⊎ (at + length bytes ≤ i) →
    is_written i ≡ false → is_written' i ≡ false)
    (c : List ℕ) (left : MayLeave (overwritten content at bytes) is_written' c) where
  between : List ℕ
  between = take (length bytes) (drop at content)

  long : length between ≡ length bytes
  unfolding between
  long = omega (arith, length-take (length bytes) (drop at content), length-drop at content)

  abbrev earlier : List ℕ
  earlier = overwritten c at between

  in_c : at + length between ≤ length c
  in_c = omega (arith, left.whole, long, size)

  outside : (i : ℕ) → (i < at) ⊎ (at + length bytes ≤ i) → get_or earlier i 0 ≡ get_or c i 0
  outside i (inl less) = overwritten-below c at between in_c i 0 less
  outside i (inr past) = overwritten-after c at between in_c i 0 (omega (arith, long))

  unchanged : (i : ℕ) → (i < at) ⊎ (at + length bytes ≤ i) →
      get_or (overwritten content at bytes) i 0 ≡ get_or content i 0
  unchanged i (inl less) = overwritten-below content at bytes fits i 0 less
  unchanged i (inr past) = overwritten-after content at bytes fits i 0 past

  inside : (i : ℕ) → at ≤ i → i < at + length bytes → get_or earlier i 0 ≡ get_or content i 0
  unfolding between
  inside i low high =
      let is : at + (i - at) ≡ i = omega arith in
      ap (λ j. get_or earlier j 0) (sym is)
      ∙ overwritten-in c at between in_c (i - at) 0 (omega (arith, long))
      ∙ get_or-take (length bytes) (drop at content) (i - at) 0 (omega arith)
      ∙ get_or-drop at content (i - at) 0 ∙ ap (λ j. get_or content j 0) is

  kept : (i : ℕ) → is_written i ≡ false → get_or earlier i 0 ≡ get_or content i 0
  kept i none = elim (place at (at + length bytes) i) [
    | inl apart ↦ outside i apart ∙ left.kept i (marks i apart none) ∙ unchanged i apart
    | inr within ↦ inside i within.0 within.1
  ]

  pub left_before_write : (d : List ℕ) × MayLeave content is_written d × Torn at (length bytes) d c
  left_before_write =
      let same_size = length-overwritten c at between in_c in (
        earlier,
        record { whole = same_size ∙ left.whole; kept = kept },
        record {
          size = sym same_size;
          before = λ i less. sym (outside i (inl less));
          after = λ i past. sym (outside i (inr past));
        },
      )

pub only_durable : (content : List ℕ) (is_written : ℕ → Bool) → length content ≡ DISK_SIZE →
    ((i : ℕ) → is_written i ≡ false) → Only content (MayLeave content is_written)
only_durable content is_written size none c left =
    ext_get_or 0 c content (left.whole ∙ sym size) (λ i _. left.kept i (none i))

module _ {S : Type 0} (may_leave : S → List ℕ → Type 0) (past : List S) (old new : S) where
  noted : (k : ℕ) → k ≤ length past → get_or (past ++ old ∷ []) k new ≡ get_or past k old
  noted k le = elim (cases_lt k (length past)) [
    | inl less ↦ get_or_append_left past (old ∷ []) new k less ∙ get_or_default past k new old less
    | inr same ↦ get_or-append_right past (old ∷ []) (length past) k new (omega arith) same
        ∙ ap (λ j. get_or (old ∷ []) j new) (first k same le) ∙ sym (get_or_past past k old same)
  ]
    where
      first : (j : ℕ) → length past ≤ j → j ≤ length past → j - length past ≡ 0
      first j more less = omega arith

  longer : length (past ++ old ∷ []) ≡ length past + 1
  longer = omega (arith, length-append past (old ∷ []))

  -- the moment goes on
  pub elapses_noted : Elapses (length past) (length (past ++ old ∷ []))
      (LeftSince may_leave past old) (LeftSince may_leave (past ++ old ∷ []) new) (may_leave new)
  elapses_noted = record {
    later = omega (arith, longer);
    nothing_else = λ t c earlier left. elim (cases_lt (length past) left.0) [
      | inl after ↦ inr (subst (λ s. may_leave s c)
          (get_or_past (past ++ old ∷ []) left.0 new (omega (arith, longer))) left.2)
      | inr before ↦ inl (left.0, left.1, subst (λ s. may_leave s c) (noted left.0 before) left.2)
    ];
    keeps = λ t c earlier left. elim (cases_lt (length past) left.0) [
      | inl after ↦ (
        length past,
        earlier,
        subst (λ s. may_leave s c) (get_or_past past left.0 old
            (omega arith) ∙ sym (get_or_past past (length past) old (omega arith))
            ∙ sym (noted (length past) (omega arith))) left.2,
      )
      | inr before ↦ (left.0, left.1, subst (λ s. may_leave s c) (sym (noted left.0 before)) left.2)
    ];
  }
