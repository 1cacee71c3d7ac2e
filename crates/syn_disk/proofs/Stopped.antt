-- What a stop leaves of a list that is kept in part, and of two lists as one.
use Rattle.std.proofs.Common.{◌≡◌, inl, inr, ℕ, ◌-◌, ◌<◌, Bool, false, List, ◌++◌, length, get_or}
use Rattle.std.proofs.Common.{refl, sym, ◌∙◌, arith, length-append}
use Rattle.std.specs.Prelude.{if◌then◌else◌}
use Rattle.std.proofs.lemmas.Bool.{cases_lt}
use Rattle.std.proofs.lemmas.List.{get_or_past, get_or_append_left, get_or-append_right}
use Rattle.syn_disk.specs.inner.Memory.{Tracks}
use Rattle.syn_disk.specs.Padded.{padded}
use Rattle.syn_disk.specs.PaddedLaws.{length-padded}
use Rattle.syn_disk.specs.Stop.{Left, left_byte}
use Rattle.syn_disk.specs.Written.{is_written}
use Rattle.syn_disk.specs.declared.simulated.leaves.Leaves.{Leaves}
use Rattle.syn_disk.proofs.Padding.{get-padded}

module _ (leaves : Leaves) where
  -- the byte that is left at a place
  abbrev left_at : List ℕ → List ℕ → List Bool → ℕ → ℕ
  left_at content synced written i =
      if is_written written i then left_byte leaves (get_or synced i 0) (get_or content i 0)
      else get_or content i 0

  pub left_padded : (content synced : List ℕ) (written : List Bool) (size : ℕ) (after : List ℕ) →
      Tracks content synced written size → Left leaves content synced written after →
      Left leaves (padded content size 0) (padded synced size 0) (padded written size false)
      (padded after size 0)
  left_padded content synced written size after tracks left = record {
    size =
        length-padded 0 after size (omega (arith, left.size, tracks.fits))
        ∙ sym (length-padded 0 content size tracks.fits);
    each =
        λ i less. get-padded 0 after size i ∙ everywhere i ∙ sym (rw (
          get-padded 0 content size i,
          get-padded 0 synced size i,
          get-padded false written size i,
        ) refl);
  }
    where
      everywhere : (i : ℕ) → get_or after i 0 ≡ left_at content synced written i
      everywhere i = elim (cases_lt i (length content)) [
        | inl less ↦ left.each i less
        | inr past ↦ get_or_past after i 0 (omega (arith, left.size))
            ∙ sym (rw (
              get_or_past written i false (omega (arith, tracks.written_size)),
              get_or_past content i 0 past,
            ) refl)
      ]

  pub left_joined : (c1 s1 : List ℕ) (w1 : List Bool) (a1 c2 s2 : List ℕ) (w2 : List Bool)
      (a2 : List ℕ) → length s1 ≡ length c1 → length w1 ≡ length c1 → Left leaves c1 s1 w1 a1 →
      Left leaves c2 s2 w2 a2 → Left leaves (c1 ++ c2) (s1 ++ s2) (w1 ++ w2) (a1 ++ a2)
  left_joined c1 s1 w1 a1 c2 s2 w2 a2 s_size w_size left1 left2 = record {
    size = omega (arith, length-append a1 a2, length-append c1 c2, left1.size, left2.size);
    each = each;
  }
    where
      each : (i : ℕ) → i < length (c1 ++ c2) →
          get_or (a1 ++ a2) i 0 ≡ left_at (c1 ++ c2) (s1 ++ s2) (w1 ++ w2) i
      each i within = elim (cases_lt i (length c1)) [
        | inl less ↦ get_or_append_left a1 a2 0 i (omega (arith, left1.size)) ∙ left1.each i less
            ∙ sym (rw (
              get_or_append_left c1 c2 0 i less,
              get_or_append_left s1 s2 0 i (omega
                  (arith, s_size)),
              get_or_append_left w1 w2 false i (omega (arith, w_size)),
            ) refl)
        | inr past ↦ get_or-append_right a1 a2 (length c1) i 0 left1.size past
            ∙ left2.each (i - length c1) (omega (arith, length-append c1 c2))
            ∙ sym (rw (
              get_or-append_right c1 c2 (length c1) i 0 refl past,
              get_or-append_right s1 s2 (length c1) i 0 s_size past,
              get_or-append_right w1 w2 (length c1) i false w_size past,
            ) refl)
      ]

  -- where nothing was written the content stays
  pub unwritten_stays : (content synced : List ℕ) (written : List Bool) (after : List ℕ) →
      Left leaves content synced written after → (i : ℕ) → is_written written i ≡ false →
      get_or after i 0 ≡ get_or content i 0
  unwritten_stays content synced written after left i none = elim (cases_lt i (length content)) [
    | inl less ↦ left.each i less ∙ rw none refl
    | inr past ↦ get_or_past after i 0 (omega (arith, left.size))
        ∙ sym (get_or_past content i 0 past)
  ]
