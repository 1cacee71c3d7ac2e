-- How the steps of a checkpoint change a disk whose other half is whole.
use Rattle.std.proofs.Common.{◌≡◌, ◌⊎◌, inl, inr, ⊎_elim, ℕ, ◌+◌, ◌==◌, ◌<◌, ◌≤◌, Bool, true, false}
use Rattle.std.proofs.Common.{eqb, ltb, List, [], ◌∷◌, length, get_or, Ok, refl, sym, ◌∙◌, ap}
use Rattle.std.proofs.Common.{subst, arith}
use Rattle.std.proofs.lemmas.Bool.{cases_eq, cases_lt, eqb-true, ne_eqb}
use Rattle.std.proofs.lemmas.Bool.Decides.{nat_tests}
use Rattle.std.specs.Int.{w64, to_be_bytes}
use Rattle.std.specs.Prelude.{if◌then◌else◌}
use Rattle.syn_disk.specs.Disk.{Torn, Follows, Only, overwritten}
use Rattle.syn_disk.specs.declared.disk.TheConstants.{DISK_SIZE}
use Rattle.syn_journal.specs.inner.Commit.{IsClosing, IsNextImage, IsStagedOrOpened}
use Rattle.syn_journal.specs.declared.half.Half.{Half}
use Rattle.syn_journal.specs.declared.half.Half.TheVariants.{First, Second}
use Rattle.syn_journal.specs.Layout.{half_size, open_gate, start_of, other_half, Value, is_open}
use Rattle.syn_journal.specs.Layout.{generation_at, current, current_of, image_alone}
use Rattle.syn_journal.specs.Layout.{IsBeforeOrAfter}
use Rattle.syn_journal.specs.inner.Whole.{IsWhole}
use Rattle.syn_journal.proofs.Formats.{long, only_open, other_stays, long_after, other_gate}
use Rattle.syn_journal.proofs.Formats.{other_generation, this_gate, this_generation, committed}
use Rattle.syn_journal.proofs.Formats.{torn_final, open_final}
use Rattle.syn_journal.proofs.Commits.{untouched}
use Rattle.syn_journal.proofs.Meanings.{has, within_disk}
use Rattle.syn_journal.proofs.Parts.{overwritten-in, overwritten-after, torn_by}
use Rattle.syn_journal.proofs.Whole.{SameHeader, apart, same_current, still_whole}

pub twice : (half : Half) → other_half (other_half half) ≡ half
twice First = refl
twice Second = refl

-- the current half is open
first_open : (first second : Bool) (m n : ℕ) → current_of first second m n ≡ Ok First → first ≡ true
first_open true second m n is = refl
first_open false false m n is = cc is
first_open false true m n is = cc is

second_open : (first second : Bool) (m n : ℕ) → current_of first second m n ≡ Ok Second →
    second ≡ true
second_open first true m n is = refl
second_open false false m n is = cc is
second_open true false m n is = cc is

current_open : (disk : List ℕ) (half : Half) → current disk ≡ Ok half → is_open disk half ≡ true
unfolding current
current_open disk First is =
    first_open (is_open disk First) (is_open disk Second) (generation_at disk First)
    (generation_at disk Second) is
current_open disk Second is =
    second_open (is_open disk First) (is_open disk Second) (generation_at disk First)
    (generation_at disk Second) is

-- of two open halves the newer one is current
first_newer : (m n : ℕ) → n < m → current_of true true m n ≡ Ok First
first_newer m n newer =
    let differ : eqb m n ≡ false = grind (arith, nat_tests) in
    let order : ltb m n ≡ false = grind (arith, nat_tests) in
    rw (differ, order) refl

second_newer : (m n : ℕ) → m < n → current_of true true m n ≡ Ok Second
second_newer m n newer =
    let differ : eqb m n ≡ false = grind (arith, nat_tests) in
    let order : ltb m n ≡ true = grind (arith, nat_tests) in
    rw (differ, order) refl

newer_current : (disk : List ℕ) (half : Half) → is_open disk half ≡ true →
    is_open disk (other_half half) ≡ true →
    generation_at disk (other_half half) < generation_at disk half → current disk ≡ Ok half
unfolding current
newer_current disk First here other newer =
    (λ i. current_of (here i) (other i) (generation_at disk First) (generation_at disk Second))
    ∙ first_newer (generation_at disk First) (generation_at disk Second) newer
newer_current disk Second here other newer =
    (λ i. current_of (other i) (here i) (generation_at disk First) (generation_at disk Second))
    ∙ second_newer (generation_at disk First) (generation_at disk Second) newer

at_most_one : (was : Bool) → (if was then 1 else 0) ≤ 1
at_most_one true = omega arith
at_most_one false = omega arith

module _ (disk : List ℕ) (half : Half) (generation gate : ℕ) (value : Value)
    (whole : IsWhole disk (other_half half) generation gate value) (after : List ℕ)
    (size : length after ≡ length disk)
    (inside : (i : ℕ) → start_of (other_half half) ≤ i →
    i < start_of (other_half half) + half_size → get_or after i 0 ≡ get_or disk i 0) where
  -- a disk that has the other half as it was, which is current, is whole in the same way
  stays : current after ≡ Ok (other_half half) →
      IsWhole after (other_half half) generation gate value
  stays is_current =
      still_whole disk (other_half half) generation gate value whole after size
      (λ i from to. inside i from (omega (arith, to, whole.within))) is_current
      (λ opened. whole.closed (sym (inside (start_of (other_half half) + gate) (omega arith)
      (omega (arith, whole.within))) ∙ opened))

  -- and it is current where this half is closed,
  stays_by_closed : is_open after half ≡ false →
      IsWhole after (other_half half) generation gate value
  stays_by_closed closed =
      let here : is_open after (other_half half) ≡ true = ap (λ byte. byte == open_gate)
      (inside (start_of (other_half half)) (omega arith) (omega arith))
      ∙ current_open disk (other_half half) whole.is_current in
      stays
      (only_open after (other_half half) here (ap (λ h. is_open after h) (twice half) ∙ closed))

  -- or where the first bytes of this half stay
  stays_by_header : SameHeader disk after half →
      IsWhole after (other_half half) generation gate value
  stays_by_header same =
      stays (same_current disk after size half same (λ i from to. inside i from (omega (arith, to)))
      ∙ whole.is_current)

module _ (disk : List ℕ) (half : Half) (generation gate : ℕ) (value : Value)
    (whole : IsWhole disk (other_half half) generation gate value) (after : List ℕ) where
  -- any byte in a gate that was open, and no byte in one that was closed
  closing : (was : Bool) → is_open disk half ≡ was →
      Torn (start_of half) (if was then 1 else 0) disk after →
      (is_open after half ≡ false) ⊎ SameHeader disk after half
  closing false is torn = inr (λ i from to. torn.after i (omega (arith, from)))
  closing true is torn = elim (cases_eq (get_or after (start_of half) 0) open_gate) [
    | inl opened ↦ inr (λ i from to. elim (cases_lt (start_of half) i) [
      | inl past ↦ torn.after i (omega (arith, past))
      | inr until ↦
          let here : i ≡ start_of half = omega (arith, from, until) in
          ap (λ k. get_or after k 0) here ∙ opened ∙ sym (eqb-true _ _ is)
          ∙ ap (λ k. get_or disk k 0) (sym here)
    ])
    | inr closed ↦ inl (ne_eqb _ _ closed)
  ]

  pub while_closing : IsClosing disk half after →
      IsWhole after (other_half half) generation gate value
  while_closing torn =
      let was = is_open disk half in
      let inside : (i : ℕ) → start_of (other_half half) ≤ i →
      i < start_of (other_half half) + half_size → get_or after i 0 ≡ get_or disk i 0 =
      λ i from to. ⊎_elim (λ less. torn.before i less) (λ past. torn.after i past)
      (apart half (start_of half) (if was then 1 else 0) i (omega arith)
      (omega (arith, at_most_one was)) from to) in
      ⊎_elim (stays_by_closed disk half generation gate value whole after torn.size inside)
      (stays_by_header disk half generation gate value whole after torn.size inside)
      (closing was refl torn)

-- what is written to a gate that is to be closed
abbrev pub closing_bytes : Bool → List ℕ
closing_bytes true = 0 ∷ []
closing_bytes false = []

module _ (start : List ℕ) (half : Half) (was : Bool) (bytes : List ℕ)
    (is : is_open start half ≡ was) (written : bytes ≡ closing_bytes was) where
  count : (b : Bool) → length (closing_bytes b) ≡ (if b then 1 else 0)
  count true = refl
  count false = refl

  count_written : length bytes ≡ (if is_open start half then 1 else 0)
  count_written = ap length written ∙ count was ∙ ap (λ b. if b then 1 else 0) (sym is)

  pub at_first : (old : List ℕ → Type 0) → Only start old → (c : List ℕ) → old c →
      IsClosing start half c
  at_first old only c left =
      subst (λ d. IsClosing start half d) (sym (only c left))
      (untouched (start_of half) (if is_open start half then 1 else 0) start)

  pub follows : (old new : List ℕ → Type 0) → Only start old →
      Follows (Torn (start_of half) (length bytes)) old new → (c : List ℕ) → new c →
      IsClosing start half c
  follows old new only stop c left =
      let from = stop c left in
      subst (λ n. Torn (start_of half) n start c) count_written
      (subst (λ d. Torn (start_of half) (length bytes) d c) (only from.0 from.1) from.2)

  module _ (size : length start ≡ DISK_SIZE) where
    fits : (b : Bool) → start_of half + length (closing_bytes b) ≤ length start
    fits true = omega (arith, within_disk half (length start) size)
    fits false = omega (arith, within_disk half (length start) size)

    fits_bytes : start_of half + length bytes ≤ length start
    fits_bytes = subst (λ l. start_of half + length l ≤ length start) (sym written) (fits was)

    pub seen_closing : IsClosing start half (overwritten start (start_of half) bytes)
    seen_closing =
        subst (λ n. Torn (start_of half) n start (overwritten start (start_of half) bytes))
        count_written (torn_by start (start_of half) bytes fits_bytes)

    closes : (b : Bool) → is_open start half ≡ b →
        is_open (overwritten start (start_of half) (closing_bytes b)) half ≡ false
    closes true was_open =
        let same : start_of half + 0 ≡ start_of half = omega arith in
        ap (λ byte. byte == open_gate)
        (ap (λ k. get_or (overwritten start (start_of half) (0 ∷ [])) k 0) (sym same)
        ∙ overwritten-in start (start_of half) (0 ∷ []) (fits true) 0 (omega arith))
    closes false was_closed =
        ap (λ byte. byte == open_gate)
        (overwritten-after start (start_of half) [] (fits false) (start_of half) (omega arith))
        ∙ was_closed

    pub seen_closed : is_open (overwritten start (start_of half) bytes) half ≡ false
    seen_closed =
        subst (λ l. is_open (overwritten start (start_of half) l) half ≡ false) (sym written)
        (closes was is)

-- the half is closed, and then the next image is still to come
pub still_next : (disk mid : List ℕ) (half : Half) (generation gate : ℕ) (value : Value)
    (image body : List ℕ) → IsNextImage disk half generation gate value image body →
    IsClosing disk half mid → IsNextImage mid half generation gate value image body
still_next disk mid half generation gate value image body next closing = record {
  whole = while_closing disk half generation gate value next.whole mid closing;
  spells = next.spells;
  fits = next.fits;
  numbered = next.numbered;
}

module _ (disk : List ℕ) (half : Half) (generation gate : ℕ) (value : Value) (image body : List ℕ)
    (next : IsNextImage disk half generation gate value image body)
    (closed : is_open disk half ≡ false) where
  size : length body ≡ 13 + length image
  size =
      long disk half image body
      (to_be_bytes w64 (generation + 1)) next.whole.size refl next.spells next.fits

  -- any bytes after the closed gate
  staged : (after : List ℕ) → Torn (start_of half + 1) (length body) disk after →
      IsWhole after (other_half half) generation gate value
  staged after torn = stays_by_closed disk half generation gate value next.whole after torn.size
      (λ i from to. ⊎_elim (λ less. torn.before i less) (λ past. torn.after i past) (apart half
      (start_of half + 1) (length body) i (omega arith) (omega (arith, size, next.fits)) from to))
      (ap (λ byte. byte == open_gate) (torn.before (start_of half) (omega arith)) ∙ closed)

  -- the whole body after it, and any byte in it
  module _ (after : List ℕ)
      (torn : Torn (start_of half) 1 (overwritten disk (start_of half + 1) body) after) where
    not_yet : is_open after half ≡ false → IsWhole after (other_half half) generation gate value
    not_yet =
        stays_by_closed disk half generation gate value next.whole after
        (long_after disk half (generation + 1) image body next.whole.size next.numbered
        next.spells next.fits after torn)
        (other_stays disk half (generation + 1) image body next.whole.size next.numbered next.spells
        next.fits after torn)

    old_open : is_open after (other_half half) ≡ true
    old_open =
        other_gate disk half (generation + 1) image body next.whole.size next.numbered next.spells
        next.fits after torn ∙ current_open disk (other_half half) next.whole.is_current

    taken : get_or after (start_of half) 0 ≡ open_gate →
        IsWhole after half (generation + 1) (13 + length image) (image_alone image)
    taken opened =
        let older = other_generation disk half (generation + 1) image body next.whole.size
        next.numbered next.spells next.fits after torn ∙ next.whole.numbered in
        let newer = this_generation disk half (generation + 1) image body next.whole.size
        next.numbered next.spells next.fits after torn opened in
        committed disk half (generation + 1) image body next.whole.size next.numbered next.spells
        next.fits after torn opened
        (newer_current after half (this_gate disk half (generation + 1) image body next.whole.size
        next.numbered next.spells next.fits after torn opened) old_open
        (omega (arith, older, newer)))

  pub before_or_after : (after : List ℕ) → IsStagedOrOpened disk (start_of half) body after →
      IsBeforeOrAfter value generation (image_alone image) (generation + 1) after
  before_or_after after (inl torn) =
      inl (has after (other_half half) generation gate value (staged after torn))
  before_or_after after (inr torn) = elim (cases_eq (get_or after (start_of half) 0) open_gate) [
    | inl opened ↦ inr (has after half (generation + 1) (13 + length image) (image_alone image)
        (taken after torn opened))
    | inr shut ↦ inl
        (has after (other_half half) generation gate value (not_yet after torn (ne_eqb _ _ shut)))
  ]

  -- and then the old half is the other one
  pub checkpointed : IsWhole (overwritten (overwritten disk (start_of half + 1) body)
      (start_of half) (open_gate ∷ [])) half (generation + 1) (13 + length image)
      (image_alone image) × (is_open (overwritten (overwritten disk (start_of half + 1) body)
      (start_of half) (open_gate ∷ [])) (other_half half) ≡ true)
  checkpointed =
      let torn = torn_final disk half
      (generation + 1) image body next.whole.size next.numbered next.spells next.fits in
      let opened = open_final disk half
      (generation + 1) image body next.whole.size next.numbered next.spells next.fits in
      (taken _ torn opened, old_open _ torn)
