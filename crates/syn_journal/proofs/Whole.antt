-- How the two steps of an append change a disk whose current half is whole.
use Rattle.std.proofs.Common.{◌≡◌, ◌≢◌, ◌⊎◌, inl, inr, ⊎_elim, ℕ, zero, suc, ◌+◌, ◌-◌, ◌==◌, ◌<◌}
use Rattle.std.proofs.Common.{◌≤◌, Ok, List, [], ◌∷◌, ◌++◌, length, get_or, take, drop, refl}
use Rattle.std.proofs.Common.{sym, ◌∙◌, ap, subst, arith, length-append}
use Rattle.std.proofs.lemmas.List.{get_or_append_left, get_or-append_right, append_assoc}
use Rattle.std.specs.Int.{w32, w64, to_be_bytes, from_be_bytes}
use Rattle.syn_disk.specs.Disk.{Torn, overwritten}
use Rattle.syn_journal.specs.Batches.{with_payloads}
use Rattle.syn_journal.specs.inner.Commit.{IsBodyOf}
use Rattle.syn_journal.specs.declared.half.Half.{Half}
use Rattle.syn_journal.specs.declared.half.Half.TheVariants.{First, Second}
use Rattle.syn_journal.specs.Layout.{half_size, open_gate, start_of, other_half, Value, is_open}
use Rattle.syn_journal.specs.Layout.{generation_at, current, current_of, records_of, spelled}
use Rattle.syn_journal.specs.inner.Whole.{IsWhole}
use Rattle.syn_journal.proofs.Meanings.{within_disk, sizes}
use Rattle.syn_journal.proofs.Parts.{same_part, part_is, part_add, length-overwritten}
use Rattle.syn_journal.proofs.Parts.{overwritten-below, overwritten-in, overwritten-after, torn_by}
use Rattle.syn_journal.proofs.Records.{records_of-append}

spelled-more : (image : List ℕ) (payloads more : List (List ℕ)) →
    spelled image (payloads ++ more) ≡ spelled image payloads ++ records_of more
unfolding spelled
spelled-more image payloads more =
    ap (λ (l : List ℕ). to_be_bytes w32 (length image) ++ (image ++ l))
    (records_of-append payloads more)
    ∙ ap (λ (l : List ℕ). to_be_bytes w32 (length image) ++ l)
    (sym (append_assoc image (records_of payloads) (records_of more)))
    ∙ sym (append_assoc (to_be_bytes w32 (length image)) (image ++ records_of payloads)
    (records_of more))

-- a change inside one half leaves the other
pub apart : (half : Half) (at n i : ℕ) → start_of half ≤ at → at + n ≤ start_of half + half_size →
    start_of (other_half half) ≤ i → i < start_of (other_half half) + half_size →
    (i < at) ⊎ (at + n ≤ i)
apart Second at n i low high from to = inl (omega arith)
apart First at n i low high from to = inr (omega arith)

-- the gate and the generation of a half stay
abbrev pub SameHeader : List ℕ → List ℕ → Half → Type 0
SameHeader disk after half =
    (i : ℕ) → start_of half ≤ i → i < start_of half + 9 → get_or after i 0 ≡ get_or disk i 0

-- what says which half is current
module _ (disk after : List ℕ) (size : length after ≡ length disk) where
  pub same_gate : (half : Half) → SameHeader disk after half →
      is_open after half ≡ is_open disk half
  same_gate half same =
      ap (λ byte. byte == open_gate) (same (start_of half) (omega arith) (omega arith))

  pub same_generation : (half : Half) → SameHeader disk after half →
      generation_at after half ≡ generation_at disk half
  unfolding generation_at
  same_generation half same =
      ap (from_be_bytes w64) (same_part disk after (start_of half + 1) 8 size
      (λ i from to. same i (omega arith) (omega arith)))

  same_both : SameHeader disk after First → SameHeader disk after Second →
      current after ≡ current disk
  unfolding current
  same_both first second =
      λ i. current_of (same_gate First first i) (same_gate Second second i)
      (same_generation First first i) (same_generation Second second i)

  pub same_current : (half : Half) → SameHeader disk after half →
      SameHeader disk after (other_half half) → current after ≡ current disk
  same_current First here there = same_both here there
  same_current Second here there = same_both there here

module _ (disk : List ℕ) (half : Half) (generation gate : ℕ) (value : Value)
    (whole : IsWhole disk half generation gate value) where
  abbrev base : ℕ
  base = start_of half

  nine : 13 ≤ gate
  nine = omega (arith, sizes disk half generation gate value whole)

  -- a disk that has the front and a closed gate in the current half is whole in the same way
  pub still_whole : (after : List ℕ) → length after ≡ length disk →
      ((i : ℕ) → base ≤ i → i < base + gate → get_or after i 0 ≡ get_or disk i 0) →
      current after ≡ Ok half → get_or after (base + gate) 0 ≢ open_gate →
      IsWhole after half generation gate value
  still_whole after size inside is_current closed =
      let here : SameHeader disk after half =
      λ i from to. inside i from (omega (arith, nine, to)) in
      record {
        size = size ∙ whole.size;
        is_current = is_current;
        numbered = same_generation disk after size half here ∙ whole.numbered;
        front =
            same_part disk after (base + 9) (gate - 9) size
            (λ i from to. inside i (omega arith) (omega (arith, nine, to))) ∙ whole.front;
        closed = closed;
        within = whole.within;
      }

  -- the half is current where the other half's header stays, too
  kept : (after : List ℕ) → length after ≡ length disk →
      ((i : ℕ) → base ≤ i → i < base + gate → get_or after i 0 ≡ get_or disk i 0) →
      SameHeader disk after (other_half half) → get_or after (base + gate) 0 ≢ open_gate →
      IsWhole after half generation gate value
  kept after size inside outside closed =
      still_whole after size inside (same_current disk after size half
      (λ i from to. inside i from (omega (arith, nine, to))) outside ∙ whole.is_current) closed

  -- any bytes after the closed gate
  pub after_gate : (n : ℕ) (after : List ℕ) → gate + 1 + n ≤ half_size →
      Torn (base + gate + 1) n disk after → IsWhole after half generation gate value
  after_gate n after fits torn = kept after torn.size (λ i from to. torn.before i (omega arith))
      (λ i from to. ⊎_elim (λ less. torn.before i less) (λ past. torn.after i past)
      (apart half (base + gate + 1) n i (omega arith) (omega arith) from (omega (arith, to))))
      (λ opened. whole.closed (sym (torn.before (base + gate) (omega arith)) ∙ opened))

  -- whole records after the gate, and any byte in the gate
  module _ (more : List (List ℕ)) (bytes : ℕ) (body : List ℕ) (is : IsBodyOf more bytes body)
      (fits : gate + bytes < half_size) where
    pub long : length body ≡ bytes
    long = omega (arith, ap length is.spells, is.sized, length-append (records_of more) (0 ∷ []))

    in_disk : base + gate + 1 + length body ≤ length disk
    in_disk = omega (arith, within_disk half (length disk) whole.size, long)

    module _ (after : List ℕ)
        (torn : Torn (base + gate) 1 (overwritten disk (base + gate + 1) body) after) where
      size : length after ≡ length disk
      size = torn.size ∙ length-overwritten disk (base + gate + 1) body in_disk

      below : (i : ℕ) → i < base + gate → get_or after i 0 ≡ get_or disk i 0
      below i less =
          torn.before i less ∙ overwritten-below disk (base + gate + 1) body in_disk i (omega arith)

      in_body : (i : ℕ) → i < length body → get_or after (base + gate + 1 + i) 0 ≡ get_or body i 0
      in_body i less =
          torn.after (base + gate + 1 + i) (omega arith)
          ∙ overwritten-in disk (base + gate + 1) body in_disk i less

      past_body : (i : ℕ) → base + gate + 1 + length body ≤ i → get_or after i 0 ≡ get_or disk i 0
      past_body i past =
          torn.after i (omega arith)
          ∙ overwritten-after disk (base + gate + 1) body in_disk i past

      outside : SameHeader disk after (other_half half)
      outside i from to =
          ⊎_elim (λ less. below i less) (λ past. past_body i (omega (arith, past)))
          (apart half (base + gate) (1 + length body) i (omega arith) (omega (arith, long)) from
          (omega (arith, to)))

      pub still_closed : get_or after (base + gate) 0 ≢ open_gate →
          IsWhole after half generation gate value
      still_closed closed = kept after size (λ i from to. below i to) outside closed

      last : (k : ℕ) → k ≡ 0 → ◌≡◌ {A = ℕ} (get_or (0 ∷ []) k 0) 0
      last k none = ap (λ j. get_or {A = ℕ} (0 ∷ []) j 0) none

      next_closed : get_or after (base + (gate + bytes)) 0 ≡ 0
      next_closed = by_size bytes refl
        where
          at : (k : ℕ) → k < length body →
              get_or after (base + gate + 1 + k) 0 ≡ get_or (records_of more ++ 0 ∷ []) (suc k) 0
          at k less = in_body k less ∙ ap (λ (l : List ℕ). get_or l (suc k) 0) is.spells

          by_size : (n : ℕ) → n ≡ bytes → get_or after (base + (gate + bytes)) 0 ≡ 0
          by_size zero none = absurd (omega (arith, none, is.some))
          by_size (suc k) same =
              ap (λ j. get_or after j 0) (omega (arith, same)) ∙ at k (omega (arith, same, long))
              ∙ get_or-append_right (records_of more) (0 ∷ []) bytes (suc k) 0 is.sized
              (omega (arith, same)) ∙ last (suc k - bytes) (omega (arith, same))

      module _ (opened : get_or after (base + gate) 0 ≡ open_gate) where
        there : (k : ℕ) → k < length (open_gate ∷ body) →
            get_or after (base + gate + k) 0 ≡ get_or (open_gate ∷ body) k 0
        there zero less = ap (λ j. get_or after j 0) (omega arith) ∙ opened
        there (suc k) less =
            ap (λ j. get_or after j 0) (omega arith) ∙ in_body k (omega (arith, less))

        records_there : (k : ℕ) → k < length (records_of more) →
            get_or after (base + gate + k) 0 ≡ get_or (records_of more) k 0
        records_there k less =
            there k (omega (arith, less, long, is.sized))
            ∙ ap (λ (l : List ℕ). get_or l k 0) is.spells
            ∙ get_or_append_left (records_of more) (0 ∷ []) 0 k less

        front_now : take (gate + bytes - 9) (drop (base + 9) after)
            ≡ spelled value.image (value.payloads ++ more)
        front_now =
            let here : take (length (records_of more)) (drop (base + gate) after)
            ≡ records_of more = part_is (records_of more) after (base + gate)
            (omega (arith, is.sized, in_disk, size, long)) records_there in
            let at_gate : base + 9 + (gate - 9) ≡ base + gate = omega (arith, nine) in
            let added : take bytes (drop (base + 9 + (gate - 9)) after) ≡ records_of more =
            ap (λ j. take bytes (drop j after)) at_gate ∙ subst
            (λ k. take k (drop (base + gate) after) ≡ records_of more) is.sized here in
            ap (λ k. take k (drop (base + 9) after)) (omega (arith, nine))
            ∙ part_add (gate - 9) bytes (base + 9) after
            ∙ ap (λ (l : List ℕ). l ++ take bytes (drop (base + 9 + (gate - 9)) after))
            (same_part disk after (base + 9) (gate - 9) size
            (λ i from to. below i (omega (arith, nine, to))) ∙ whole.front)
            ∙ ap (λ (l : List ℕ). spelled value.image value.payloads ++ l) added
            ∙ sym (spelled-more value.image value.payloads more)

        pub now_open : IsWhole after half generation (gate + bytes) (with_payloads value more)
        now_open =
            let here : SameHeader disk after half =
            λ i from to. below i (omega (arith, nine, to)) in
            record {
              size = size ∙ whole.size;
              is_current = same_current disk after size half here outside ∙ whole.is_current;
              numbered = same_generation disk after size half here ∙ whole.numbered;
              front = front_now;
              closed = λ still. absurd (omega (arith, next_closed, still));
              within = omega arith;
            }

    -- the other half's gate stays
    pub other_kept : is_open (overwritten (overwritten disk (base + gate + 1) body) (base + gate)
        (open_gate ∷ [])) (other_half half) ≡ is_open disk (other_half half)
    other_kept =
        let mid = overwritten disk (base + gate + 1) body in
        let after = overwritten mid (base + gate) (open_gate ∷ []) in
        let torn : Torn (base + gate) 1 mid after = torn_by mid (base + gate) (open_gate ∷ [])
        (omega (arith, length-overwritten disk (base + gate + 1) body in_disk, in_disk)) in
        same_gate disk after (size after torn) (other_half half) (outside after torn)

    -- the whole records after the open gate
    pub appended : IsWhole (overwritten (overwritten disk (base + gate + 1) body) (base + gate)
        (open_gate ∷ [])) half generation (gate + bytes) (with_payloads value more)
    appended =
        let in_mid : base + gate + 1 ≤ length (overwritten disk (base + gate + 1) body) =
        omega (arith, length-overwritten disk (base + gate + 1) body in_disk, in_disk) in
        let mid = overwritten disk (base + gate + 1) body in
        let same : base + gate + 0 ≡ base + gate = omega arith in
        now_open (overwritten mid (base + gate) (open_gate ∷ []))
        (torn_by mid (base + gate) (open_gate ∷ []) in_mid)
        (ap (λ k. get_or (overwritten mid (base + gate) (open_gate ∷ [])) k 0) (sym same)
        ∙ overwritten-in mid (base + gate) (open_gate ∷ []) in_mid 0 (omega arith))
