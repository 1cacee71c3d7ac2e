-- A half that an image was just committed to.
use Rattle.std.proofs.Common.{◌≡◌, ◌≢◌, ⊎_elim, ℕ, zero, suc, ◌+◌, ◌-◌, ◌==◌, ◌<◌, ◌≤◌, ◌^◌, true}
use Rattle.std.proofs.Common.{false, List, [], ◌∷◌, ◌++◌, length, get_or, take, drop, Ok, refl, sym}
use Rattle.std.proofs.Common.{◌∙◌, ap, subst, arith, length-append, take-append-drop}
use Rattle.std.proofs.lemmas.List.{get_or_append_left, get_or-append_right, append_assoc}
use Rattle.std.proofs.lemmas.List.{append-nil, take_at}
use Rattle.std.proofs.lemmas.Nat.{from_be_bytes-to_be_bytes_8}
use Rattle.std.specs.Int.{w32, w64, to_be_bytes, from_be_bytes}
use Rattle.syn_disk.specs.Disk.{Torn, overwritten}
use Rattle.syn_disk.specs.declared.disk.TheConstants.{DISK_SIZE}
use Rattle.syn_journal.specs.inner.Commit.{body_of_image}
use Rattle.syn_journal.specs.declared.half.Half.{Half}
use Rattle.syn_journal.specs.declared.half.Half.TheVariants.{First, Second}
use Rattle.syn_journal.specs.Layout.{half_size, longest_image, open_gate, start_of, other_half}
use Rattle.syn_journal.specs.Layout.{is_open, generation_at, current, current_of, image_alone}
use Rattle.syn_journal.specs.Layout.{spelled}
use Rattle.syn_journal.specs.inner.Whole.{IsWhole}
use Rattle.syn_journal.proofs.Meanings.{within_disk}
use Rattle.syn_journal.proofs.Parts.{part_is, next_part, length-overwritten, overwritten-in}
use Rattle.syn_journal.proofs.Parts.{overwritten-below, overwritten-after, torn_by}
use Rattle.syn_journal.proofs.Whole.{SameHeader, apart, same_gate, same_generation}

module _ (start : List ℕ) (half : Half) (image body word : List ℕ) (size : length start ≡ DISK_SIZE)
    (eight : length word ≡ 8) (spells : body ≡ word ++ to_be_bytes w32 (length image) ++ image ++ 0
    ∷ []) (fits : length image ≤ longest_image) where
  abbrev base : ℕ
  base = start_of half

  written : List ℕ
  written = word ++ to_be_bytes w32 (length image) ++ image

  long_written : length written ≡ 12 + length image
  unfolding written
  long_written =
      omega (
        arith,
        eight,
        length-append (word ++ to_be_bytes w32 (length image)) image,
        length-append word (to_be_bytes w32 (length image)),
      )

  pub long : length body ≡ 13 + length image
  unfolding written
  long =
      ap length spells ∙ omega (
        arith,
        long_written,
        length-append (word ++ to_be_bytes w32 (length image) ++ image) (0 ∷ []),
      )

  fits_body : base + 1 + length body ≤ length start
  fits_body = omega (arith, within_disk half (length start) size, long)

  abbrev with_body : List ℕ
  with_body = overwritten start (base + 1) body

  fits_gate : base + 1 ≤ length with_body
  fits_gate = omega (arith, length-overwritten start (base + 1) body fits_body, fits_body)

  -- the gate is opened
  abbrev opened_gate : List ℕ
  opened_gate = overwritten with_body base (open_gate ∷ [])

  torn_gate : Torn base 1 with_body opened_gate
  torn_gate = torn_by with_body base (open_gate ∷ []) fits_gate

  now_open : get_or opened_gate base 0 ≡ open_gate
  now_open =
      let same : base + 0 ≡ base = omega arith in
      ap (λ k. get_or opened_gate k 0) (sym same)
      ∙ overwritten-in with_body base (open_gate ∷ []) fits_gate 0 (omega arith)

  -- any byte in the gate, after which the body stands
  module _ (final : List ℕ) (torn : Torn base 1 with_body final) where
    long_final : length final ≡ length start
    long_final = torn.size ∙ length-overwritten start (base + 1) body fits_body

    below : (i : ℕ) → i < base → get_or final i 0 ≡ get_or start i 0
    below i less =
        torn.before i less ∙ overwritten-below start (base + 1) body fits_body i (omega arith)

    later : (i : ℕ) → base + (14 + length image) ≤ i → get_or final i 0 ≡ get_or start i 0
    later i past =
        torn.after i (omega arith)
        ∙ overwritten-after start (base + 1) body fits_body i (omega (arith, long))

    -- the other half stays
    elsewhere : (i : ℕ) → start_of (other_half half) ≤ i →
        i < start_of (other_half half) + half_size → get_or final i 0 ≡ get_or start i 0
    elsewhere i from to =
        ⊎_elim (λ less. below i less) (λ past. later i past)
        (apart half base (14 + length image) i (omega arith) (omega arith) from to)

    in_body : (k : ℕ) → k < length body → get_or final (base + 1 + k) 0 ≡ get_or body k 0
    in_body k less =
        torn.after (base + 1 + k) (omega arith)
        ∙ overwritten-in start (base + 1) body fits_body k less

    module _ (gate_opened : get_or final base 0 ≡ open_gate) where
      at_end : (k : ℕ) → k ≡ 0 → ◌≡◌ {A = ℕ} (get_or (0 ∷ []) k 0) 0
      at_end k none = ap (λ j. get_or {A = ℕ} (0 ∷ []) j 0) none

      next_closed : get_or final (base + (13 + length image)) 0 ≡ 0
      unfolding written
      next_closed =
          ap (λ j. get_or final j 0) (omega arith) ∙ in_body (12 + length image)
          (omega (arith, long)) ∙ ap (λ (l : List ℕ). get_or l (12 + length image) 0) spells
          ∙ get_or-append_right (word ++ to_be_bytes w32 (length image) ++ image) (0 ∷ [])
          (12 + length image) (12 + length image) 0 long_written (omega arith)
          ∙ at_end (12 + length image - (12 + length image)) (omega arith)

      there : (k : ℕ) → k < length (open_gate ∷ written) →
          get_or final (base + k) 0 ≡ get_or (open_gate ∷ written) k 0
      unfolding written
      there zero less = ap (λ j. get_or final j 0) (omega arith) ∙ gate_opened
      there (suc k) less =
          ap (λ j. get_or final j 0) (omega arith) ∙ in_body k
          (omega (arith, less, long, long_written)) ∙ ap (λ (l : List ℕ). get_or l k 0) spells
          ∙ get_or_append_left (word ++ to_be_bytes w32 (length image) ++ image) (0 ∷ []) 0 k
          (omega (arith, less))

      first_part : take (13 + length image) (drop base final)
          ≡ open_gate ∷ (word ++ spelled image [])
      unfolding written spelled
      first_part =
          let size' : length (open_gate ∷ written) ≡ 13 + length image =
          omega (arith, long_written) in
          let is : take (length (open_gate ∷ written)) (drop base final) ≡ open_gate ∷ written =
          part_is (open_gate ∷ written) final base
          (omega (arith, size', long_final, fits_body, long)) there in
          let is' : take (13 + length image) (drop base final) ≡ open_gate ∷ written =
          subst (λ k. take k (drop base final) ≡ open_gate ∷ written) size' is in
          is' ∙ ap (λ (l : List ℕ). open_gate ∷ l)
          (append_assoc word (to_be_bytes w32 (length image)) image)
          ∙ ap (λ (l : List ℕ). open_gate ∷ (word ++ (to_be_bytes w32 (length image) ++ l)))
          (sym (append-nil image))

      length-spelled : length (spelled image []) ≡ 13 + length image - 9
      unfolding spelled
      length-spelled =
          omega (
            arith,
            length-append image [],
            length-append (to_be_bytes w32 (length image)) (image ++ []),
          )

      rest : List ℕ
      rest = drop (13 + length image) (drop base final)

      parts : drop base final ≡ (open_gate ∷ []) ++ (word ++ (spelled image [] ++ rest))
      unfolding rest
      parts =
          sym (take-append-drop (13 + length image) (drop base final))
          ∙ ap (λ (l : List ℕ). l ++ drop (13 + length image) (drop base final)) first_part
          ∙ ap (λ (l : List ℕ). open_gate ∷ l) (append_assoc word (spelled image []) rest)

      gate_there : (take 1 (drop base final) ≡ open_gate ∷ [])
          × (drop (base + 1) final ≡ word ++ (spelled image [] ++ rest))
      gate_there = next_part final base 1 (base + 1) (open_gate ∷ []) _ parts refl refl

      word_there : (take 8 (drop (base + 1) final) ≡ word)
          × (drop (base + 9) final ≡ spelled image [] ++ rest)
      word_there = next_part final (base + 1) 8 (base + 9) word _ gate_there.1 eight (omega arith)

      generation_there : (n : ℕ) → from_be_bytes w64 word ≡ n → generation_at final half ≡ n
      unfolding generation_at
      generation_there n reads = ap (from_be_bytes w64) word_there.0 ∙ reads

      front_there : take (13 + length image - 9) (drop (base + 9) final) ≡ spelled image []
      front_there =
          ap (λ (l : List ℕ). take (13 + length image - 9) l) word_there.1
          ∙ take_at (spelled image []) rest (13 + length image - 9) length-spelled

      gate_closed : get_or final (base + (13 + length image)) 0 ≢ open_gate
      gate_closed opened = absurd (omega (arith, opened, next_closed))

module _ (start : List ℕ) (half : Half) (generation : ℕ) (image body : List ℕ)
    (size : length start ≡ DISK_SIZE) (small : generation < 2 ^ 64)
    (spells : body ≡ body_of_image generation image) (fits : length image ≤ longest_image) where
  abbrev word : List ℕ
  word = to_be_bytes w64 generation

  -- any byte in the gate
  module _ (after : List ℕ)
      (torn : Torn (start_of half) 1 (overwritten start (start_of half + 1) body) after) where
    pub long_after : length after ≡ length start
    long_after = long_final start half image body word size refl spells fits after torn

    pub other_stays : (i : ℕ) → start_of (other_half half) ≤ i →
        i < start_of (other_half half) + half_size → get_or after i 0 ≡ get_or start i 0
    other_stays = elsewhere start half image body word size refl spells fits after torn

    other_header : SameHeader start after (other_half half)
    other_header i from to = other_stays i from (omega (arith, to))

    pub other_gate : is_open after (other_half half) ≡ is_open start (other_half half)
    other_gate = same_gate start after long_after (other_half half) other_header

    pub other_generation :
        generation_at after (other_half half) ≡ generation_at start (other_half half)
    other_generation = same_generation start after long_after (other_half half) other_header

    -- an open gate
    module _ (opened : get_or after (start_of half) 0 ≡ open_gate) where
      pub this_gate : is_open after half ≡ true
      this_gate = ap (λ byte. byte == open_gate) opened

      pub this_generation : generation_at after half ≡ generation
      this_generation =
          generation_there start half image body word size refl spells fits after torn opened
          generation (from_be_bytes-to_be_bytes_8 generation small)

      pub committed : current after ≡ Ok half →
          IsWhole after half generation (13 + length image) (image_alone image)
      committed is_current = record {
        size = long_after ∙ size;
        is_current = is_current;
        numbered = this_generation;
        front = front_there start half image body word size refl spells fits after torn opened;
        closed = gate_closed start half image body word size refl spells fits after torn opened;
        within = omega arith;
      }

  -- what is seen once the gate is written
  abbrev final : List ℕ
  final = overwritten (overwritten start (start_of half + 1) body) (start_of half) (open_gate ∷ [])

  pub torn_final : Torn (start_of half) 1 (overwritten start (start_of half + 1) body) final
  torn_final = torn_gate start half image body word size refl spells fits

  pub open_final : get_or final (start_of half) 0 ≡ open_gate
  open_final = now_open start half image body word size refl spells fits

pub only_open : (disk : List ℕ) (half : Half) → is_open disk half ≡ true →
    is_open disk (other_half half) ≡ false → current disk ≡ Ok half
unfolding current
only_open disk First here other =
    λ i. current_of (here i) (other i) (generation_at disk First) (generation_at disk Second)
only_open disk Second here other =
    λ i. current_of (other i) (here i) (generation_at disk First) (generation_at disk Second)

pub formatted : (start : List ℕ) (half : Half) (generation : ℕ) (image body : List ℕ) →
    length start ≡ DISK_SIZE → is_open start (other_half half) ≡ false → generation < 2 ^ 64 →
    body ≡ body_of_image generation image → length image ≤ longest_image →
    IsWhole (overwritten (overwritten start (start_of half + 1) body) (start_of half)
    (open_gate ∷ [])) half generation (13 + length image) (image_alone image)
formatted start half generation image body size closed small spells fits =
    let torn = torn_final start half generation image body size small spells fits in
    let opened = open_final start half generation image body size small spells fits in
    committed start half generation image body size small spells fits _ torn opened
    (only_open _ half (this_gate start half generation image body size small spells fits _ torn
    opened) (other_gate start half generation image body size small spells fits _ torn ∙ closed))

-- what is committed to the first half leaves the gate of the second
pub second_gate : (start body : List ℕ) → length start ≡ DISK_SIZE → length body < half_size →
    is_open (overwritten (overwritten start 1 body) 0 (open_gate ∷ [])) Second
    ≡ is_open start Second
second_gate start body size short =
    let fits : 1 + length body ≤ length start = omega (arith, size, short) in
    let with_body = overwritten start 1 body in
    let long : length with_body ≡ length start = length-overwritten start 1 body fits in
    let gate : 0 + 1 ≤ length with_body = omega (arith, long, size) in
    ap (λ byte. byte == open_gate)
    (overwritten-after with_body 0 (open_gate ∷ []) gate half_size (omega arith)
    ∙ overwritten-after start 1 body fits half_size (omega (arith, short)))
