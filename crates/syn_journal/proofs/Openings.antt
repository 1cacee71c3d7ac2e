-- What the reads of an opening put together.
use Rattle.std.proofs.Common.{◌≡◌, inl, inr, ℕ, suc, ◌+◌, ◌-◌, ◌<◌, ◌≤◌, Bool, true, false, leb}
use Rattle.std.proofs.Common.{List, [], ◌∷◌, ◌++◌, length, get_or, take, drop, None, Result, Ok}
use Rattle.std.proofs.Common.{refl, sym, ◌∙◌, ap, subst, arith, length-append, length-take}
use Rattle.std.proofs.Common.{length-drop}
use Rattle.std.proofs.lemmas.List.{append_assoc, drop_more, take_at, take-take}
use Rattle.std.proofs.lemmas.Nat.{from_be_bytes-to_be_bytes_4}
use Rattle.std.proofs.lemmas.Bool.{cases_lt}
use Rattle.std.proofs.lemmas.Bool.Decides.{nat_tests}
use Rattle.std.specs.Int.{w32, to_be_bytes, from_be_bytes}
use Rattle.syn_disk.specs.Disk.{Only}
use Rattle.syn_disk.specs.declared.disk.TheConstants.{DISK_SIZE}
use Rattle.std.specs.Prelude.{if◌then◌else◌, Err, IfOk, IfErr, IsErrAnd}
use Rattle.syn_journal.specs.declared.half.Half.{Half}
use Rattle.syn_journal.specs.declared.error.JournalError.{JournalError}
use Rattle.syn_journal.specs.declared.error.JournalError.TheVariants.{Full, JournalFull, Device}
use Rattle.syn_journal.specs.declared.error.JournalError.TheVariants.{Halted, Memory, NoImage}
use Rattle.syn_journal.specs.declared.error.JournalError.TheVariants.{Damaged}
use Rattle.syn_journal.specs.Layout.{half_size, longest_image, open_gate, start_of, Value, Fault}
use Rattle.syn_journal.specs.Layout.{no_image, damaged, current, meaning, value_in, spelled}
use Rattle.syn_journal.specs.Layout.{records, image_length_at, with_image, bytes_from, value_at}
use Rattle.syn_journal.specs.Layout.{is_open, other_half, record_of, records_of}
use Rattle.syn_journal.specs.Opened.{value_read}
use Rattle.syn_journal.specs.Refusals.{IsOpenRefusal}
use Rattle.syn_journal.specs.declared.contents.Contents.{Contents}
use Rattle.syn_journal.specs.declared.cursor.JournalCursor.{JournalCursor}
use Rattle.syn_journal.specs.inner.Reading.{IsReadRefusal}
use Rattle.syn_journal.specs.inner.Whole.{IsInStep, IsWhole}
use Rattle.syn_journal.proofs.Meanings.{in_step, within_disk}
use Rattle.syn_journal.proofs.Parts.{part_add}
use Rattle.syn_journal.proofs.Records.{records_broken, records_of-push}

pub if_ok_both : {T E : Type 0} (r : Result T E) (P Q R : T → Type 0) →
    ((x : T) → P x → Q x → R x) → IfOk r P → IfOk r Q → IfOk r R
if_ok_both (Ok x) P Q R leads p q = leads x p q
if_ok_both (Err e) P Q R leads p q = tt

-- what the exit of a `?` returns
pub if_err_by : {T E : Type 0} (r : Result T E) (Q P : E → Type 0) →
    IsErrAnd r Q → ((e : E) → Q e → P e) → IfErr r P
if_err_by (Ok x) Q P is leads = tt
if_err_by (Err e) Q P is leads = leads e is

-- a number of 4 bytes and what stands after it
pub with_word : (disk : List ℕ) (at n : ℕ) (word bytes : List ℕ) → word ≡ take 4 (drop at disk) →
    bytes ≡ take n (drop (at + 4) disk) → length bytes ≡ n →
    take (4 + length bytes) (drop at disk) ≡ word ++ bytes
with_word disk at n word bytes first second long =
    ap (λ k. take (4 + k) (drop at disk)) long ∙ part_add 4 n at disk
    ∙ (λ i. sym first i ++ sym second i)

-- and an open gate before it
pub with_gate : (disk : List ℕ) (at : ℕ) (payload : List ℕ) →
    get_or disk at 0 ≡ open_gate → at < length disk →
    take (4 + length payload) (drop (at + 1) disk) ≡ to_be_bytes w32 (length payload) ++ payload →
    take (5 + length payload) (drop at disk) ≡ record_of payload
with_gate disk at payload opened within later =
    let more : 5 + length payload ≡ suc (4 + length payload) = omega arith in
    ap (λ (l : List ℕ). take (5 + length payload) l) (drop_more disk at 0 within)
    ∙ ap (λ k. take k (get_or disk at 0 ∷ drop (at + 1) disk)) more
    ∙ (λ i. opened i ∷ later i)

pub image_too_long : (disk : List ℕ) (half : Half) → longest_image < image_length_at disk half →
    value_at disk half ≡ Err damaged
unfolding value_at
image_too_long disk half long =
    let test : leb (image_length_at disk half) longest_image ≡ false = grind (arith, nat_tests) in
    rw test refl

pub records_damaged : (disk : List ℕ) (half : Half) (n : ℕ) → image_length_at disk half ≡ n →
    (let bytes = bytes_from disk half (13 + n) in records (length bytes) bytes ≡ None) →
    value_at disk half ≡ Err damaged
unfolding value_at
records_damaged disk half n is none =
    let P : ℕ → Type 0 = λ k. (let later = bytes_from disk half (13 + k) in
    if leb k longest_image then with_image (take k (drop (start_of half + 13) disk))
    (records (length later) later) else Err damaged) ≡ Err damaged in
    let at_n : P n = rw none (either (leb n longest_image)) in
    subst P (sym is) at_n
  where
    either : (b : Bool) →
        ◌≡◌ {A = Result Value Fault} (if b then Err damaged else Err damaged) (Err damaged)
    either true = refl
    either false = refl

pub read_refusal_weaker : (e : JournalError) (P Q : Type 0) → (P → Q) → IsReadRefusal e P →
    IsReadRefusal e Q
read_refusal_weaker Damaged P Q leads cause = leads cause
read_refusal_weaker Memory P Q leads cause = tt
read_refusal_weaker Device P Q leads cause = tt
read_refusal_weaker Full P Q leads cause = cause
read_refusal_weaker JournalFull P Q leads cause = cause
read_refusal_weaker Halted P Q leads cause = cause
read_refusal_weaker NoImage P Q leads cause = cause

pub open_refusal : {X : Type 0} (e : JournalError) (meaning : Result X Fault) →
    IsReadRefusal e (meaning ≡ Err damaged) → IsOpenRefusal e meaning
open_refusal Damaged meaning cause = cause
open_refusal Memory meaning cause = tt
open_refusal Device meaning cause = tt
open_refusal Full meaning cause = cause
open_refusal JournalFull meaning cause = cause
open_refusal Halted meaning cause = cause
open_refusal NoImage meaning cause = absurd cause

-- the records that were read so far
module _ (disk : List ℕ) (half : Half) (first gate : ℕ)
    (payloads : List (List ℕ)) (ordered : first ≤ gate)
    (so_far : take (gate - first) (drop (start_of half + first) disk) ≡ records_of payloads) where
  there : start_of half + first + (gate - first) ≡ start_of half + gate
  there = omega arith

  -- and one more
  pub read_more : (payload : List ℕ) →
      take (5 + length payload) (drop (start_of half + gate) disk) ≡ record_of payload →
      take (gate + (5 + length payload) - first) (drop (start_of half + first) disk)
      ≡ records_of (payloads ++ payload ∷ [])
  read_more payload next =
      let count : gate + (5 + length payload) - first ≡ gate - first + (5 + length payload) =
      omega arith in
      ap (λ k. take k (drop (start_of half + first) disk)) count
      ∙ part_add (gate - first) (5 + length payload) (start_of half + first) disk
      ∙ ap (λ (l : List ℕ). l
      ++ take (5 + length payload) (drop (start_of half + first + (gate - first)) disk)) so_far
      ∙ ap (λ (l : List ℕ). records_of payloads ++ l)
      (ap (λ k. take (5 + length payload) (drop k disk)) there ∙ next)
      ∙ sym (records_of-push payloads payload)

  -- and an open record that is too long
  module _ (size : length disk ≡ DISK_SIZE) (within : gate < half_size)
      (opened : get_or disk (start_of half + gate) 0 ≡ open_gate) (long : half_size
      < gate + 6 + from_be_bytes w32 (take 4 (drop (start_of half + gate + 1) disk))) where
    rest : List ℕ
    rest = take (half_size - gate - 1) (drop (start_of half + gate + 1) disk)

    length-rest : length rest ≡ half_size - gate - 1
    unfolding rest
    length-rest =
        omega (
          arith,
          length-take (half_size - gate - 1) (drop (start_of half + gate + 1) disk),
          length-drop (start_of half + gate + 1) disk,
          within_disk half (length disk) size,
        )

    later : bytes_from disk half gate ≡ open_gate ∷ rest
    unfolding rest
    later =
        let more : half_size - gate ≡ suc (half_size - gate - 1) = omega arith in
        ap (λ (l : List ℕ). take (half_size - gate) l) (drop_more disk (start_of half + gate) 0
        (omega (arith, within_disk half (length disk) size)))
        ∙ ap (λ k. take k
        (get_or disk (start_of half + gate) 0 ∷ drop (start_of half + gate + 1) disk)) more
        ∙ ap (λ byte. byte ∷ take (half_size - gate - 1) (drop (start_of half + gate + 1) disk))
        opened

    split : bytes_from disk half first ≡ records_of payloads ++ open_gate ∷ rest
    split =
        let count : half_size - first ≡ gate - first + (half_size - gate) = omega arith in
        ap (λ k. take k (drop (start_of half + first) disk)) count
        ∙ part_add (gate - first) (half_size - gate) (start_of half + first) disk
        ∙ ap (λ (l : List ℕ). l
        ++ take (half_size - gate) (drop (start_of half + first + (gate - first)) disk)) so_far
        ∙ ap (λ (l : List ℕ). records_of payloads ++ l)
        (ap (λ k. take (half_size - gate) (drop k disk)) there ∙ later)

    too_long : length rest ≤ 4 + from_be_bytes w32 (take 4 rest)
    unfolding rest
    too_long = elim (cases_lt (half_size - gate - 1) 4) [
      | inl short ↦ omega (arith, length-rest, short)
      | inr enough ↦
          let first_four : take 4 rest ≡ take 4 (drop (start_of half + gate + 1) disk) =
          take-take 4 (half_size - gate - 1) (drop (start_of half + gate + 1) disk) enough in
          let number : from_be_bytes w32 (take 4 rest) ≡ from_be_bytes w32
          (take 4 (drop (start_of half + gate + 1) disk)) = ap (from_be_bytes w32) first_four in
          omega (arith, length-rest, number, long)
    ]

    small : length (records_of payloads) ≤ gate - first
    small =
        omega (
          arith,
          ap length so_far,
          length-take (gate - first) (drop (start_of half + first) disk),
        )

    pub read_damaged :
        (let bytes = bytes_from disk half first in records (length bytes) bytes ≡ None)
    read_damaged =
        ap (λ (l : List ℕ). records (length l) l) split
        ∙ records_broken payloads _ rest too_long (omega (arith, small))
        (omega (arith, length-append (records_of payloads) (open_gate ∷ rest)))

meaning_at : (disk : List ℕ) (half : Half) → current disk ≡ Ok half →
    meaning disk ≡ value_at disk half
unfolding meaning
meaning_at disk half is = ap (value_in disk) is

no_meaning : (disk : List ℕ) (fault : Fault) → current disk ≡ Err fault → meaning disk ≡ Err fault
unfolding meaning
no_meaning disk fault is = ap (value_in disk) is

-- no half is current
pub refused_by_halves : (disk : List ℕ) (e : JournalError) → IsOpenRefusal e (current disk) →
    IsOpenRefusal e (meaning disk)
refused_by_halves disk NoImage cause = no_meaning disk no_image cause
refused_by_halves disk Damaged cause = no_meaning disk damaged cause
refused_by_halves disk Memory cause = tt
refused_by_halves disk Device cause = tt
refused_by_halves disk Full cause = cause
refused_by_halves disk JournalFull cause = cause
refused_by_halves disk Halted cause = cause

-- the current half has no value
pub refused_by_value : (disk : List ℕ) (half : Half) (e : JournalError) → current disk ≡ Ok half →
    IsReadRefusal e (value_at disk half ≡ Err damaged) → IsOpenRefusal e (meaning disk)
refused_by_value disk half e is cause =
    open_refusal e (meaning disk)
    (read_refusal_weaker e _ _ (λ none. meaning_at disk half is ∙ none) cause)

-- the image that was read
module _ (disk : List ℕ) (half : Half) (image : List ℕ) (fits : length image ≤ longest_image)
    (there : take (4 + length image) (drop (start_of half + 9) disk)
    ≡ to_be_bytes w32 (length image) ++ image) where
  length_read : image_length_at disk half ≡ length image
  unfolding image_length_at
  length_read =
      ap (from_be_bytes w32)
      (sym (take-take 4 (4 + length image) (drop (start_of half + 9) disk) (omega arith)) ∙ ap
      (λ (l : List ℕ). take 4 l) there ∙ take_at (to_be_bytes w32 (length image)) image 4 refl)
      ∙ from_be_bytes-to_be_bytes_4 (length image) (omega (arith, fits))

  pub refused_by_records : (e : JournalError) → current disk ≡ Ok half →
      IsReadRefusal e (let bytes = bytes_from disk half (13 + length image) in
      records (length bytes) bytes ≡ None) → IsOpenRefusal e (meaning disk)
  refused_by_records e is cause =
      refused_by_value disk half e is
      (read_refusal_weaker e _ _ (records_damaged disk half (length image) length_read) cause)

  pub front_read : (payloads : List (List ℕ)) (gate : ℕ) → 13 + length image ≤ gate →
      take (gate - (13 + length image)) (drop (start_of half + (13 + length image)) disk)
      ≡ records_of payloads →
      take (gate - 9) (drop (start_of half + 9) disk) ≡ spelled image payloads
  unfolding spelled
  front_read payloads gate ordered next =
      let count : gate - 9 ≡ 4 + length image + (gate - (13 + length image)) =
      omega (arith, ordered) in
      let at : start_of half + 9 + (4 + length image) ≡ start_of half + (13 + length image) =
      omega arith in
      ap (λ k. take k (drop (start_of half + 9) disk)) count
      ∙ part_add (4 + length image) (gate - (13 + length image)) (start_of half + 9) disk
      ∙ ap (λ (l : List ℕ). l ++ take (gate - (13 + length image))
      (drop (start_of half + 9 + (4 + length image)) disk)) there
      ∙ ap (λ (l : List ℕ). (to_be_bytes w32 (length image) ++ image) ++ l)
      (ap (λ k. take (gate - (13 + length image)) (drop k disk)) at ∙ next)
      ∙ append_assoc (to_be_bytes w32 (length image)) image (records_of payloads)

-- what was read of a disk stands on it still after the reads
module _ (old new : List ℕ) (cursor : JournalCursor) (contents : Contents) (same : new ≡ old)
    (whole : IsWhole old cursor.half cursor.generation cursor.gate (value_read contents)) where
  pub read_whole : IsWhole new cursor.half cursor.generation cursor.gate (value_read contents)
  read_whole =
      subst (λ bytes. IsWhole bytes cursor.half cursor.generation cursor.gate
      (value_read contents)) (sym same) whole

  pub read_in_step : (may_leave : List ℕ → Type 0) →
      is_open old (other_half cursor.half) ≡ cursor.other_is_open →
      Only new may_leave → IsInStep new may_leave cursor
  read_in_step may_leave other durable =
      in_step new may_leave cursor _ read_whole
      (ap (λ bytes. is_open bytes (other_half cursor.half)) same ∙ other) durable
