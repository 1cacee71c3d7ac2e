-- What a disk whose current half is whole stands for.
use Rattle.std.proofs.Common.{◌≡◌, ℕ, ◌+◌, ◌-◌, ◌≤◌, Bool, true, leb, List, ◌∷◌, ◌++◌, length}
use Rattle.std.proofs.Common.{get_or, take, drop, Some, Ok, refl, sym, ◌∙◌, ap, subst, arith}
use Rattle.std.proofs.Common.{Result, false, true≢false}
use Rattle.std.proofs.Common.{length-append, length-take, length-drop, take-append-drop}
use Rattle.std.proofs.lemmas.List.{append_assoc, drop-drop, drop_more}
use Rattle.std.proofs.lemmas.Bool.Decides.{nat_tests}
use Rattle.std.proofs.lemmas.Nat.{from_be_bytes-to_be_bytes_4}
use Rattle.std.specs.Int.{w32, to_be_bytes, from_be_bytes}
use Rattle.std.specs.Prelude.{if◌then◌else◌, Err}
use Rattle.syn_disk.specs.Disk.{Only}
use Rattle.syn_disk.specs.declared.disk.Disk.{Ghosts}
use Rattle.syn_disk.specs.declared.disk.TheConstants.{DISK_SIZE}
use Rattle.syn_journal.specs.Journal.{Stands}
use Rattle.syn_journal.specs.declared.cursor.JournalCursor.{JournalCursor}
use Rattle.syn_journal.specs.declared.half.Half.{Half}
use Rattle.syn_journal.specs.declared.half.Half.TheVariants.{First, Second}
use Rattle.syn_journal.specs.declared.journal.Journal.{Journal}
use Rattle.syn_journal.specs.Layout.{half_size, longest_image, start_of, other_half, is_open}
use Rattle.syn_journal.specs.Layout.{HasJournal, Value, Fault, damaged, records, image_length_at}
use Rattle.syn_journal.specs.Layout.{with_image, bytes_from, value_at, value_in, meaning}
use Rattle.syn_journal.specs.Layout.{records_of, spelled}
use Rattle.syn_journal.specs.inner.Whole.{IsWhole, IsInStep}
use Rattle.syn_journal.specs.Layout.{value_or_empty}
use Rattle.syn_journal.proofs.Parts.{next_part, take_over}
use Rattle.syn_journal.proofs.Records.{records_read}

-- a disk means one value
pub one_value : (d : Result Value Fault) (a b : Value) → d ≡ Ok a → d ≡ Ok b → a ≡ b
one_value d a b x y = ap (λ r. value_or r a) (sym x ∙ y)
  where
    value_or : Result Value Fault → Value → Value
    value_or (Ok value) other = value
    value_or (Err fault) other = other

-- and a value is no fault
pub no_value : (d : Result Value Fault) (value : Value) (fault : Fault) → d ≡ Ok value →
    d ≡ Err fault → ⊥
no_value d value fault a b = true≢false (ap is_ok (sym a ∙ b))
  where
    is_ok : Result Value Fault → Bool
    is_ok (Ok value) = true
    is_ok (Err fault) = false

pub within_disk : (half : Half) (size : ℕ) → size ≡ DISK_SIZE → start_of half + half_size ≤ size
within_disk First size is = omega arith
within_disk Second size is = omega arith

regroup : (a b c d : List ℕ) → (a ++ (b ++ c)) ++ d ≡ a ++ (b ++ (c ++ d))
regroup a b c d = simp append_assoc

value_from : (disk : List ℕ) (half : Half) (size : ℕ) (image : List ℕ) (payloads : List (List ℕ)) →
    image_length_at disk half ≡ size → size ≤ longest_image →
    take size (drop (start_of half + 13) disk) ≡ image →
    records (length (bytes_from disk half (13 + size))) (bytes_from disk half (13 + size))
    ≡ Some payloads → value_at disk half ≡ Ok (record { image = image; payloads = payloads })
unfolding value_at
value_from disk half size image payloads is fits image_is records_are =
    let test : leb size longest_image ≡ true = grind (arith, nat_tests) in
    let P : ℕ → Type 0 = λ k. (let after = bytes_from disk half (13 + k) in
    if leb k longest_image then with_image (take k (drop (start_of half + 13) disk))
    (records (length after) after) else Err damaged)
    ≡ Ok (record { image = image; payloads = payloads }) in
    let at_size : P size = rw (test, image_is, records_are) refl in
    subst P (sym is) at_size

module _ (disk : List ℕ) (half : Half) (generation gate : ℕ) (value : Value)
    (whole : IsWhole disk half generation gate value) where
  abbrev base : ℕ
  base = start_of half

  abbrev word : List ℕ
  word = to_be_bytes w32 (length value.image)

  abbrev recs : List ℕ
  recs = records_of value.payloads

  after : List ℕ
  after = get_or disk (base + gate) 0 ∷ drop (base + gate + 1) disk

  room : base + half_size ≤ length disk
  room = within_disk half (length disk) whole.size

  pub sizes : gate ≡ 13 + length value.image + length recs
  unfolding spelled
  sizes =
      omega (
        arith,
        ap length whole.front,
        length-take (gate - 9) (drop (base + 9) disk),
        length-drop (base + 9) disk,
        room,
        whole.within,
        length-append value.image recs,
      )

  parts : drop (base + 9) disk ≡ word ++ (value.image ++ (recs ++ after))
  unfolding after spelled
  parts =
      let there : base + 9 + (gate - 9) ≡ base + gate = omega (arith, sizes) in
      let last : drop (gate - 9) (drop (base + 9) disk) ≡ after =
      drop-drop (gate - 9) (base + 9) disk ∙ ap (λ k. drop k disk) there
      ∙ drop_more disk (base + gate) 0 (omega (arith, room, whole.within)) in
      sym (take-append-drop (gate - 9) (drop (base + 9) disk))
      ∙ ap (λ (l : List ℕ). l ++ drop (gate - 9) (drop (base + 9) disk)) whole.front
      ∙ ap (λ (l : List ℕ). spelled value.image value.payloads ++ l) last
      ∙ regroup word value.image recs after

  then_length : (take 4 (drop (base + 9) disk) ≡ word)
      × (drop (base + 13) disk ≡ value.image ++ (recs ++ after))
  then_length = next_part disk (base + 9) 4 (base + 13) word _ parts refl (omega arith)

  then_image : (take (length value.image) (drop (base + 13) disk) ≡ value.image)
      × (drop (base + (13 + length value.image)) disk ≡ recs ++ after)
  then_image =
      next_part disk (base + 13) (length value.image)
      (base + (13 + length value.image)) value.image _ then_length.1 refl (omega arith)

  length_is : image_length_at disk half ≡ length value.image
  unfolding image_length_at
  length_is =
      ap (from_be_bytes w32) then_length.0
      ∙ from_be_bytes-to_be_bytes_4 (length value.image) (omega (arith, sizes, whole.within))

  part_is : bytes_from disk half (13 + length value.image) ≡ recs ++ get_or disk (base + gate) 0
      ∷ take (half_size - gate - 1) (drop (base + gate + 1) disk)
  unfolding after
  part_is = ap (λ (l : List ℕ). take (half_size - (13 + length value.image)) l) then_image.1
      ∙ take_over recs (get_or disk (base + gate) 0) (drop (base + gate + 1) disk)
      (half_size - (13 + length value.image)) (half_size - gate - 1)
      (omega (arith, sizes, whole.within))

  records_are : records (length (bytes_from disk half (13 + length value.image)))
      (bytes_from disk half (13 + length value.image)) ≡ Some value.payloads
  records_are =
      ap (λ (l : List ℕ). records (length l) l) part_is
      ∙ records_read value.payloads _ (get_or disk (base + gate) 0) _ whole.closed
      (omega (arith, sizes, whole.within))
      (omega (
        arith,
        length-append recs
            (get_or disk (base + gate) 0
            ∷ take (half_size - gate - 1) (drop (base + gate + 1) disk)),
      ))

  value_is : value_at disk half ≡ Ok value
  value_is =
      value_from disk half (length value.image) value.image value.payloads length_is
      (omega (arith, sizes, whole.within)) then_image.0 records_are

  pub means : meaning disk ≡ Ok value
  unfolding meaning
  means = ap (value_in disk) whole.is_current ∙ value_is

  pub has : HasJournal disk value generation
  has =
      record {
        means = means;
        half = half;
        is_current = whole.is_current;
        numbered = whole.numbered;
      }

  -- and so for the value that its bytes have
  whole_by_meaning : IsWhole disk half generation gate (value_or_empty (meaning disk))
  whole_by_meaning =
      subst (λ v. IsWhole disk half generation gate v) (sym (ap value_or_empty means)) whole

-- the cursor of a disk whose half is whole is in step with it
pub in_step : (disk : List ℕ) (may_leave : List ℕ → Type 0) (cursor : JournalCursor)
    (value : Value) → IsWhole disk cursor.half cursor.generation cursor.gate value →
    is_open disk (other_half cursor.half) ≡ cursor.other_is_open → Only disk may_leave →
    IsInStep disk may_leave cursor
in_step disk may_leave cursor value whole other durable =
    record {
      whole = whole_by_meaning disk cursor.half cursor.generation cursor.gate value whole;
      other = other;
      durable = durable;
    }

-- the half of a journal is whole, with the value that the journal stands for
pub stands_whole : {D : Type 0} {disk : Ghosts D} (journal : Journal D disk) (value : Value) →
    Stands journal value →
    IsWhole (disk.seen journal.disk) journal.cursor.half journal.cursor.generation
    journal.cursor.gate value
stands_whole {disk = disk} journal value stands =
    let cursor = journal.cursor in
    subst (λ v. IsWhole (disk.seen journal.disk) cursor.half cursor.generation cursor.gate v)
    (ap value_or_empty stands.holds.means) (journal.in_step stands.running).whole
