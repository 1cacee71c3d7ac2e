-- What the bytes of a disk stand for.
--
-- A disk has two halves. A half holds a gate, which is open at the byte a5, a generation of 8
-- bytes, the image's length of 4, the image, and then records: each a gate, a length of 4 bytes and
-- a payload. After the last record stands a closed gate. Numbers are big endian. The current half
-- is the open one of the greatest generation.
use Rattle.std.specs.Prelude.{◌≡◌, ◌⊎◌, ◌+◌, ◌-◌, ◌==◌, ℕ, zero, suc, nat_lt, nat_le, Bool, true}
use Rattle.std.specs.Prelude.{false, if◌then◌else◌, List, [], ◌∷◌, ◌++◌, length, take, drop}
use Rattle.std.specs.Prelude.{slice_index, Option, Some, None, Result, Ok, Err}
use Rattle.std.specs.Int.{w32, w64, from_be_bytes, to_be_bytes}
use Rattle.syn_model.specs.Limits.{greatest_image}
pub use Rattle.syn_model.specs.Limits.{half_size}
use Rattle.syn_journal.specs.declared.half.Half.{Half}
use Rattle.syn_journal.specs.declared.layout.TheConstants.{IMAGE_AT, IMAGE_LENGTH_AT, RECORD_HEADER}
use Rattle.syn_journal.specs.declared.half.Half.TheVariants.{First, Second}

abbrev pub open_gate : ℕ
open_gate = 165

-- with it the first gate is the last byte of its half
abbrev pub longest_image : ℕ
longest_image = greatest_image

-- what a journal keeps
pub record Value : Type 0 where
  pub image : List ℕ
  pub payloads : List (List ℕ)

-- why a disk keeps nothing
pub data Fault : Type 0 where
  no_image : Fault
  damaged : Fault

abbrev pub start_of : Half → ℕ
start_of First = 0
start_of Second = half_size

abbrev pub other_half : Half → Half
other_half First = Second
other_half Second = First

abbrev pub is_open : List ℕ → Half → Bool
is_open disk half = slice_index disk (start_of half) == open_gate

unfoldable pub generation_at : List ℕ → Half → ℕ
generation_at disk half = from_be_bytes w64 (take 8 (drop (start_of half + 1) disk))

unfoldable pub image_length_at : List ℕ → Half → ℕ
image_length_at disk half = from_be_bytes w32 (take 4 (drop (start_of half + IMAGE_LENGTH_AT) disk))

-- by which halves are open, and their generations
abbrev pub current_of : Bool → Bool → ℕ → ℕ → Result Half Fault
current_of false false first second = Err no_image
current_of true false first second = Ok First
current_of false true first second = Ok Second
current_of true true first second =
    if first == second then Err damaged else Ok (if nat_lt first second then Second else First)

unfoldable pub current : List ℕ → Result Half Fault
current disk =
    current_of (is_open disk First) (is_open disk Second) (generation_at disk First)
    (generation_at disk Second)

abbrev pub and_before : List ℕ → Option (List (List ℕ)) → Option (List (List ℕ))
and_before payload None = None
and_before payload (Some payloads) = Some (payload ∷ payloads)

-- the payloads up to the first closed gate, or None where an open record leaves no byte for the
-- next gate; `fuel` bounds the number of records, and one for each byte is enough
abbrev pub records : ℕ → List ℕ → Option (List (List ℕ))
records zero bytes = None
records (suc fuel) [] = None
records (suc fuel) (gate ∷ rest) =
    let n = from_be_bytes w32 (take 4 rest) in
    if gate == open_gate
    then (if nat_lt (4 + n) (length rest)
    then and_before (take n (drop 4 rest)) (records fuel (drop (4 + n) rest)) else None)
    else Some []

-- the bytes of a half from a gate on
abbrev pub bytes_from : List ℕ → Half → ℕ → List ℕ
bytes_from disk half gate = take (half_size - gate) (drop (start_of half + gate) disk)

abbrev pub with_image : List ℕ → Option (List (List ℕ)) → Result Value Fault
with_image image None = Err damaged
with_image image (Some payloads) = Ok (record { image = image; payloads = payloads })

unfoldable pub value_at : List ℕ → Half → Result Value Fault
value_at disk half =
    let n = image_length_at disk half in
    let later = bytes_from disk half (IMAGE_AT + n) in
    if nat_le n longest_image
    then with_image (take n (drop (start_of half + IMAGE_AT) disk)) (records (length later) later)
    else Err damaged

abbrev pub value_in : List ℕ → Result Half Fault → Result Value Fault
value_in disk (Ok half) = value_at disk half
value_in disk (Err fault) = Err fault

unfoldable pub meaning : List ℕ → Result Value Fault
meaning disk = value_in disk (current disk)

-- how a record is written, and what stands after the generation of a half up to the next gate
abbrev pub record_of : List ℕ → List ℕ
record_of payload = open_gate ∷ (to_be_bytes w32 (length payload) ++ payload)

abbrev pub records_of : List (List ℕ) → List ℕ
records_of [] = []
records_of (payload ∷ payloads) = record_of payload ++ records_of payloads

unfoldable pub spelled : List ℕ → List (List ℕ) → List ℕ
spelled image payloads = to_be_bytes w32 (length image) ++ (image ++ records_of payloads)

-- where the next gate stands in its half
abbrev pub size_of : Value → ℕ
size_of value = IMAGE_AT + length value.image + length (records_of value.payloads)

abbrev pub with_payload : Value → List ℕ → Value
with_payload value payload = record value { payloads = value.payloads ++ payload ∷ [] }

-- how many bytes the record of a payload takes
abbrev pub record_size : List ℕ → ℕ
record_size payload = RECORD_HEADER + length payload

-- an image, and no payload yet
abbrev pub image_alone : List ℕ → Value
image_alone image = record { image = image; payloads = [] }

-- the value, or none where there is none
abbrev pub value_or_empty : Result Value Fault → Value
value_or_empty (Ok value) = value
value_or_empty (Err fault) = image_alone []

-- how many bytes are left after the records, but for the closed gate
abbrev pub bytes_left : Value → ℕ
bytes_left value = half_size - 1 - size_of value

-- a payload more leaves as many bytes less as its record takes
abbrev pub LeftBehindPayload : Type 0
LeftBehindPayload = (value : Value) (payload : List ℕ)
    → bytes_left (with_payload value payload) ≡ bytes_left value - record_size payload

-- the journal on the disk has this value, and its current half this generation
pub record HasJournal (disk : List ℕ) (value : Value) (generation : ℕ) : Type 0 where
  pub means : meaning disk ≡ Ok value
  pub half : Half
  pub is_current : current disk ≡ Ok half
  pub numbered : generation_at disk half ≡ generation

-- the disk has the value and generation before a change, or those after it
abbrev pub IsBeforeOrAfter : Value → ℕ → Value → ℕ → List ℕ → Type 0
IsBeforeOrAfter before old after new disk = HasJournal disk before old ⊎ HasJournal disk after new
