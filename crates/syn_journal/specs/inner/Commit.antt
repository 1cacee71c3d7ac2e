-- What stands after a gate before it is opened, and what a stop leaves meanwhile.
use Rattle.std.specs.Prelude.{◌≡◌, ◌⊎◌, ◌<◌, ◌≤◌, ◌+◌, ◌^◌, ◌++◌, ◌∷◌, [], ℕ, if◌then◌else◌, List}
use Rattle.std.specs.Prelude.{length}
use Rattle.std.specs.Int.{w32, w64, to_be_bytes}
use Rattle.syn_disk.specs.Disk.{Torn, overwritten}
use Rattle.syn_journal.specs.declared.half.Half.{Half}
use Rattle.syn_journal.specs.Layout.{longest_image, open_gate, records_of, start_of, other_half}
use Rattle.syn_journal.specs.Layout.{is_open, Value}
use Rattle.syn_journal.specs.inner.Whole.{IsWhole}

-- after the gate of a half: the generation, the image, and the closed gate after it
abbrev pub body_of_image : ℕ → List ℕ → List ℕ
body_of_image generation image =
    to_be_bytes w64 generation ++ to_be_bytes w32 (length image) ++ image ++ 0 ∷ []

-- after the gate of a record: the payload, and the closed gate after it
abbrev pub body_of_record : List ℕ → List ℕ
body_of_record payload = to_be_bytes w32 (length payload) ++ payload ++ 0 ∷ []

-- This stands after the first gate of the records of these payloads, which take so many bytes: the
-- records without that gate, and the closed gate after the last.
pub record IsBodyOf (payloads : List (List ℕ)) (size : ℕ) (body : List ℕ) : Type 0 where
  pub spells : open_gate ∷ body ≡ records_of payloads ++ 0 ∷ []
  pub sized : length (records_of payloads) ≡ size
  pub some : 0 < size

-- any bytes after the gate, or any gate before the body
abbrev pub IsStagedOrOpened : List ℕ → ℕ → List ℕ → List ℕ → Type 0
IsStagedOrOpened old gate body disk =
    Torn (gate + 1) (length body) old disk ⊎ Torn gate 1 (overwritten old (gate + 1) body) disk

-- any byte in the gate of a half that was open, and a gate that was closed as it was
abbrev pub IsClosing : List ℕ → Half → List ℕ → Type 0
IsClosing old half disk = Torn (start_of half) (if is_open old half then 1 else 0) old disk

-- The other half is whole, and this is what is committed to this half to make the image its next
-- value.
pub record IsNextImage (disk : List ℕ) (half : Half) (generation gate : ℕ) (value : Value)
    (image body : List ℕ) : Type 0 where
  pub whole : IsWhole disk (other_half half) generation gate value
  pub spells : body ≡ body_of_image (generation + 1) image
  pub fits : length image ≤ longest_image
  pub numbered : generation + 1 < 2 ^ 64
