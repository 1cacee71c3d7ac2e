-- What an event has, part by part.
use Rattle.std.specs.Prelude.{◌≡◌, ℕ, ◌<◌, ◌^◌, true, List, ◌++◌, length, Result}
use Rattle.std.specs.Int.{to_be_bytes, w16, w32, w64}
use Rattle.syn_model.specs.Path.{Bytes}
use Rattle.syn_model.specs.Limits.{fits_part, fits_paths}
use Rattle.syn_model.specs.Event.{AreBytes, Event, Edited, Began, Replaced, Put, MakeDir, Remove}
use Rattle.syn_model.specs.Event.{Chmod, IsLawfulEventIn}
use Rattle.syn_model.specs.Spelling.{event_spelling_in}
use Rattle.syn_model.specs.Version.{Version, current_version}
use Rattle.syn_history.specs.Events.{event_of}
use Rattle.syn_history.specs.declared.event.Event as code
use Rattle.syn_wire.specs.Reads.{Reads}
use Rattle.syn_wire.specs.declared.error.ReadError.{ReadError}

abbrev pub IsNumber32 : ℕ → Type 0
IsNumber32 n = n < 2 ^ 32

abbrev pub number_spelling : ℕ → Bytes
number_spelling n = to_be_bytes w32 n

abbrev pub mode_spelling : ℕ → Bytes
mode_spelling mode = to_be_bytes w16 mode

abbrev pub IsNumber64 : ℕ → Type 0
IsNumber64 n = n < 2 ^ 64

abbrev pub number64_spelling : ℕ → Bytes
number64_spelling n = to_be_bytes w64 n

-- one value after another
abbrev pub Both : {A B : Type 0} → (A → Type 0) → (B → Type 0) → A × B → Type 0
Both P Q pair = P pair.0 × Q pair.1

abbrev pub both_spelling : {A B : Type 0} → (A → List ℕ) → (B → List ℕ) → A × B → List ℕ
both_spelling f g pair = f pair.0 ++ g pair.1

-- the bytes of a file, whose length is spelled with four bytes
pub record IsFile (file : Bytes) : Type 0 where
  pub bytes : AreBytes file
  pub brief : length file < 2 ^ 32

abbrev pub file_spelling : Bytes → Bytes
file_spelling bytes = to_be_bytes w32 (length bytes) ++ bytes

-- what is put has a length that four bytes spell, and a part keeps the limits of each file and
-- directory and of its own paths
abbrev pub IsShort : Event → Type 0
IsShort (Edited user (Put path bytes)) = length bytes < 2 ^ 32
IsShort (Edited user (MakeDir path)) = Unit {0}
IsShort (Edited user (Remove path)) = Unit {0}
IsShort (Edited user (Chmod path mode)) = Unit {0}
IsShort (Began session) = Unit {0}
IsShort (Replaced token path since new) = (fits_part new ≡ true) × (fits_paths new ≡ true)

abbrev pub IsSpelledEventIn : Version → Event → Type 0
IsSpelledEventIn version event = IsLawfulEventIn version event × IsShort event

abbrev pub IsSpelledEvent : Event → Type 0
IsSpelledEvent event = IsSpelledEventIn current_version event

-- what a reader did at an event that is spelled alike in each version
abbrev pub ReadsEventInEach : Bytes → Bytes → Result code.Event ReadError → Type 0
ReadsEventInEach old new read =
    (version : Version) → Reads (IsSpelledEventIn version) (event_spelling_in version) event_of
    old new read
