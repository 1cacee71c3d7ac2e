-- What it is to read a value from the front of bytes.
use Rattle.std.specs.Prelude.{◌≡◌, ℕ, List, ◌++◌, length, All, Option, Some, None, Result, Ok, Err}
use Rattle.syn_wire.specs.declared.error.ReadError.{ReadError}
use Rattle.syn_wire.specs.declared.error.ReadError.TheVariants.{Malformed}

-- the bytes begin with the spelling of a lawful value, and the rest follows it
pub record BeginsWith {V : Type 0} (IsLawful : V → Type 0) (spelling : V → List ℕ) (bytes : List ℕ)
    (value : V) (rest : List ℕ) : Type 0 where
  pub lawful : IsLawful value
  pub spelled : bytes ≡ spelling value ++ rest

-- no front of the bytes is a spelling of such a value
abbrev pub NothingStands : {V : Type 0} → (V → Type 0) → (V → List ℕ) → List ℕ → Type 0
NothingStands {V} IsLawful spelling bytes = (value : V) (rest : List ℕ)
    → ¬ BeginsWith IsLawful spelling bytes value rest

-- what was found: such a value, or nothing where none stands there
abbrev pub IsReading : {V : Type 0} → (V → Type 0) → (V → List ℕ) → List ℕ → Option (V × List ℕ)
    → Type 0
IsReading IsLawful spelling bytes (Some found) = BeginsWith IsLawful spelling bytes found.0 found.1
IsReading IsLawful spelling bytes None = NothingStands IsLawful spelling bytes

-- what a reader did: it went past the value that it gives, or none stands there
abbrev pub Reads : {V X : Type 0} → (V → Type 0) → (V → List ℕ) → (X → V) → List ℕ → List ℕ
    → Result X ReadError → Type 0
Reads IsLawful spelling view old new (Ok found) =
    BeginsWith IsLawful spelling old (view found) new
Reads IsLawful spelling view old new (Err error) =
    error ≡ Malformed → NothingStands IsLawful spelling old

-- no spelling of a value begins another, so that no value has two and no bytes are read in two ways
abbrev pub NoneBeginsAnother : {V : Type 0} → (V → Type 0) → (V → List ℕ) → Type 0
NoneBeginsAnother {V} IsLawful spelling = (v w : V) (r s : List ℕ) → IsLawful v → IsLawful w
    → spelling v ++ r ≡ spelling w ++ s → (v ≡ w) × (r ≡ s)

-- the old bytes begin the new ones: something may have been added after them, and nothing else
-- changed
abbrev pub IsBeginning : List ℕ → List ℕ → Type 0
IsBeginning old new = (added : List ℕ) × (new ≡ old ++ added)

-- so many lawful values
pub record AreSoMany {V : Type 0} (IsLawful : V → Type 0) (count : ℕ) (values : List V)
    : Type 0 where
  pub counted : length values ≡ count
  pub each : All IsLawful values
