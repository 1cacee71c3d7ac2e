-- A body of a message, whole.
use Rattle.std.specs.Prelude.{◌≡◌, ◌≢◌, ℕ, ◌∷◌, ◌++◌, Option, Some, None, Result, Ok, Err}
use Rattle.std.specs.Int.{to_be_bytes, w32, w64}
use Rattle.syn_model.specs.Path.{Bytes}
use Rattle.syn_wire.specs.declared.error.ReadError.{ReadError}
use Rattle.syn_wire.specs.declared.error.ReadError.TheVariants.{Malformed}

-- a kind, a session, a number, and what the message has
abbrev pub body_spelling : ℕ → ℕ → ℕ → Bytes → Bytes
body_spelling kind session number fields =
    kind ∷ to_be_bytes w64 session ++ (to_be_bytes w32 number ++ fields)

-- no lawful value is spelled by the whole body
abbrev pub SpellsNone : {V : Type 0} → (V → Type 0) → (V → Bytes) → Bytes → Type 0
SpellsNone {V} IsLawful spelling body = (value : V) → IsLawful value → body ≢ spelling value

-- What was found in a whole body: a lawful value that it spells, or nothing where it spells none.
abbrev pub IsWholeReading : {V : Type 0} → (V → Type 0) → (V → Bytes) → Bytes → Option V → Type 0
IsWholeReading IsLawful spelling body (Some value) = IsLawful value × (body ≡ spelling value)
IsWholeReading IsLawful spelling body None = SpellsNone IsLawful spelling body

-- What a reader did with all that was left: it gives the lawful value that this spells, or this
-- spells none.
abbrev pub ReadsWhole : {V X : Type 0} → (V → Type 0) → (V → Bytes) → (X → V) → Bytes
    → Result X ReadError → Type 0
ReadsWhole IsLawful spelling view left (Ok found) =
    IsLawful (view found) × (left ≡ spelling (view found))
ReadsWhole IsLawful spelling view left (Err error) =
    error ≡ Malformed → SpellsNone IsLawful spelling left
