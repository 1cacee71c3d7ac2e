-- Frames: a length of four bytes, the highest first, and a body of so many bytes.
use Rattle.std.specs.Prelude.{◌≡◌, ◌≤◌, ◌<◌, ◌^◌, ℕ, List, ◌++◌, length, flat_map, Option, Some}
use Rattle.std.specs.Prelude.{None, All}
use Rattle.std.specs.Int.{w32, to_be_bytes}
use Rattle.std.specs.Io.KnownBytes.{Appends}
use Rattle.syn_wire.specs.Reads.{BeginsWith}
use Rattle.syn_link.specs.declared.frames.TheConstants.{LONGEST_BODY}

abbrev pub Bytes : Type 0
Bytes = List ℕ

-- a body has at least one byte, and at most so many
abbrev pub IsBody : Bytes → Type 0
IsBody body = (1 ≤ length body) × (length body ≤ LONGEST_BODY)

abbrev pub frame_of : Bytes → Bytes
frame_of body = to_be_bytes w32 (length body) ++ body

-- the bytes begin with this length
abbrev pub ClaimsLength : Bytes → ℕ → Type 0
ClaimsLength bytes n = (rest : Bytes) × BeginsWith (λ n. n < 2 ^ 32) (to_be_bytes w32) bytes n rest

-- The two faults of a stream: a length of 0, and one above the longest body
abbrev pub ClaimsNothing : Bytes → Type 0
ClaimsNothing bytes = ClaimsLength bytes 0

abbrev pub ClaimsTooMuch : Bytes → Type 0
ClaimsTooMuch bytes = (n : ℕ) × (LONGEST_BODY < n) × ClaimsLength bytes n

-- What stands in front: a whole frame and the rest; or no whole frame yet, and no fault
abbrev pub IsFront : Bytes → Option Bytes → Bytes → Type 0
IsFront bytes (Some body) rest = BeginsWith IsBody frame_of bytes body rest
IsFront bytes None rest =
    (rest ≡ bytes) × ¬ ClaimsNothing bytes × ¬ ClaimsTooMuch bytes
    × ((body : Bytes) (more : Bytes) → ¬ BeginsWith IsBody frame_of bytes body more)

-- a writer has a beginning of the bytes more
abbrev pub AppendsSome : Option Bytes → Option Bytes → Bytes → Type 0
AppendsSome old new bytes =
    (done : Bytes) × (rest : Bytes) × (bytes ≡ done ++ rest) × Appends old new done

-- A stream is read in one way, wherever it is cut: the same bytes are the same bodies, and the same
-- rest in front of which no whole frame stands
abbrev pub AreBodies : List Bytes → Bytes → Bytes → Type 0
AreBodies bodies rest bytes = All IsBody bodies × (bytes ≡ flat_map frame_of bodies ++ rest)

abbrev pub HasNoFrame : Bytes → Type 0
HasNoFrame rest = (body : Bytes) (more : Bytes) → ¬ BeginsWith IsBody frame_of rest body more

abbrev pub CutsDoNotMatter : Type 0
CutsDoNotMatter = (bodies others : List Bytes) (rest other bytes : Bytes) →
    AreBodies bodies rest bytes → HasNoFrame rest → AreBodies others other bytes
    → HasNoFrame other →
    (bodies ≡ others) × (rest ≡ other)
