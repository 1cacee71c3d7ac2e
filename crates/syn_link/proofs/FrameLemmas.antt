-- What a frame begins with.
use Rattle.std.proofs.Common.{◌<◌, ℕ, ◌^◌, ◌++◌, length, None, ◌∙◌, refl, append_assoc, arith}
use Rattle.std.specs.Int.{w32, to_be_bytes}
use Rattle.syn_wire.specs.Reads.{BeginsWith}
use Rattle.syn_link.specs.Frames.{Bytes, IsBody, frame_of, IsFront}

-- a number of four bytes
abbrev pub IsShort : ℕ → Type 0
IsShort n = n < 2 ^ 32

-- a frame begins with the length of its body
pub claims : (bytes body more : Bytes) → BeginsWith IsBody frame_of bytes body more →
    BeginsWith IsShort (to_be_bytes w32) bytes (length body) (body ++ more)
claims bytes body more begins = record {
  lawful = omega (arith, begins.lawful.1);
  spelled = begins.spelled ∙ append_assoc (to_be_bytes w32 (length body)) body more;
}

-- no length, no frame
pub no_front : (bytes : Bytes) →
    ((n : ℕ) (rest : Bytes) → ¬ BeginsWith IsShort (to_be_bytes w32) bytes n rest) →
    IsFront bytes None bytes
no_front bytes none = (
  refl,
  (λ claim. none 0 claim.0 claim.1),
  (λ claim. none claim.0 claim.2.0 claim.2.1),
  λ body more begins. none (length body) (body ++ more) (claims bytes body more begins),
)
