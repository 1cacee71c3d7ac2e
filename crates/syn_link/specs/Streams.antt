-- What comes over a connection: the bytes that were held, and after them those that a reader gave.
use Rattle.std.specs.Prelude.{◌≡◌, ◌++◌, Option, None}
use Rattle.std.specs.Io.KnownBytes.{Consumes, IsAtEnd}
use Rattle.syn_link.specs.Frames.{Bytes, IsFront, ClaimsNothing, ClaimsTooMuch}
use Rattle.syn_link.specs.declared.error.LinkError.{LinkError}
use Rattle.syn_link.specs.declared.error.LinkError.TheVariants.{BadFrame, TooLarge, Device, Memory}

-- the bytes go on with a length that no body has; a failed read and refused memory tell nothing
abbrev pub IsFaultOf : LinkError → Bytes → Type 0
IsFaultOf BadFrame bytes = ClaimsNothing bytes
IsFaultOf TooLarge bytes = ClaimsTooMuch bytes
IsFaultOf Device bytes = Unit {0}
IsFaultOf Memory bytes = Unit {0}

-- the reader gave these bytes, where the bytes are at fault; after a failed read it is not known
abbrev pub GaveBefore : LinkError → Option Bytes → Option Bytes → Bytes → Type 0
GaveBefore BadFrame given left came = Consumes given left came
GaveBefore TooLarge given left came = Consumes given left came
GaveBefore Device given left came = Unit {0}
GaveBefore Memory given left came = Unit {0}

module _ (given left : Option Bytes) (held kept : Bytes) where
  -- what was held and what came begin with this body's frame, or with none that is whole; the
  -- rest is kept
  pub record Comes (found : Option Bytes) : Type 0 where
    pub came : Bytes
    pub consumed : Consumes given left came
    pub front : IsFront (held ++ came) found kept

  -- no whole frame came before the reader's end
  pub record EndsBefore : Type 0 where
    pub comes : Comes None
    pub ended : IsAtEnd left

  -- what was held and what came is kept, and the refusal is the one of these bytes
  pub record ComesAtFault (error : LinkError) : Type 0 where
    pub came : Bytes
    pub consumed : GaveBefore error given left came
    pub whole : kept ≡ held ++ came
    pub fault : IsFaultOf error kept
