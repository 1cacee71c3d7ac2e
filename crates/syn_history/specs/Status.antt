-- Where a replica is in its history, as it answers whoever asks.
use Rattle.std.specs.Prelude.{ℕ, ◌<◌, ◌^◌, ◌==◌, Bool, List, [], ◌∷◌, fold, Option, Some, None}
use Rattle.std.specs.Prelude.{if◌then◌else◌, IfSome}
use Rattle.std.specs.Option.{option_map}
use Rattle.syn_model.specs.Event.{Token, IsLawfulToken}
use Rattle.syn_model.specs.Limits.{greatest}
use Rattle.syn_model.specs.Path.{Bytes, Path, IsPath}
use Rattle.syn_model.specs.Standing.{Touch}
use Rattle.syn_history.specs.Events.{token_of}
use Rattle.syn_history.specs.Past.{Past}
use Rattle.syn_history.specs.declared.status.Identity.{Identity}
use Rattle.syn_history.specs.declared.status.ReplicaStatus.{ReplicaStatus}

-- the bytes of an identity
abbrev pub identity_of : Identity → Bytes
identity_of identity = identity.0

-- what the contracts see of an answer
pub record Status : Type 0 where
  pub pair : ℕ
  pub position : ℕ
  pub floor : ℕ
  pub session : ℕ
  pub token : Option Token
  pub place : ℕ
  pub touch : Option Path
  pub halted : Bool

abbrev pub status_of : ReplicaStatus → Status
status_of told =
    record {
      pair = told.pair;
      position = told.position;
      floor = told.floor;
      session = told.session;
      token = option_map token_of told.token;
      place = told.place;
      touch = told.touch;
      halted = told.halted;
    }

-- its numbers fit their bytes, and its path is lawful
pub record IsLawfulStatus (status : Status) : Type 0 where
  pub pair : status.pair < 2 ^ 64
  pub position : status.position < 2 ^ 64
  pub floor : status.floor < 2 ^ 64
  pub session : status.session < 2 ^ 64
  pub token : IfSome status.token IsLawfulToken
  pub place : status.place < 2 ^ 64
  pub touch : IfSome status.touch IsPath

-- the path of the touch at the place
abbrev pub path_at : List Touch → ℕ → Option Path
path_at [] place = None
path_at (touch ∷ later) place =
    if touch.position == place then Some touch.path else path_at later place

-- the place of the last touch; while there is none, the greatest number
abbrev pub last_place : List Touch → ℕ
last_place touches = fold (λ before touch. touch.position) greatest touches

-- the greatest number asks for the last touch
abbrev pub place_for : List Touch → ℕ → ℕ
place_for touches asked = if asked == greatest then last_place touches else asked

-- what a replica with this past answers, where it is asked about the place
abbrev pub status_at : ℕ → Bool → Past → ℕ → Status
status_at pair halted past asked =
    let place = place_for past.touches asked in
    record {
      pair = pair;
      position = past.position;
      floor = past.floor;
      session = past.session;
      token = past.token;
      place = place;
      touch = path_at past.touches place;
      halted = halted;
    }
