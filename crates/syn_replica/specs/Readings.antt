-- What the payloads of a disk give.
use Rattle.std.specs.Prelude.{◌≡◌, ◌≢◌, ◌<◌, ◌^◌, ℕ, List, map, fold, Option, Some, None}
use Rattle.std.specs.Global.{Vec}
use Rattle.syn_model.specs.Path.{Bytes}
use Rattle.syn_model.specs.Event.{Event}
use Rattle.syn_model.specs.Standing.{Standing, standing_after, refusal_at, IsAllowedIn}
use Rattle.syn_model.specs.Standing.{AllAllowedIn}
use Rattle.syn_model.specs.Version.{Version, current_version}
use Rattle.syn_model.specs.Spelling.{event_spelling_in}
use Rattle.syn_model.specs.Image.{GivesIn, IsStandingIn, image_spelling_in}
use Rattle.syn_wire.specs.Events.{IsShort, IsSpelledEventIn}
use Rattle.syn_replica.specs.declared.error.ReplicaError.{ReplicaError}
use Rattle.syn_replica.specs.declared.error.ReplicaError.TheVariants.{Damaged, Memory, WrongPair}

abbrev pub bytes_of_each : List (Vec ℕ) → List Bytes
bytes_of_each payloads = map (λ payload. payload.items) payloads

-- one more payload is an allowed event of the version, which leaves this standing
pub record AddsEvent (version : Version) (old : Standing) (payload : Bytes) (new : Standing)
    : Type 0 where
  pub event : Event
  pub spelled : payload ≡ event_spelling_in version event
  pub allowed : IsAllowedIn version old event
  pub gives : new ≡ standing_after old event

-- the payloads are events that are allowed in turn, and leave this standing
pub record Replays (version : Version) (old : Standing) (payloads : List Bytes) (new : Standing)
    : Type 0 where
  pub events : List Event
  pub spelled : payloads ≡ map (event_spelling_in version) events
  pub allowed : AllAllowedIn version old events
  pub gives : new ≡ fold standing_after old events

-- what a payload is read as: the event that it spells, or nothing where it spells none
abbrev pub IsEventOf : Version → Bytes → Option Event → Type 0
IsEventOf version payload (Some event) =
    IsSpelledEventIn version event × (payload ≡ event_spelling_in version event)
IsEventOf version payload None =
    (event : Event) → IsSpelledEventIn version event
    → payload ≢ event_spelling_in version event

-- in a version an image and payloads give one standing of one pair at most
abbrev pub OneIsGiven : Type 0
OneIsGiven = (version : Version) (image : Bytes) (payloads : List Bytes) (p q : ℕ) (s t : Standing)
    → p < 2 ^ 64 → q < 2 ^ 64 → GivesIn version p image payloads s
    → GivesIn version q image payloads t → (p ≡ q) × (s ≡ t)

-- an event that is allowed has a spelling,
abbrev pub AllowedIsSpelled : Type 0
AllowedIsSpelled = (version : Version) (standing : Standing) (event : Event)
    → IsAllowedIn version standing event → IsSpelledEventIn version event

-- as one that is not refused is short,
abbrev pub NotRefusedIsShort : Type 0
NotRefusedIsShort = (standing : Standing) (event : Event) → refusal_at standing event ≡ None
    → IsShort event

-- which tells it
abbrev pub EventsAreTold : Type 0
EventsAreTold = (version : Version) (event other : Event) → IsSpelledEventIn version event
    → IsSpelledEventIn version other
    → event_spelling_in version event ≡ event_spelling_in version other → event ≡ other

-- the image is that of the pair with what it keeps
pub record IsImageOf (version : Version) (image : Bytes) (pair : ℕ) (standing : Standing)
    : Type 0 where
  pub fits : pair < 2 ^ 64
  pub sound : IsStandingIn version standing
  pub spelled : image ≡ image_spelling_in version pair standing

-- image and payloads are those of another pair than the wanted one
pub record GivesOtherPairIn (version : Version) (wanted : Option ℕ) (image : Bytes)
    (payloads : List Bytes) : Type 0 where
  pub pair : ℕ
  pub fits : pair < 2 ^ 64
  pub standing : Standing
  pub gives : GivesIn version pair image payloads standing
  pub asked : ℕ
  pub wanted_is : wanted ≡ Some asked
  pub differ : asked ≢ pair

abbrev pub GivesOtherPair : Option ℕ → Bytes → List Bytes → Type 0
GivesOtherPair wanted image payloads = GivesOtherPairIn current_version wanted image payloads

-- image and payloads give nothing, of whatever pair
abbrev pub GivesNothingIn : Version → Bytes → List Bytes → Type 0
GivesNothingIn version image payloads = (pair : ℕ) (standing : Standing) → pair < 2 ^ 64
    → ¬ GivesIn version pair image payloads standing

abbrev pub GivesNothing : Bytes → List Bytes → Type 0
GivesNothing image payloads = GivesNothingIn current_version image payloads

-- the refusals of a payload, and of an image with payloads
abbrev pub IsOfPayload : ReplicaError → Type 0
IsOfPayload Damaged = Unit {0}
IsOfPayload Memory = Unit {0}
IsOfPayload _ = ⊥

abbrev pub IsOfMeaning : ReplicaError → Type 0
IsOfMeaning Damaged = Unit {0}
IsOfMeaning Memory = Unit {0}
IsOfMeaning WrongPair = Unit {0}
IsOfMeaning _ = ⊥
