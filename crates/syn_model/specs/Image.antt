-- What a replica disk means: the image of a standing, and payloads that are events allowed in turn.
use Rattle.std.specs.Prelude.{ℕ, ◌≡◌, ◌≤◌, ◌<◌, true, List, [], ◌∷◌, ◌++◌, map, fold, flat_map}
use Rattle.std.specs.Prelude.{length, Option, Some, None, IfSome, All, AllPairs}
use Rattle.std.specs.Int.{to_be_bytes, w16, w64}
use Rattle.syn_model.specs.Path.{Bytes, IsPath, path_spelling}
use Rattle.syn_model.specs.Version.{Version, One, current_version, version_number}
use Rattle.syn_model.specs.Tree.{IsTreeIn}
use Rattle.syn_model.specs.Limits.{greatest, greatest_old_spelling, fits_replica}
use Rattle.syn_model.specs.Event.{Token, Event, IsLawfulToken}
use Rattle.syn_model.specs.Standing.{Touch, Standing, most_touches, standing_after, AllAllowedIn}
use Rattle.syn_model.specs.History.{History, IsHistory, standing_of}
use Rattle.syn_model.specs.Spelling.{spelling_in, token_spelling, event_spelling_in}

abbrev pub last_token_spelling : Option Token → Bytes
last_token_spelling None = 0 ∷ []
last_token_spelling (Some token) = 1 ∷ token_spelling token

abbrev pub touch_spelling : Touch → Bytes
touch_spelling touch = to_be_bytes w64 touch.position ++ path_spelling touch.path

-- "SYNR" and the version
abbrev pub replica_front : Version → Bytes
replica_front version = 83 ∷ 89 ∷ 78 ∷ 82 ∷ version_number version ∷ []

-- an image of the first version, whatever follows
abbrev pub IsOldImage : Bytes → Type 0
IsOldImage image = (rest : Bytes) × (image ≡ replica_front One ++ rest)

abbrev pub image_spelling_in : Version → ℕ → Standing → Bytes
image_spelling_in version pair standing =
    replica_front version ++ (to_be_bytes w64 pair
    ++ (to_be_bytes w64 standing.position
    ++ (to_be_bytes w64 standing.floor ++ (to_be_bytes w64 standing.session
    ++ (last_token_spelling standing.token
    ++ (to_be_bytes w16 (length standing.touches)
    ++ (flat_map touch_spelling standing.touches ++ spelling_in version standing.tree)))))))

abbrev pub image_spelling : ℕ → Standing → Bytes
image_spelling pair standing = image_spelling_in current_version pair standing

-- what an image may hold
pub record IsStandingIn (version : Version) (standing : Standing) : Type 0 where
  pub tree : IsTreeIn version standing.tree
  pub fits : fits_replica standing.tree ≡ true
  pub old : version ≡ One → length (spelling_in One standing.tree) ≤ greatest_old_spelling
  pub position : standing.position ≤ greatest
  pub floor : standing.floor ≤ standing.position
  pub session : standing.session ≤ greatest
  pub token : IfSome standing.token (λ token. (1 ≤ token.session)
      × (token.session ≤ standing.session) × IsLawfulToken token)
  pub count : length standing.touches ≤ most_touches
  pub touches : All (λ touch. (standing.floor ≤ touch.position)
      × (touch.position < standing.position) × IsPath touch.path) standing.touches
  pub rising : AllPairs (λ earlier later. earlier.position < later.position) standing.touches

abbrev pub IsStanding : Standing → Type 0
IsStanding standing = IsStandingIn current_version standing

-- The image is that of a standing, the payloads are events that are allowed in turn after it, and
-- this is the standing after them.
pub record GivesIn (version : Version) (pair : ℕ) (image : Bytes) (payloads : List Bytes)
    (standing : Standing) : Type 0 where
  pub first : Standing
  pub events : List Event
  pub sound : IsStandingIn version first
  pub image_is : image ≡ image_spelling_in version pair first
  pub payloads_are : payloads ≡ map (event_spelling_in version) events
  pub allowed : AllAllowedIn version first events
  pub last : standing ≡ fold standing_after first events

abbrev pub Gives : ℕ → Bytes → List Bytes → Standing → Type 0
Gives pair image payloads standing = GivesIn current_version pair image payloads standing

-- an image and payloads stand for a history
pub record StandsForIn (version : Version) (pair : ℕ) (image : Bytes) (payloads : List Bytes)
    (history : History) : Type 0 where
  pub lawful : IsHistory history
  pub gives : GivesIn version pair image payloads (standing_of history)

abbrev pub StandsFor : ℕ → Bytes → List Bytes → History → Type 0
StandsFor pair image payloads history = StandsForIn current_version pair image payloads history
