-- The image of a replica, part by part.
use Rattle.std.specs.Prelude.{ℕ, ◌<◌, ◌^◌, ◌++◌, List, length, flat_map, All, Option, IfSome}
use Rattle.std.specs.Int.{to_be_bytes, w16}
use Rattle.syn_model.specs.Path.{Bytes, IsPath}
use Rattle.syn_model.specs.Event.{Token, IsLawfulToken}
use Rattle.syn_model.specs.Standing.{Touch, Standing}
use Rattle.syn_model.specs.Version.{Version}
use Rattle.syn_model.specs.Image.{IsStandingIn, image_spelling_in, touch_spelling}
use Rattle.syn_history.specs.Past.{standing_with}
use Rattle.syn_wire.specs.Reads.{NoneBeginsAnother}
use Rattle.syn_image.specs.declared.image.ReplicaImage.{ReplicaImage}

-- a pair with what its image keeps
abbrev pub image_of : ReplicaImage → ℕ × Standing
image_of image = (image.pair, standing_with image.tree image.trail)

abbrev pub IsImage : Version → ℕ × Standing → Type 0
IsImage version image = (image.0 < 2 ^ 64) × IsStandingIn version image.1

abbrev pub spelled_image : Version → ℕ × Standing → Bytes
spelled_image version image = image_spelling_in version image.0 image.1

-- in no version does the spelling of an image begin that of another
abbrev pub NoImageBeginsAnother : Type 0
NoImageBeginsAnother = (version : Version) → NoneBeginsAnother (IsImage version)
    (spelled_image version)

abbrev pub IsLastToken : Option Token → Type 0
IsLastToken token = IfSome token IsLawfulToken

abbrev pub IsTouch : Touch → Type 0
IsTouch touch = (touch.position < 2 ^ 64) × IsPath touch.path

-- touches whose number two bytes spell
pub record AreTouches (touches : List Touch) : Type 0 where
  pub count : length touches < 2 ^ 16
  pub each : All IsTouch touches

abbrev pub touches_spelling : List Touch → Bytes
touches_spelling touches = to_be_bytes w16 (length touches) ++ flat_map touch_spelling touches
