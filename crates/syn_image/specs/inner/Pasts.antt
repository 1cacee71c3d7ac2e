-- What stands in an image before the tree: four numbers, the last token, and the touches.
use Rattle.std.specs.Prelude.{ℕ, List, flat_map, Option}
use Rattle.syn_model.specs.Path.{Bytes}
use Rattle.syn_model.specs.Event.{Token}
use Rattle.syn_model.specs.Standing.{Touch}
use Rattle.syn_model.specs.Image.{last_token_spelling, touch_spelling}
use Rattle.std.specs.Option.{option_map}
use Rattle.syn_history.specs.Events.{token_of}
use Rattle.syn_history.specs.declared.trail.TrailParts.{TrailParts}
use Rattle.syn_wire.specs.Events.{Both, both_spelling, IsNumber64, number64_spelling}
use Rattle.syn_wire.specs.Reads.{AreSoMany}
use Rattle.syn_image.specs.Images.{IsLastToken, IsTouch, AreTouches, touches_spelling}

abbrev pub Two : Type 0
Two = ℕ × ℕ

abbrev pub AreTwo : Two → Type 0
AreTwo = Both IsNumber64 IsNumber64

abbrev pub two_spelling : Two → Bytes
two_spelling = both_spelling number64_spelling number64_spelling

abbrev pub AreFour : Two × Two → Type 0
AreFour = Both AreTwo AreTwo

abbrev pub four_spelling : Two × Two → Bytes
four_spelling = both_spelling two_spelling two_spelling

abbrev pub AreFences : (Two × Two) × Option Token → Type 0
AreFences = Both AreFour IsLastToken

abbrev pub fences_spelling : (Two × Two) × Option Token → Bytes
fences_spelling = both_spelling four_spelling last_token_spelling

abbrev pub IsPast : ((Two × Two) × Option Token) × List Touch → Type 0
IsPast = Both AreFences AreTouches

abbrev pub past_spelling : ((Two × Two) × Option Token) × List Touch → Bytes
past_spelling = both_spelling fences_spelling touches_spelling

-- what was read of a pair and a trail
abbrev pub past_read : ℕ × TrailParts → ((Two × Two) × Option Token) × List Touch
past_read found = (
  (
    ((found.0, found.1.position), (found.1.floor, found.1.session)),
    option_map token_of found.1.token,
  ),
  found.1.touches.items,
)

-- so many lawful touches
abbrev pub HasTouches : ℕ → List Touch → Type 0
HasTouches = AreSoMany IsTouch

abbrev pub each_spelling : List Touch → Bytes
each_spelling touches = flat_map touch_spelling touches
