-- What is read of a status, part by part.
use Rattle.std.specs.Prelude.{ℕ, Bool, Option, IfSome}
use Rattle.syn_history.specs.Status.{Status}
use Rattle.syn_message.specs.Statuses.{IsIdentity, halted_spelling, touched_spelling}
use Rattle.syn_model.specs.Event.{Token, IsLawfulToken}
use Rattle.syn_model.specs.Image.{last_token_spelling}
use Rattle.syn_model.specs.Path.{Bytes, Path, IsPath}
use Rattle.syn_wire.specs.Events.{Both, both_spelling, IsNumber64, number64_spelling}

abbrev pub IsAnyIdentity : Option Bytes → Type 0
IsAnyIdentity identity = IfSome identity IsIdentity

abbrev pub IsAnyToken : Option Token → Type 0
IsAnyToken token = IfSome token IsLawfulToken

abbrev pub IsAnyPath : Option Path → Type 0
IsAnyPath path = IfSome path IsPath

abbrev pub IsAnyFlag : Bool → Type 0
IsAnyFlag flag = Unit {0}

abbrev pub Two : Type 0
Two = ℕ × ℕ

abbrev pub AreTwo : Two → Type 0
AreTwo = Both IsNumber64 IsNumber64

abbrev pub two_spelling : Two → Bytes
two_spelling = both_spelling number64_spelling number64_spelling

-- the pair, the position, the floor and the session
abbrev pub AreFour : Two × Two → Type 0
AreFour = Both AreTwo AreTwo

abbrev pub four_spelling : Two × Two → Bytes
four_spelling = both_spelling two_spelling two_spelling

-- the token, and the place
abbrev pub AreTokenAndPlace : Option Token × ℕ → Type 0
AreTokenAndPlace = Both IsAnyToken IsNumber64

abbrev pub token_and_place : Option Token × ℕ → Bytes
token_and_place = both_spelling last_token_spelling number64_spelling

-- the touch, and whether the replica is halted
abbrev pub AreTouchAndHalted : Option Path × Bool → Type 0
AreTouchAndHalted = Both IsAnyPath IsAnyFlag

abbrev pub touch_and_halted : Option Path × Bool → Bytes
touch_and_halted = both_spelling touched_spelling halted_spelling

-- the parts of a status in a row
abbrev pub Later : Type 0
Later = (Option Token × ℕ) × (Option Path × Bool)

abbrev pub AreLater : Later → Type 0
AreLater = Both AreTokenAndPlace AreTouchAndHalted

abbrev pub later_spelling : Later → Bytes
later_spelling = both_spelling token_and_place touch_and_halted

abbrev pub AreParts : (Two × Two) × Later → Type 0
AreParts = Both AreFour AreLater

abbrev pub parts_spelling : (Two × Two) × Later → Bytes
parts_spelling = both_spelling four_spelling later_spelling

abbrev pub four_of : Status → Two × Two
four_of status = ((status.pair, status.position), (status.floor, status.session))

abbrev pub later_of : Status → Later
later_of status = ((status.token, status.place), (status.touch, status.halted))

abbrev pub parts_of : Status → (Two × Two) × Later
parts_of status = (four_of status, later_of status)
