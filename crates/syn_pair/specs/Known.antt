-- How what is known of both sides is spelled.
use Rattle.std.specs.Prelude.{◌++◌, [], ◌∷◌, Option}
use Rattle.std.specs.Option.{option_map}
use Rattle.syn_history.specs.Status.{Status, identity_of, status_of}
use Rattle.syn_message.specs.Statuses.{stated_spelling}
use Rattle.syn_model.specs.Path.{Bytes}
use Rattle.syn_pair.specs.declared.side.KnownSides.{KnownSides}
use Rattle.syn_pair.specs.declared.side.SideStatus.{SideStatus}

-- what a side states
abbrev pub Stated : Type 0
Stated = Option Bytes × Status

abbrev pub stated_of : SideStatus → Stated
stated_of told = (option_map identity_of told.identity, status_of told.status)

abbrev pub known_of : KnownSides → Stated × Stated
known_of known = (stated_of known.left, stated_of known.right)

-- "SYNK" and the version, and then what each side states
abbrev pub known_spelling : Stated × Stated → Bytes
known_spelling known =
    (0x53 ∷ 0x59 ∷ 0x4e ∷ 0x4b ∷ 1 ∷ []) ++ (stated_spelling known.0 ++ stated_spelling known.1)
