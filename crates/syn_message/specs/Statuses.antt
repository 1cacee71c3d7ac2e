-- Where a replica is in its history, as it is spelled to a user.
use Rattle.std.specs.Prelude.{◌≡◌, [], ◌∷◌, ◌++◌, length, Bool, true, false, IfSome, Option, Some}
use Rattle.std.specs.Prelude.{None}
use Rattle.std.specs.Int.{to_be_bytes, w64}
use Rattle.syn_history.specs.Status.{Status, IsLawfulStatus}
use Rattle.syn_history.specs.declared.status.TheConstants.{IDENTITY_LENGTH}
use Rattle.syn_model.specs.Event.{AreBytes}
use Rattle.syn_model.specs.Image.{last_token_spelling}
use Rattle.syn_model.specs.Path.{Bytes, Path, path_spelling}

-- what a disk is known by
abbrev pub IsIdentity : Bytes → Type 0
IsIdentity identity = (length identity ≡ IDENTITY_LENGTH) × AreBytes identity

-- nothing, or the identity
abbrev pub identity_spelling : Option Bytes → Bytes
identity_spelling None = 0 ∷ []
identity_spelling (Some identity) = 1 ∷ identity

-- nothing, or the path of the touch
abbrev pub touched_spelling : Option Path → Bytes
touched_spelling None = 0 ∷ []
touched_spelling (Some path) = 1 ∷ path_spelling path

abbrev pub halted_spelling : Bool → Bytes
halted_spelling true = 1 ∷ []
halted_spelling false = 0 ∷ []

abbrev pub status_spelling : Status → Bytes
status_spelling status =
    to_be_bytes w64 status.pair
    ++ (to_be_bytes w64 status.position
    ++ (to_be_bytes w64 status.floor
    ++ (to_be_bytes w64 status.session
    ++ (last_token_spelling status.token
    ++ (to_be_bytes w64 status.place
    ++ (touched_spelling status.touch ++ halted_spelling status.halted))))))

-- an identity and a status
abbrev pub stated_spelling : Option Bytes × Status → Bytes
stated_spelling stated = identity_spelling stated.0 ++ status_spelling stated.1

abbrev pub IsStated : Option Bytes × Status → Type 0
IsStated stated = IfSome stated.0 IsIdentity × IsLawfulStatus stated.1
