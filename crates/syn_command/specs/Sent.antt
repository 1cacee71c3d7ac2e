-- What an import asks of a server.
use Rattle.std.specs.Prelude.{◌≡◌, ◌≢◌, ◌+◌, ◌++◌, ℕ, List, [], ◌∷◌, length}
use Rattle.syn_command.specs.declared.error.CommandError.{CommandError}
use Rattle.syn_command.specs.declared.error.CommandError.TheVariants.{Memory, Refused, User}
use Rattle.syn_message.specs.UserReplies.{Edited}
use Rattle.syn_message.specs.Users.{Edits}
use Rattle.syn_model.specs.Event.{Edit}
use Rattle.syn_refusal.specs.declared.refusal.Refusal.TheVariants.{Touched}
use Rattle.syn_user.specs.Exchanges.{Fails, IsTold}
use Rattle.syn_user.specs.States.{ConnectionState}
use Rattle.syn_user.specs.declared.error.UserError.{UserError}

-- the edits of the user were asked for one after another, and each was answered with the position
-- after the one before it
abbrev pub AreMadeInTurn : ℕ → ConnectionState → ℕ → List Edit → ConnectionState → Type 0
AreMadeInTurn user old position [] new = new ≡ old
AreMadeInTurn user old position (edit ∷ more) new = (between : ConnectionState)
    × IsTold old between (Edits user edit) (Edited (position + 1))
    × AreMadeInTurn user between (position + 1) more new

-- Why the edit was not made next after the position. It was not asked for, for lack of memory; it
-- failed, by the server's refusal or with the connection; or it was answered with another position.
pub data StopsAt (user : ℕ) (old : ConnectionState) (position : ℕ) (edit : Edit)
    (new : ConnectionState) :
    CommandError → Type 0 where
  unasked : new ≡ old → StopsAt user old position edit new Memory
  failed : (error : UserError) → Fails old new (Edits user edit) error
      → StopsAt user old position edit new (User error)
  elsewhere : (made : ℕ) → made ≢ position + 1 → IsTold old new (Edits user edit) (Edited made)
      → StopsAt user old position edit new (Refused Touched)

-- some of the edits were made in turn, and the one after them was not made next, for this error;
-- nothing was asked for after it
pub record AreMadeInPart (user : ℕ) (old : ConnectionState) (position : ℕ) (edits : List Edit)
    (new : ConnectionState)
    (error : CommandError) : Type 0 where
  pub front : List Edit
  pub next : Edit
  pub others : List Edit
  pub are : edits ≡ front ++ next ∷ others
  pub between : ConnectionState
  pub made : AreMadeInTurn user old position front between
  pub stops : StopsAt user between (position + length front) next new error
