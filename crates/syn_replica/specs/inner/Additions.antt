-- Why an event is not added to what is kept in memory.
use Rattle.std.specs.Prelude.{◌≡◌, ℕ, true, false, ◌++◌, List, [], ◌∷◌, Option}
use Rattle.syn_model.specs.Event.{Token, Event}
use Rattle.syn_model.specs.Limits.{fits_part, fits_paths}
use Rattle.syn_model.specs.Refusal.{Refusal, first_cause}
use Rattle.syn_model.specs.Refusal as why
use Rattle.syn_model.specs.Path.{Bytes}
use Rattle.syn_model.specs.Spelling.{event_spelling}
use Rattle.syn_model.specs.Standing.{IsAllowedAt, Standing, causes_at, is_old}
use Rattle.syn_model.specs.Tree.{Tree}
use Rattle.syn_replica.specs.Updates.{IsOf}
use Rattle.syn_replica.specs.declared.standing.Update.{Update}
use Rattle.syn_replica.specs.Steps.{is_done_at, room_causes}

-- why the event is not added there, with so much room in the journal
abbrev pub add_refusal_at : ℕ → Standing → Event → Option Refusal
add_refusal_at room standing event =
    first_cause (causes_at standing event ++ room_causes room event)

-- no cause stands but for the room, and this is the event's payload with its update
pub record Adds (standing : Standing) (event : Event) (payload : Bytes) (update : Update)
    : Type 0 where
  pub allowed : IsAllowedAt standing event
  pub spelled : payload ≡ event_spelling event
  pub gives : IsOf standing event update

-- What is known of a replacement before any memory is taken for its event: the token is neither
-- done nor old, and what is put has the limits of each file, directory and path.
pub record MayReplace (standing : Standing) (token : Token) (new : Tree) : Type 0 where
  pub not_done : is_done_at standing token ≡ false
  pub not_old : is_old standing.session standing.token token ≡ false
  pub brief : fits_part new ≡ true
  pub paths : fits_paths new ≡ true

-- and why it is refused there
abbrev pub checking_refusals : List Refusal
checking_refusals = why.Halted ∷ why.OldSession ∷ why.BelowFloor ∷ why.Touched ∷ why.Root
    ∷ why.NoParent ∷ why.Full ∷ []
