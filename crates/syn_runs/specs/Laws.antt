-- What follows from the definitions of a side's step, for the other crates to use.
use Rattle.std.specs.Prelude.{ℕ, ◌≤◌, ◌≡◌, ◌⊎◌, Bool, true, false, [], ◌∷◌, ◌++◌, length, Some}
use Rattle.std.specs.Prelude.{Option}
use Rattle.syn_model.specs.History.{History, IsHistory, IsAllowed, last_token, is_quiet}
use Rattle.std.specs.Option.{option_map_or}
use Rattle.syn_model.specs.Path.{Bytes, Path}
use Rattle.syn_model.specs.Tree.{Tree}
use Rattle.syn_model.specs.Refusal.{OldSession}
use Rattle.syn_model.specs.Event.{Token, is_same_token, Event, Replaced}
use Rattle.syn_machine.specs.Side.{Side, Served, Request, Fetch, Replace, Piece, Done, Refused}
use Rattle.syn_machine.specs.Side.{Serves, IsOutOfMemory, IsLawfulRequest, answer, token_of, Reads}
use Rattle.syn_machine.specs.Side.{is_dead_token, serve, staged_bytes}

-- a step of a side leaves its history, or adds one event that is allowed after it
abbrev pub AddsAllowed : History → History → Type 0
AddsAllowed old new = (new ≡ old)
    ⊎ ((event : Event) × IsAllowed old event × (new ≡ old ++ event ∷ []))

abbrev pub ServesAllowed : Type 0
ServesAllowed = (pair : ℕ) (has_room : Event → Bool) (side : Side) (session : ℕ) (request : Request)
    (served : Served) →
    IsLawfulRequest session request → Serves pair has_room side session request served →
    AddsAllowed side.history served.side.history

-- what is staged has at most one reading, and the step is the one by that
abbrev pub ServesByReading : Type 0
ServesByReading = (pair : ℕ) (has_room : Event → Bool) (side : Side) (session : ℕ)
    (request : Request) (served : Served) (read : Option Tree) →
    Reads (staged_bytes side.staging) read → Serves pair has_room side session request served →
    (served ≡ serve pair has_room read side session request) ⊎ IsOutOfMemory side served

-- a fetch is answered with a piece only where nothing touched the path from its position up to now
abbrev pub PiecesAreUntouched : Type 0
PiecesAreUntouched = (pair : ℕ) (has_room : Event → Bool) (side : Side) (session : ℕ) (path : Path)
    (since offset : ℕ) (served : Served)
    (total : ℕ) (bytes : Bytes) →
    Serves pair has_room side session (Fetch path since offset) served →
    served.reply ≡ Piece total bytes →
    (since ≤ length side.history) × (is_quiet side.history since (length side.history) path ≡ true)

-- a repeat of the last replacement is answered done, whatever was staged since, and never out of
-- memory
abbrev pub RepeatsAreDone : Type 0
RepeatsAreDone = (pair : ℕ) (has_room : Event → Bool) (side : Side) (session item : ℕ) (path : Path)
    (since size : ℕ) (served : Served) →
    last_token side.history ≡ Some (token_of session item) →
    Serves pair has_room side session (Replace item path since size) served →
    served ≡ answer side Done

-- and once there is a later token it is refused as old
abbrev pub LaterAreOld : Type 0
LaterAreOld = (pair : ℕ) (has_room : Event → Bool) (side : Side) (session item : ℕ) (path : Path)
    (since size : ℕ) (served : Served)
    (earlier later : History) (at : Path) (from : ℕ) (new : Tree) (last : Token) →
    IsHistory side.history →
    side.history ≡ earlier ++ Replaced (token_of session item) at from new ∷ later →
    last_token side.history ≡ Some last → is_same_token last (token_of session item) ≡ false →
    Serves pair has_room side session (Replace item path since size) served →
    served ≡ answer side (Refused OldSession)

-- so is what is dead otherwise: of a session that is not the one begun last, or below the last or
-- the staged token
abbrev pub DeadAreOld : Type 0
DeadAreOld = (pair : ℕ) (has_room : Event → Bool) (side : Side) (session item : ℕ) (path : Path)
    (since size : ℕ) (served : Served) →
    option_map_or (λ last. is_same_token last (token_of session item))
    (last_token side.history) false ≡ false →
    is_dead_token side (token_of session item) ≡ true →
    Serves pair has_room side session (Replace item path since size) served →
    served ≡ answer side (Refused OldSession)
