-- What a run of the picture is asked for: it does that, and nothing that no step asks for.
use Rattle.std.specs.Prelude.{ℕ, ◌≡◌, List, [], ◌∷◌, ◌++◌, Option, IfSome, IsSomeAnd, All, Contains}
use Rattle.syn_model.specs.Refusal.{Refusal}
use Rattle.syn_model.specs.Event.{Edit, Event, Edited, Began, Replaced}
use Rattle.syn_machine.specs.Machine.{Up}
use Rattle.syn_machine.specs.Network.{Which}
use Rattle.syn_runs.specs.World.{Step, Edits, Start}
use Rattle.syn_runs.specs.Acknowledged.{Ack, Happened, Kept_by, Stores}
use Rattle.syn_runs.specs.Picture.{Picture, Follows, side_of}
use Rattle.syn_runs.specs.Headline.{IsRunFrom}

-- a user's event is that of a step
abbrev pub IsAskedEvent : List Step → Which → Event → Type 0
IsAskedEvent steps side (Edited user edit) = Contains steps (Edits side user edit)
IsAskedEvent steps side (Began session) = Unit {0}
IsAskedEvent steps side (Replaced token path since new) = Unit {0}

abbrev pub IsAsked : List Step → Ack → Type 0
IsAsked steps (Happened side event) = IsAskedEvent steps side event
IsAsked steps (Kept_by kept) = Unit {0}

-- each edit that a side acknowledges, and one that it was making as it stopped or its device
-- failed, is that of a step
abbrev pub EditsAreAsked : Type 0
EditsAreAsked = (before : Stores) (steps : List Step) (told : List Refusal) (world : Picture) →
    IsRunFrom before steps told world → All (IsAsked steps) world.acknowledged
    × ((side : Which) → IfSome (side_of world side).writing (IsAskedEvent steps side))

-- each session that makes its plan, and one that runs, prefers what a start among the steps asks
-- for
abbrev pub PreferencesAreAsked : Type 0
PreferencesAreAsked = (before : Stores) (steps : List Step) (told : List Refusal)
    (world : Picture) → IsRunFrom before steps told world →
    All (λ made. Contains steps (Start made.preference)) world.log
    × IfSome world.coordinator.running (λ running. Contains steps (Start running.preference))

-- an edit that is refused for nothing, and leaves its side up, is made
abbrev pub EditsAreMade : Type 0
EditsAreMade = (old new : Picture) (side : Which) (user : ℕ) (edit : Edit) →
    Follows old new (Edits side user edit) [] → (side_of new side).status ≡ Up →
    new.acknowledged ≡ old.acknowledged ++ Happened side (Edited user edit) ∷ []

-- and so is a start
abbrev pub StartsAreMade : Type 0
StartsAreMade = (old new : Picture) (preference : Option Which) →
    Follows old new (Start preference) [] → new.coordinator.status ≡ Up →
    IsSomeAnd new.coordinator.running (λ running. running.preference ≡ preference)
