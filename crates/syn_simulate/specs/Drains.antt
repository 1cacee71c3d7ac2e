-- What draining is.
use Rattle.std.specs.Prelude.{◌≡◌, ◌<◌, ◌≤◌, ℕ, true, false, List, [], ◌∷◌, length}
use Rattle.std.specs.Prelude.{Option, Some, None}
use Rattle.syn_runs.specs.World.{Step, Deliver}
use Rattle.syn_simulate.specs.States.{Goes, State}
use Rattle.syn_simulate.specs.declared.player.TheConstants.{MOST_DRAINED}

-- the message with this number was sent and not delivered yet, and each lower one was delivered
pub record IsLowest (state : State) (number : ℕ) : Type 0 where
  pub sent : number < length state.world.sent
  pub undelivered : state.delivered number ≡ false
  pub below : (lower : ℕ) → lower < number → state.delivered lower ≡ true

-- each message that was sent was delivered
abbrev pub NoneIsLeft : State → Type 0
NoneIsLeft state =
    (number : ℕ) → number < length state.world.sent → state.delivered number ≡ true

-- the lowest that is left, or none is
abbrev pub IsNextLeft : State → Option ℕ → Type 0
IsNextLeft state None = NoneIsLeft state
IsNextLeft state (Some number) = IsLowest state number

-- these steps deliver one message after another, each time the lowest that is left
abbrev pub DeliversLowest : State → List Step → State → Type 0
DeliversLowest old [] new = new ≡ old
DeliversLowest old (step ∷ steps) new = (number : ℕ) × (between : State)
    × (step ≡ Deliver number) × IsLowest old number × Goes old step between
    × DeliversLowest between steps new

-- so do these, until none is left, or as many were delivered as may be
pub record Drains (old : State) (steps : List Step) (new : State) : Type 0 where
  pub lowest : DeliversLowest old steps new
  pub most : length steps ≤ MOST_DRAINED
  pub ends : length steps < MOST_DRAINED → NoneIsLeft new
