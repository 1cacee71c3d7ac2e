-- A world with what was delivered of its messages, and how it goes by steps.
use Rattle.std.specs.Prelude.{◌≡◌, ◌==◌, ◌||◌, ℕ, nat_lt, Bool, false, if◌then◌else◌, List, [], ◌∷◌}
use Rattle.std.specs.Prelude.{length}
use Rattle.syn_runs.specs.World.{World, Step, Steps, Deliver}

pub record State : Type 0 where
  pub world : World
  -- whether the message with a number was delivered already
  pub delivered : ℕ → Bool

-- none was delivered yet
abbrev pub fresh : World → State
fresh world = record { world = world; delivered = λ number. false }

-- what is delivered after a step; a number that was never sent is not
abbrev pub noted : State → Step → ℕ → Bool
noted old (Deliver number) = if nat_lt number (length old.world.sent)
    then (λ other. other == number || old.delivered other) else old.delivered
noted old step = old.delivered

-- a step of the world, with what it delivers
pub record Goes (old : State) (step : Step) (new : State) : Type 0 where
  pub steps : Steps old.world step new.world
  pub delivered : new.delivered ≡ noted old step

-- a list of steps, one after another
abbrev pub Moves : State → List Step → State → Type 0
Moves old [] new = new ≡ old
Moves old (step ∷ steps) new =
    (between : State) × Goes old step between × Moves between steps new
