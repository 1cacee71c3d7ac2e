-- Whether a machine is on, as the steps and what they were refused tell.
use Rattle.std.specs.Prelude.{zero, suc, ◌≡◌, ◌⊎◌, Bool, true, false, if◌then◌else◌, List, []}
use Rattle.syn_model.specs.Refusal.{Refusal}
use Rattle.syn_machine.specs.Network.{is_side}
use Rattle.syn_runs.specs.World.{Machine, At, Coordinator, Step, Stop, Open}

-- it is on; it is on, and a stop of it is to come; or it is off
pub data Power : Type 0 where
  On : Power
  Stopping : Power
  Off : Power

abbrev pub is_machine : Machine → Machine → Bool
is_machine (At one) (At two) = is_side one two
is_machine Coordinator Coordinator = true
is_machine _ _ = false

-- a stop is armed at it
abbrev pub armed : Power → Power
armed Off = Off
armed _ = Stopping

abbrev pub opened : Power → Power
opened Off = On
opened power = power

-- what a step makes of a machine: a stop of it, at once or later, and its opening, which is not
-- refused
abbrev pub power_after : Machine → Step → List Refusal → Power → Power
power_after machine (Stop at zero) told power = if is_machine machine at then Off else power
power_after machine (Stop at (suc calls)) told power =
    if is_machine machine at then armed power else power
power_after machine (Open at) [] power = if is_machine machine at then opened power else power
power_after machine step told power = power

-- it is so after the step; or it was to stop, and did
abbrev pub Turns : Machine → Step → List Refusal → Power → Power → Type 0
Turns machine step told was now = (now ≡ power_after machine step told was)
    ⊎ ((was ≡ Stopping) × (now ≡ Off))
