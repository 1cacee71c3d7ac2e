-- Why a disk tells no events: what its bytes are not.
use Rattle.std.specs.Prelude.{◌≢◌, ◌≤◌, ◌+◌, ℕ, List, length, map, Contains}
use Rattle.std.specs.List.{AllByRecursion}
use Rattle.syn_model.specs.Event.{Event}
use Rattle.syn_model.specs.Limits.{greatest}
use Rattle.syn_model.specs.Path.{Bytes}
use Rattle.syn_model.specs.Spelling.{event_spelling}
use Rattle.syn_model.specs.Standing.{Touch}
use Rattle.syn_replica.specs.declared.error.ReplicaError.{ReplicaError}
use Rattle.syn_replica.specs.declared.error.ReplicaError.TheVariants.{Damaged, Memory}
use Rattle.syn_wire.specs.Events.{IsSpelledEvent}

-- memory is refused, or what was read is damaged, of which this is the cause
abbrev pub IsReadRefusal : ReplicaError → Type 0 → Type 0
IsReadRefusal Memory damage = Unit {0}
IsReadRefusal Damaged damage = damage
IsReadRefusal _ damage = ⊥

-- a touch has the greatest position, so that there is none with its event
abbrev pub HasGreatest : List Touch → Type 0
HasGreatest touches = (touch : Touch) × Contains touches touch × (greatest ≤ touch.position)

-- they spell no events that have positions after the first
abbrev pub AreNoEvents : ℕ → List Bytes → Type 0
AreNoEvents first payloads = (events : List Event) → AllByRecursion IsSpelledEvent events
    → first + length events ≤ greatest → payloads ≢ map event_spelling events
