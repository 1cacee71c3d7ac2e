-- How a replica goes on: no history that it keeps up with is lost or altered; events may follow.
use Rattle.std.specs.Prelude.{◌≡◌, ◌≤◌, ◌⊎◌, ◌++◌, ◌∷◌, ℕ, [], List, Option, Some}
use Rattle.syn_disk.specs.declared.disk.Disk.{Ghosts}
use Rattle.syn_model.specs.Event.{Event}
use Rattle.syn_model.specs.History.{History, AllAllowed}
use Rattle.syn_model.specs.Path.{Bytes}
use Rattle.syn_model.specs.Spelling.{event_spelling}
use Rattle.syn_replica.specs.Disks.{DiskStands}
use Rattle.syn_replica.specs.Replica.{pair_of, position_shown, disk_of, tried_shown, IsHalted}
use Rattle.syn_replica.specs.Replica.{Remembers, Stands}
use Rattle.syn_replica.specs.declared.replica.Replica.{Replica}

-- the history, or that with the event which these bytes spell, is one of which this holds
abbrev pub WithTried : (History → Type 0) → Option Bytes → History → Type 0
WithTried Is tried history = Is history
    ⊎ ((event : Event) × (tried ≡ Some (event_spelling event)) × Is (history ++ event ∷ []))

-- the disk stands for the history, or for that with the event which these bytes spell
abbrev pub StandsOrTried : ℕ → Option Bytes → List ℕ → History → Type 0
StandsOrTried pair tried bytes history = WithTried (DiskStands pair bytes) tried history

-- A device call failed as the replica stood for the history. Its disk has that, or that with the
-- event which was tried last
pub record IsCutOff {D : Type 0} {disk : Ghosts D} (replica : Replica D disk) (history : History)
    : Type 0 where
  pub halted : IsHalted replica
  pub remembers : Remembers replica history
  pub keeps : StandsOrTried (pair_of replica) (tried_shown replica) (disk.seen (disk_of replica))
      history

-- it stands for the history, or was cut off there
abbrev pub KeepsUp : {D : Type 0} → {disk : Ghosts D} → Replica D disk → History → Type 0
KeepsUp replica history = Stands replica history ⊎ IsCutOff replica history

-- it keeps up with the history and with events after it, each of which is allowed in turn
pub record GoesOn {D : Type 0} {disk : Ghosts D} (replica : Replica D disk) (history : History)
    : Type 0 where
  pub more : List Event
  pub allowed : AllAllowed history more
  pub keeps_up : KeepsUp replica (history ++ more)

-- each history that the old one keeps up with goes on in the new one
pub record KeepsAll {D : Type 0} {disk : Ghosts D} (old new : Replica D disk) : Type 0 where
  pub pair : pair_of new ≡ pair_of old
  pub position : position_shown old ≤ position_shown new
  pub each : (history : History) → KeepsUp old history → GoesOn new history

-- the new one is the old one, grown further
unfoldable pub IsGrown : {D : Type 0} → {disk : Ghosts D} → Replica D disk → Replica D disk →
    Type 0
IsGrown old new = KeepsAll old new
