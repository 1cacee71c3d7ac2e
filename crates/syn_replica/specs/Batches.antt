-- Many edits that a replica makes at once.
use Rattle.std.specs.Prelude.{◌≡◌, ◌⊎◌, ◌+◌, ◌-◌, ◌++◌, ◌∷◌, [], ℕ, List, Option, Some, None}
use Rattle.syn_disk.specs.declared.disk.Disk.{Ghosts}
use Rattle.syn_model.specs.Event.{Event}
use Rattle.syn_model.specs.History.{History}
use Rattle.syn_model.specs.Refusal.{Refusal}
use Rattle.syn_replica.specs.Disks.{DiskKeeps, event_size}
use Rattle.syn_replica.specs.Replica.{generation_shown, left_shown, pair_of}
use Rattle.syn_replica.specs.Steps.{add_refusal}
use Rattle.syn_replica.specs.declared.replica.Replica.{Replica}

abbrev pub or_else : Option Refusal → Option Refusal → Option Refusal
or_else None other = other
or_else (Some why) other = Some why

-- why the first event is refused that is, each after those before it and with the room that they
-- leave
abbrev pub add_all_refusal : ℕ → History → List Event → Option Refusal
add_all_refusal room history [] = None
add_all_refusal room history (event ∷ events) =
    or_else (add_refusal room history event)
    (add_all_refusal (room - event_size event) (history ++ event ∷ []) events)

-- how many bytes the records of events take
abbrev pub events_size : List Event → ℕ
events_size [] = 0
events_size (event ∷ events) = event_size event + events_size events

-- What a stop leaves while the records of events are written: the history with the bytes that were
-- left, or that with all of the events and as many bytes less as their records take
abbrev pub KeepsNoneOrAll : {D : Type 0} → {disk : Ghosts D} → Replica D disk → History →
    List Event → List ℕ → Type 0
KeepsNoneOrAll replica history events bytes =
    let left = left_shown replica in let generation = generation_shown replica in
    DiskKeeps (pair_of replica) history left generation bytes
    ⊎ DiskKeeps (pair_of replica) (history ++ events) (left - events_size events) generation bytes

-- its journal has the records of the events, and is else as it was
pub record HasRecords {D : Type 0} {disk : Ghosts D} (old new : Replica D disk)
    (events : List Event) : Type 0 where
  pub pair : pair_of new ≡ pair_of old
  pub left_is : left_shown new ≡ left_shown old - events_size events
  pub generation : generation_shown new ≡ generation_shown old
