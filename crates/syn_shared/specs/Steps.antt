-- One step of a replica by an event, in the form of a side's step: it adds the event and writes it,
-- or answers and adds nothing.
use Rattle.std.specs.Prelude.{◌≡◌, ◌⊎◌, ◌+◌, ◌<◌, ℕ, [], ◌∷◌, ◌++◌, length, Option, Some}
use Rattle.std.specs.Prelude.{Result, Ok, Err}
use Rattle.syn_disk.specs.Calls.{Makes, Breaks}
use Rattle.syn_disk.specs.declared.disk.Disk.{Ghosts}
use Rattle.syn_model.specs.Event.{Event}
use Rattle.syn_model.specs.History.{History}
use Rattle.syn_model.specs.Refusal.{Refusal, Device, Memory}
use Rattle.syn_replica.specs.Growth.{IsCutOff}
use Rattle.syn_replica.specs.ErrorRefusals.{refusal_of}
use Rattle.syn_replica.specs.Replica.{disk_of, Stands, KeepsReadings, HasRecord}
use Rattle.syn_replica.specs.declared.error.ReplicaError.{ReplicaError}
use Rattle.syn_replica.specs.declared.replica.Replica.{Replica}

-- The event is added by four device calls, and stands; or one of them failed as it was written, and
-- the replica is cut off there; or it is refused for its first cause, or for lack of memory,
-- without a device call, and the history stands
pub data StepsBy {D : Type 0} {disk : Ghosts D} (found left : Replica D disk) (history : History)
    (event : Event) (cause : Option Refusal) : Result ℕ ReplicaError → Type 0 where
  adds : Stands left (history ++ event ∷ []) → HasRecord found left event →
      Makes 4 (disk.arms (disk_of found)) (disk.arms (disk_of left)) →
      disk.failures (disk_of left) ≡ disk.failures (disk_of found) →
      StepsBy found left history event cause (Ok (length history + 1))
  breaks : (e : ReplicaError) → refusal_of e ≡ Device → IsCutOff left history →
      KeepsReadings found left →
      Breaks 4 (disk.arms (disk_of found)) (disk.arms (disk_of left)) →
      disk.failures (disk_of found) < disk.failures (disk_of left) →
      StepsBy found left history event cause (Err e)
  refuses : (e : ReplicaError) → (refusal_of e ≡ Memory) ⊎ (cause ≡ Some (refusal_of e)) →
      Stands left history → disk.arms (disk_of left) ≡ disk.arms (disk_of found) →
      disk.failures (disk_of left) ≡ disk.failures (disk_of found) →
      StepsBy found left history event cause (Err e)
