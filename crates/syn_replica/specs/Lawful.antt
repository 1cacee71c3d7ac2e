-- What a lawful disk is not refused for.
use Rattle.std.specs.Prelude.{◌≡◌, ◌⊎◌, ◌<◌, ◌^◌, ℕ, List, Some}
use Rattle.syn_model.specs.History.{History}
use Rattle.syn_model.specs.Refusal.{Device, Memory}
use Rattle.syn_replica.specs.Disks.{DiskStands, IsOpenRefusal}
use Rattle.syn_replica.specs.ErrorRefusals.{refusal_of}
use Rattle.syn_replica.specs.declared.error.ReplicaError.{ReplicaError}

-- An opening of a disk that stands for a history of the wanted pair is refused where a device call
-- fails, or for lack of memory
abbrev pub LawfulDisksOpen : Type 0
LawfulDisksOpen = (pair : ℕ) (bytes : List ℕ) (history : History) (error : ReplicaError)
    → pair < 2 ^ 64 → DiskStands pair bytes history → IsOpenRefusal error (Some pair) bytes
    → (refusal_of error ≡ Device) ⊎ (refusal_of error ≡ Memory)
