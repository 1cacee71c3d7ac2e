-- What the checkpoint and the reopening of one thread answer and leave.
use Rattle.std.specs.Prelude.{◌≡◌, ◌⊎◌, ◌+◌, ◌^◌, ◌<◌, ◌≤◌, ℕ, [], ◌∷◌, ◌++◌, length}
use Rattle.std.specs.Prelude.{Result, Err, IfErr, OnOk, MatchResult}
use Rattle.syn_agent.specs.Machines.{IsOf}
use Rattle.syn_agent.specs.declared.agent.Agent.{Agent}
use Rattle.syn_disk.specs.Stops.{LeavesOnly}
use Rattle.syn_disk.specs.declared.disk.Disk.{Ghosts}
use Rattle.syn_machine.specs.SideMachine.{SideMachine}
use Rattle.syn_journal.specs.Layout.{longest_image}
use Rattle.syn_journal.specs.declared.error.JournalError.TheVariants as journal_error
use Rattle.syn_journal.specs.Endings.{ended}
use Rattle.syn_model.specs.Event.{Event}
use Rattle.syn_model.specs.History.{History}
use Rattle.syn_model.specs.Image.{image_spelling}
use Rattle.syn_model.specs.Refusal.{Device, Full}
use Rattle.syn_replica.specs.Calls as replica
use Rattle.syn_replica.specs.Calls.{Compacts}
use Rattle.syn_replica.specs.Disks.{DiskGives, DiskStands, IsReopenRefusal}
use Rattle.syn_replica.specs.Growth.{KeepsUp, WithTried}
use Rattle.syn_replica.specs.ErrorRefusals.{refusal_of}
use Rattle.syn_replica.specs.Refusals.{IsOneOf, checkpoint_refusals, outside_refusals}
use Rattle.syn_replica.specs.Replica.{pair_of, standing_shown, position_shown, disk_of}
use Rattle.syn_replica.specs.Replica.{generation_shown, tried_shown, IsHalted, Stands}
use Rattle.syn_replica.specs.Replica.{KeepsBeforeOrAfter, KeepsOrCompacts}
use Rattle.syn_replica.specs.declared.error.ReplicaError.{ReplicaError}
use Rattle.syn_replica.specs.declared.error.ReplicaError.TheVariants.{Journal}
use Rattle.syn_replica.specs.declared.replica.Replica.{Replica}
use Rattle.syn_shared.specs.Machines.{CompactsSide, ReopensSide}

module _ {D : Type 0} {disk : Ghosts D} (answer : Result Unit ReplicaError)
    (found left : Replica D disk) where
  -- a checkpoint of a side: the same history, by its image alone
  pub record Checkpoints : Type 0 where
    -- the world's checkpoint of the machine that the replica is
    pub world : (pair : ℕ) (agent : Agent) (machine : SideMachine)
        → IsOf pair found agent machine → CompactsSide pair left agent machine answer
    pub acknowledged : (history : History) → Stands found history
        → OnOk answer (Stands left history)
    -- a stop finds the history as it was kept, or by its image
    pub any_moment : (history : History) → Stands found history
        → LeavesOnly disk.moment disk.left_since (disk_of found) (disk_of left)
        (KeepsOrCompacts found history)
    -- refused
    pub cause : IfErr answer (λ e. refusal_of e ≡ Full
        → (generation_shown found + 1 ≡ 2 ^ 64)
        ⊎ (longest_image < length (image_spelling (pair_of found) (standing_shown found))))
    pub full : (history : History) → Stands found history → IfErr answer
        (λ e. refusal_of e ≡ Full → generation_shown found + 1 ≡ 2 ^ 64)
    pub first : generation_shown found + 1 ≡ 2 ^ 64 → ¬ IsHalted found
        → answer ≡ Err (Journal journal_error.Full)
    pub refusals : IfErr answer (IsOneOf checkpoint_refusals)
    -- what it made of the replica, and what its device was asked
    pub machine : Compacts found left (ended refusal_of answer)

  -- a reopening of a side: what its disk stands for
  pub record Reopens : Type 0 where
    -- the world's opening of the machine that the replica is
    pub world : (pair : ℕ) (agent : Agent) (machine : SideMachine)
        → IsOf pair found agent machine → ReopensSide pair left agent machine answer
    pub given : OnOk answer
        (DiskGives (pair_of left) (disk.seen (disk_of found)) (standing_shown left))
    pub each : OnOk answer ((history : History)
        → DiskStands (pair_of left) (disk.seen (disk_of found)) history → Stands left history)
    -- the history before the call that was refused 9, or with the event that was tried
    pub before_or_after : (history : History) (event : Event)
        → KeepsBeforeOrAfter found history event (disk.seen (disk_of found))
        → OnOk answer (Stands left history ⊎ Stands left (history ++ event ∷ []))
    pub keeps_up : (history : History) → KeepsUp found history → MatchResult answer
        (λ _. WithTried (Stands left) (tried_shown found) history)
        (IsOneOf outside_refusals)
    pub lawful : (history : History)
        → DiskStands (pair_of found) (disk.seen (disk_of found)) history
        → position_shown found ≤ length history → IfErr answer (IsOneOf outside_refusals)
    -- refused
    pub refusals : IfErr answer (λ e. IsReopenRefusal e (pair_of found) (position_shown found)
        (disk.seen (disk_of found)))
    pub unchanged : (history : History) → Stands found history
        → IfErr answer (λ e. (refusal_of e ≡ Device) ⊎ Stands left history)
    -- what it made of the replica, and what its device was asked
    pub machine : replica.Reopens found left (ended refusal_of answer)
