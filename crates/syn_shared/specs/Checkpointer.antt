-- What a checkpointer sees of a shared replica, and what it then does.
use Rattle.std.specs.Prelude.{◌≡◌, ◌≤◌, ◌<◌, ◌↔◌, ℕ, IsTrue, Result, MatchOption}
use Rattle.syn_disk.specs.declared.disk.Disk.{Ghosts}
use Rattle.syn_lock.specs.declared.own.Pass.{Pass}
use Rattle.syn_replica.specs.Replica.{IsHalted, room_shown}
use Rattle.syn_replica.specs.declared.replica.Replica.{Replica}
use Rattle.syn_shared.specs.declared.checkpointer.UpkeepStep.{UpkeepStep}
use Rattle.syn_shared.specs.declared.checkpointer.UpkeepStep.TheVariants as step
use Rattle.syn_shared.specs.declared.checkpointer.JournalHealth.{JournalHealth}
use Rattle.syn_shared.specs.Refusals.{answer_in}
use Rattle.syn_shared.specs.Shared.{FoundBusy, HeldOnce}
use Rattle.syn_shared.specs.Upkeep.{Checkpoints, Reopens}
use Rattle.syn_shared.specs.declared.error.SharedError.{SharedError}
use Rattle.syn_shared.specs.declared.shared.SharedReplica.{SharedReplica}

module _ {D : Type 0} {disk : Ghosts D} where
  -- it shows the replica found, which stays
  pub record ShowsHealth (health : JournalHealth) (found left : Replica D disk) : Type 0 where
    pub same : left ≡ found
    pub room : health.room ≡ room_shown found
    pub halted : IsTrue health.is_halted ↔ IsHalted found

  module _ (shared : SharedReplica D disk) (least : ℕ) (old new : Pass (Replica D disk)) where
    -- it found the lock taken; or it looked once, and rested where there was room; or it looked and
    -- made a checkpoint for lack of room, or reopened what was halted, each if the lock was free
    pub data KeepsUp : UpkeepStep → Type 0 where
      busy : FoundBusy old new → KeepsUp step.Busy
      rests : (health : JournalHealth) → HeldOnce shared old new (ShowsHealth health) →
          ¬ IsTrue health.is_halted → least ≤ health.room → KeepsUp step.Rested
      compacts : (health : JournalHealth) (middle : Pass (Replica D disk))
          (answer : Result Unit SharedError) → HeldOnce shared old middle (ShowsHealth health) →
          ¬ IsTrue health.is_halted → health.room < least →
          MatchOption (answer_in answer) (FoundBusy middle new)
          (λ made. HeldOnce shared middle new (Checkpoints made)) →
          KeepsUp (step.Checkpointed answer)
      reopens : (health : JournalHealth) (middle : Pass (Replica D disk))
          (answer : Result Unit SharedError) → HeldOnce shared old middle (ShowsHealth health) →
          IsTrue health.is_halted →
          MatchOption (answer_in answer) (FoundBusy middle new)
          (λ made. HeldOnce shared middle new (Reopens made)) →
          KeepsUp (step.Reopened answer)
