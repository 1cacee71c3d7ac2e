-- What a call on a shared replica does within its hold of the lock.
use Rattle.std.specs.Prelude.{◌≡◌, ℕ, Option}
use Rattle.syn_disk.specs.declared.disk.Disk.{Ghosts}
use Rattle.syn_history.specs.declared.status.Identity.{Identity}
use Rattle.syn_lock.specs.History.{end_of}
use Rattle.syn_lock.specs.Locks.{id_of, origin_of}
use Rattle.syn_lock.specs.Passes.{view_of, IsPassOf}
use Rattle.syn_lock.specs.Views.{Held, refused, refused_times}
use Rattle.syn_lock.specs.declared.own.Own.{Own}
use Rattle.syn_lock.specs.declared.own.Pass.{Pass}
use Rattle.syn_replica.specs.Growth.{IsGrown}
use Rattle.syn_replica.specs.declared.replica.Replica.{Replica}
use Rattle.syn_shared.specs.declared.shared.SharedReplica.{SharedReplica}

module _ {D : Type 0} {disk : Ghosts D} where
  -- the lock that the replica lies under
  abbrev pub own_of : SharedReplica D disk → Own (Replica D disk)
  own_of shared = shared.own

  -- what its disk is known by
  abbrev pub identity_of : SharedReplica D disk → Option Identity
  identity_of shared = shared.identity

  -- the pass is of that lock, and has not entered it
  abbrev pub IsFor : SharedReplica D disk → Pass (Replica D disk) → Type 0
  IsFor shared pass = IsPassOf (id_of (own_of shared)) (origin_of (own_of shared)) pass

  -- The pass made one hold more of its own. It found the replica at the end of a lock history that
  -- begins with all that the pass had seen, and left it so
  abbrev pub HeldOnce : SharedReplica D disk → Pass (Replica D disk) → Pass (Replica D disk)
      → (Replica D disk → Replica D disk → Type 0) → Type 0
  HeldOnce shared old new change = Held IsGrown (origin_of (own_of shared)) (view_of old)
      (view_of new) change

  -- the same, after the lock was found taken any number of times
  abbrev pub HeldAfterWait : SharedReplica D disk → Pass (Replica D disk)
      → Pass (Replica D disk) → (Replica D disk → Replica D disk → Type 0) → Type 0
  HeldAfterWait shared old new change = (times : ℕ)
      × Held IsGrown (origin_of (own_of shared)) (refused_times (view_of old) times)
      (view_of new) change

  -- the pass's one exchange found the lock taken, and nothing else changed
  abbrev pub FoundBusy : Pass (Replica D disk) → Pass (Replica D disk) → Type 0
  FoundBusy old new = view_of new ≡ refused (view_of old)

-- the replica that the pass saw last is the one that it had seen before, grown further
pub record IsLater {D : Type 0} {disk : Ghosts D} (shared : SharedReplica D disk)
    (old new : Pass (Replica D disk)) : Type 0 where
  pub grown : IsGrown (end_of (origin_of (own_of shared)) (view_of old).seen)
      (end_of (origin_of (own_of shared)) (view_of new).seen)
