-- What a stop leaves of a replica while room is made, and many edits after it.
use Rattle.std.proofs.Common.{◌≡◌, ℕ, List, inl, inr, subst}
use Rattle.syn_disk.specs.Stops.{LeavesOnly}
use Rattle.syn_disk.specs.declared.disk.Disk.{Ghosts}
use Rattle.syn_journal.proofs.Moments.{in_turn, weakened}
use Rattle.syn_model.specs.History.{History}
use Rattle.syn_replica.proofs.StandLemmas.{keeps_now, keeps_stands, not_written}
use Rattle.syn_replica.specs.Batches.{KeepsNoneOrAll}
use Rattle.syn_replica.specs.Disks.{DiskStands}
use Rattle.syn_replica.specs.Replica.{KeepsOrCompacts, Stands, disk_of, pair_of}
use Rattle.syn_replica.specs.WithRoom.{NoneOrAll}
use Rattle.syn_replica.specs.declared.replica.Replica.{Replica}

module _ {D : Type 0} {disk : Ghosts D} where
  -- what a stop leaves from a replica to a disk
  abbrev pub Leaves : Replica D disk → D → (List ℕ → Type 0) → Type 0
  Leaves old new P = LeavesOnly disk.moment disk.left_since (disk_of old) new P

  -- nothing was written, so a stop leaves the history
  pub still : (only_now : (d : D) (c : List ℕ) → disk.left_since d (disk.moment d) c
      → disk.may_leave d c) (replica : Replica D disk) (history : History) → Stands replica history
      → Leaves replica (disk_of replica) (λ bytes. DiskStands (pair_of replica) bytes history)
  still only_now replica history stands =
      not_written only_now replica history stands
      (λ bytes. DiskStands (pair_of replica) bytes history)
      (keeps_stands (keeps_now replica history stands))

  -- a checkpoint leaves the history
  compacts : (replica : Replica D disk) (history : History) (bytes : List ℕ)
      → KeepsOrCompacts replica history bytes → DiskStands (pair_of replica) bytes history
  compacts replica history bytes (inl keeps) = keeps_stands keeps
  compacts replica history bytes (inr image) = record {
    value = _;
    means = image.journal.means;
    stands = image.stands;
  }

  pub compacted : (old : Replica D disk) (new : D) (history : History)
      → Leaves old new (KeepsOrCompacts old history)
      → Leaves old new (λ bytes. DiskStands (pair_of old) bytes history)
  compacted old new history leaves =
      weakened disk.moment disk.left_since (disk_of old) new (KeepsOrCompacts old history)
      (λ bytes. DiskStands (pair_of old) bytes history) (compacts old history) leaves

  -- before any edit
  pub none_yet : (old : Replica D disk) (new : D) (history events : History)
      → Leaves old new (λ bytes. DiskStands (pair_of old) bytes history)
      → Leaves old new (NoneOrAll (pair_of old) history events)
  none_yet old new history events leaves =
      weakened disk.moment disk.left_since (disk_of old) new
      (λ bytes. DiskStands (pair_of old) bytes history) (NoneOrAll (pair_of old) history events)
      (λ bytes stands. inl stands) leaves

  none_or_all : (replica : Replica D disk) (history events : History) (bytes : List ℕ)
      → KeepsNoneOrAll replica history events bytes
      → NoneOrAll (pair_of replica) history events bytes
  none_or_all replica history events bytes (inl keeps) = inl (keeps_stands keeps)
  none_or_all replica history events bytes (inr keeps) = inr (keeps_stands keeps)

  -- room is made, and then all edits or none
  pub made_in_turn : (old mid : Replica D disk) (new : D) (history events : History)
      → pair_of mid ≡ pair_of old
      → Leaves old (disk_of mid) (λ bytes. DiskStands (pair_of old) bytes history)
      → Leaves mid new (KeepsNoneOrAll mid history events)
      → Leaves old new (NoneOrAll (pair_of old) history events)
  made_in_turn old mid new history events pair room leaves =
      let P = NoneOrAll (pair_of old) history events in
      in_turn disk.moment disk.left_since (disk_of old) (disk_of mid) new P
      (none_yet old (disk_of mid) history events room)
      (weakened disk.moment disk.left_since (disk_of mid) new
      (KeepsNoneOrAll mid history events) P
      (λ bytes keeps. subst (λ n. NoneOrAll n history events bytes) pair
      (none_or_all mid history events bytes keeps)) leaves)
