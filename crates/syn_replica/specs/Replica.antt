-- What a replica shows, and what it stands for.
use Rattle.std.specs.Prelude.{◌≡◌, ◌⊎◌, ◌+◌, ◌-◌, ◌++◌, ◌∷◌, [], List, ℕ, Option, option_map}
use Rattle.syn_disk.specs.declared.disk.Disk.{Ghosts}
use Rattle.syn_journal.specs.Journal as journal
use Rattle.syn_journal.specs.declared.journal.Journal.{Journal}
use Rattle.syn_journal.specs.Layout.{Value, HasJournal, bytes_left}
use Rattle.syn_journal.specs.Journaled as journaled
use Rattle.syn_model.specs.Tree.{Tree}
use Rattle.syn_model.specs.Standing.{Standing}
use Rattle.syn_model.specs.History.{History, IsHistory, standing_of}
use Rattle.syn_model.specs.Path.{Bytes}
use Rattle.syn_model.specs.Event.{Event}
use Rattle.syn_model.specs.Image.{StandsFor}
use Rattle.syn_replica.specs.Disks.{DiskKeeps, DiskCompacted, event_size}
use Rattle.syn_replica.specs.declared.replica.Replica.{Replica}

module _ {D : Type 0} {disk : Ghosts D} (replica : Replica D disk) where
  abbrev pub pair_of : ℕ
  pair_of = (journaled.state_of replica.journaled).pair

  -- what it has in memory: the tree, the position, the touches with their floor, and the fences
  abbrev pub standing_shown : Standing
  standing_shown = (journaled.state_of replica.journaled).standing

  abbrev pub tree_shown : Tree
  tree_shown = standing_shown.tree

  abbrev pub position_shown : ℕ
  position_shown = standing_shown.position

  abbrev pub journal_of : Journal D disk
  journal_of = journaled.journal_of replica.journaled

  abbrev pub disk_of : D
  disk_of = journal.disk_of journal_of

  -- how many bytes of its journal are left for records
  abbrev pub left_shown : ℕ
  left_shown = journal.left_of journal_of

  -- the length of the longest payload that its journal still takes
  abbrev pub room_shown : ℕ
  room_shown = journal.room_of journal_of

  abbrev pub generation_shown : ℕ
  generation_shown = journal.generation_of journal_of

  -- the spelling of the event that was last sent to the disk since it was opened
  abbrev pub tried_shown : Option Bytes
  tried_shown = option_map (λ spelled. spelled.items) replica.tried

  -- a device call failed, and the replica was not opened again since
  abbrev pub IsHalted : Type 0
  IsHalted = journal.IsHalted journal_of

-- what it has in memory is what is kept of the history
pub record Remembers {D : Type 0} {disk : Ghosts D} (replica : Replica D disk) (history : History)
    : Type 0 where
  pub lawful : IsHistory history
  pub standing : standing_shown replica ≡ standing_of history

-- and so is its disk, whatever stop comes
pub record Stands {D : Type 0} {disk : Ghosts D} (replica : Replica D disk) (history : History)
    : Type 0 where
  pub remembers : Remembers replica history
  pub value : Value
  pub runs : journal.Stands (journal_of replica) value
  pub means : StandsFor (pair_of replica) value.image value.payloads history

-- What a stop leaves while the record of an event is written: the history with the bytes that were
-- left, or that with the event and as many bytes less as its record takes
abbrev pub KeepsBeforeOrAfter : {D : Type 0} → {disk : Ghosts D} → Replica D disk → History →
    Event → List ℕ → Type 0
KeepsBeforeOrAfter replica history event bytes =
    let left = left_shown replica in let generation = generation_shown replica in
    DiskKeeps (pair_of replica) history left generation bytes
    ⊎ DiskKeeps (pair_of replica) (history ++ event ∷ []) (left - event_size event) generation bytes

-- What a stop leaves during a checkpoint: the history as it was kept, or by its image alone with
-- the next generation
abbrev pub KeepsOrCompacts : {D : Type 0} → {disk : Ghosts D} → Replica D disk → History → List ℕ →
    Type 0
KeepsOrCompacts replica history bytes =
    DiskKeeps (pair_of replica) history (left_shown replica) (generation_shown replica) bytes
    ⊎ DiskCompacted (pair_of replica) history (standing_shown replica)
    (generation_shown replica + 1) bytes

-- its journal has the record of the event, and is else as it was
pub record HasRecord {D : Type 0} {disk : Ghosts D} (old new : Replica D disk)
    (event : Event) : Type 0 where
  pub pair : pair_of new ≡ pair_of old
  pub left_is : left_shown new ≡ left_shown old - event_size event
  pub generation : generation_shown new ≡ generation_shown old

-- what it has in memory stays
pub record SameMemory {D : Type 0} {disk : Ghosts D} (old new : Replica D disk) : Type 0 where
  pub pair : pair_of new ≡ pair_of old
  pub standing : standing_shown new ≡ standing_shown old

-- and so do the readings of its journal
pub record KeepsReadings {D : Type 0} {disk : Ghosts D} (old new : Replica D disk) : Type 0 where
  pub memory : SameMemory old new
  pub left_is : left_shown new ≡ left_shown old
  pub generation : generation_shown new ≡ generation_shown old

-- its journal shows what its disk has
pub record ShowsDisk {D : Type 0} {disk : Ghosts D} (replica : Replica D disk) : Type 0 where
  pub value : Value
  pub journal : HasJournal (disk.seen (disk_of replica)) value (generation_shown replica)
  pub left_is : bytes_left value ≡ left_shown replica
