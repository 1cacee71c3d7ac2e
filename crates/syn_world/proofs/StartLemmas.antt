-- What an opening of a disk gives that stands for something, with nothing armed at it.
use Rattle.std.proofs.Common.{◌≡◌, ◌∙◌, ◌<◌, ℕ, false, Option, Some, None, inl, inr, refl}
use Rattle.std.proofs.Common.{sym, ap, subst}
use Rattle.std.specs.Prelude.{◌^◌}
use Rattle.syn_agent.specs.Agents.{staging_of}
use Rattle.syn_agent.specs.Machines.{IsOf, IsUpAs}
use Rattle.syn_agent.specs.declared.agent.Agent.{Agent}
use Rattle.syn_archive.specs.Archive as archives
use Rattle.syn_archive.specs.Disks.{DiskKeeps, IsWanted}
use Rattle.syn_archive.specs.Disks as archive_disks
use Rattle.syn_archive.specs.declared.archive.Archive.{Archive}
use Rattle.syn_disk.specs.Calls.{MakesAtLeast}
use Rattle.syn_disk.specs.Stops.{Untouched}
use Rattle.syn_disk.specs.declared.disk.Disk.{Ghosts}
use Rattle.syn_machine.specs.Machine.{Up, Journaled, unarmed}
use Rattle.syn_machine.specs.SideMachine.{SideMachine}
use Rattle.syn_world.specs.Starts.{CanStart, StartsCoordinator, StartsSide}
use Rattle.syn_journal.specs.Calls.{IsFree}
use Rattle.syn_journal.specs.Layout.{Value, bytes_left}
use Rattle.syn_journal.specs.declared.error.JournalError.{JournalError}
use Rattle.syn_journal.specs.declared.error.JournalError.TheVariants as error
use Rattle.syn_model.specs.Archive.{Archive as KeptArchive}
use Rattle.syn_model.specs.History.{History}
use Rattle.syn_model.specs.Path.{Bytes}
use Rattle.syn_journal.specs.Calls.{StaysFree}
use Rattle.syn_archive.specs.Keepings.{of_archive}
use Rattle.syn_replica.specs.Keepings.{of_side}
use Rattle.syn_journal.specs.Meaning.{MayBeOf, MeansAsKept, as_kept}
use Rattle.syn_replica.specs.Disks.{DiskStands, IsOpenRefusal}
use Rattle.syn_replica.specs.Replica.{Stands, disk_of, pair_of}
use Rattle.syn_replica.specs.declared.error.ReplicaError.{ReplicaError}
use Rattle.syn_replica.specs.declared.error.ReplicaError.TheVariants.{WrongPair}
use Rattle.syn_replica.specs.declared.error.ReplicaError.TheVariants.{Journal as OfJournal}
use Rattle.syn_replica.specs.declared.replica.Replica.{Replica}
use Rattle.syn_coordinator.specs.Coordinators.{Stands as StandsAs}
use Rattle.syn_coordinator.specs.Machines.{IsMachine, Journal}
use Rattle.syn_coordinator.specs.declared.coordinator.Coordinator.{Coordinator}
use Rattle.syn_world.proofs.SideLemmas.{side_of}
use Rattle.syn_world.proofs.OpenLemmas.{knows}
use Rattle.syn_world.proofs.SideLemmas.{none_not_some}
use Rattle.syn_journal.proofs.DiskLemmas.{one_generation, one_value}

-- the journal of a machine that was just opened
abbrev opened_as : {V W : Type 0} → V → Value → ℕ → Journaled V W
opened_as kept value generation = record {
  status = Up;
  value = kept;
  room = bytes_left value;
  generation = generation;
  compacting = false;
  writing = None;
  arms = unarmed;
  failures = 0;
}

none_not : {X : Type 0} (x : X) → None ≡ Some x → ⊥
none_not x e = cc

-- a journal's refusal is the same, whatever pair is wanted
any_wanted : (e : JournalError) (wanted other : Option ℕ) (bytes : Bytes)
    → IsOpenRefusal (OfJournal e) wanted bytes → IsOpenRefusal (OfJournal e) other bytes
any_wanted error.Device wanted other bytes refusal = refusal
any_wanted error.Memory wanted other bytes refusal = refusal
any_wanted error.NoImage wanted other bytes refusal = refusal
any_wanted error.Damaged wanted other bytes refusal = refusal
any_wanted error.Full wanted other bytes refusal = refusal
any_wanted error.JournalFull wanted other bytes refusal = refusal
any_wanted error.Halted wanted other bytes refusal = refusal

-- no other pair is given where this one is wanted or any
pub as_wanted : (e : ReplicaError) (wanted : Option ℕ) (pair : ℕ) (bytes : Bytes)
    → IsWanted wanted pair → IsOpenRefusal e wanted bytes → IsOpenRefusal e (Some pair) bytes
as_wanted e wanted pair bytes (inr is) refusal =
    subst (λ w. IsOpenRefusal e w bytes) is refusal
as_wanted WrongPair wanted pair bytes (inl none) refusal =
    absurd (none_not refusal.other.asked (sym none ∙ refusal.other.wanted_is))
as_wanted (OfJournal e) wanted pair bytes (inl none) refusal =
    any_wanted e wanted (Some pair) bytes refusal
as_wanted e wanted pair bytes (inl none) refusal = refusal

module _ {D : Type 0} (disk : Ghosts D) (pair : ℕ) (device : D) (history : History)
    (fits : pair < 2 ^ 64)
    (can : CanStart (of_side pair) (disk.arms device) (disk.seen device) history) where
  pub stands_for : DiskStands pair (disk.seen device) history
  stands_for = record {
    value = can.is_disk.value;
    means = can.is_disk.journal.means;
    stands = can.is_disk.stands;
  }

  abbrev machine : SideMachine
  machine = record {
    journal = opened_as history can.is_disk.value can.is_disk.generation;
    staging = None;
  }

  means : MeansAsKept (of_side pair) machine.journal can.is_disk.value can.is_disk.generation
  means = record { stands = can.is_disk.stands; room = refl; numbered = refl }

  pub side_starts : (replica : Replica D disk) (agent : Agent)
      → Untouched disk.seen disk.may_leave disk.moment disk.left_since device (disk_of replica)
      → ((number : ℕ) (events : History) → number < 2 ^ 64
      → DiskStands number (disk.seen device) events
      → (number ≡ pair_of replica) × Stands replica events)
      → StaysFree → MakesAtLeast 1 (disk.arms device) (disk.arms (disk_of replica))
      → staging_of agent ≡ None
      → ((next : SideMachine) → IsUpAs pair replica agent next → IsOf pair replica agent next)
      → StartsSide pair (disk.seen device) history (side_of replica agent)
  side_starts replica agent untouched each stays_free makes is_new is_up =
      let stood = each pair history fits stands_for in
      let known = knows pair replica (disk.seen device) can.is_disk.value can.is_disk.generation
      machine.journal untouched.same can.is_disk.journal means stood.1 in
      let free = stays_free 1 (disk.arms device) (disk.arms (disk_of replica)) can.free makes in
      record {
        machine = machine;
        runs = record {
          is = is_up machine (record {
            pair_is = sym stood.0;
            up = refl;
            stands = stood.1;
            room = known.0;
            generation = known.1;
            armed = sym free.unarmed_is;
            runs = free.goes;
            staging = sym is_new;
          });
          idle = λ _. refl;
          tries = λ told writing. absurd (none_not_some told writing);
        };
        fresh = (refl, refl, refl, refl, refl);
        unstaged = refl;
        is = record {
          value = can.is_disk.value;
          generation = can.is_disk.generation;
          journal = can.is_disk.journal;
          means = means;
        };
        value_is = refl;
      }

module _ {D : Type 0} (disk : Ghosts D) (pair : ℕ) (device : D) (kept : KeptArchive)
    (fits : pair < 2 ^ 64)
    (can : CanStart (of_archive pair) (disk.arms device) (disk.seen device) kept) where
  pub archive_stands_for : archive_disks.DiskStands pair (disk.seen device) kept
  archive_stands_for = record {
    value = can.is_disk.value;
    means = can.is_disk.journal.means;
    stands = can.is_disk.stands;
  }

  abbrev journal : Journal
  journal = opened_as kept can.is_disk.value can.is_disk.generation

  -- it was opened
  module _ (archive : Archive D disk)
      (untouched : Untouched disk.seen disk.may_leave disk.moment disk.left_since device
      (archives.disk_of archive))
      (stood : (pair ≡ archives.pair_of archive) × archives.Stands archive kept)
      (on_disk : (found : KeptArchive) → archives.Stands archive found → (bytes : Bytes)
      → disk.may_leave (archives.disk_of archive) bytes
      → DiskKeeps (archives.pair_of archive) found (archives.left_shown archive)
      (archives.generation_shown archive) bytes)
      (stays : (d : D) → disk.may_leave d (disk.seen d))
      (free : IsFree (disk.arms (archives.disk_of archive))) where
    of_pair : (bytes : Bytes) → disk.may_leave (archives.disk_of archive) bytes
        → DiskKeeps pair kept (archives.left_shown archive) (archives.generation_shown archive)
        bytes
    of_pair bytes left = subst (λ p. DiskKeeps p kept (archives.left_shown archive)
        (archives.generation_shown archive) bytes) (sym stood.0)
        (on_disk kept stood.1 bytes left)

    read : DiskKeeps pair kept (archives.left_shown archive) (archives.generation_shown archive)
        (disk.seen device)
    read = subst (DiskKeeps pair kept (archives.left_shown archive)
        (archives.generation_shown archive)) untouched.same
        (of_pair (disk.seen (archives.disk_of archive)) (stays (archives.disk_of archive)))

    room : archives.left_shown archive ≡ journal.room
    room = sym read.left_is ∙ ap bytes_left (one_value (disk.seen device) read.value
        can.is_disk.value (archives.generation_shown archive) can.is_disk.generation read.journal
        can.is_disk.journal)

    generation : archives.generation_shown archive ≡ journal.generation
    generation = one_generation (disk.seen device) read.value can.is_disk.value
        (archives.generation_shown archive) can.is_disk.generation read.journal
        can.is_disk.journal

    leaves : (bytes : Bytes) → disk.may_leave (archives.disk_of archive) bytes
        → MayBeOf (of_archive pair) journal bytes
    leaves bytes left = let keeps = of_pair bytes left in record {
      value = keeps.value;
      generation = archives.generation_shown archive;
      journal = keeps.journal;
      means = as_kept (record {
        stands = keeps.stands;
        room = sym room ∙ sym keeps.left_is;
        numbered = sym generation;
      });
    }

    is_machine : IsMachine archive pair journal
    is_machine = record {
      pair_is = sym stood.0;
      remembers = stood.1.remembers;
      armed = free.unarmed_is;
      goes = free.goes;
      state = inl (record {
        up = refl;
        stands = stood.1;
        room = room;
        generation = generation;
        idle = refl;
        settled = refl;
      });
      leaves = leaves;
    }

    pub coordinator_opens : (coordinator : Coordinator D disk)
        → ((number : ℕ) (of : Journal) → IsMachine archive number of → of.writing ≡ None
        → StandsAs coordinator number (record { journal = of; running = None }))
        → StartsCoordinator pair (disk.seen device) kept coordinator
    coordinator_opens coordinator is_new = record {
      journal = journal;
      stands = is_new pair journal is_machine refl;
      fresh = (refl, refl, refl, refl, refl);
      is = record {
        value = can.is_disk.value;
        generation = can.is_disk.generation;
        journal = can.is_disk.journal;
        means = record { stands = can.is_disk.stands; room = refl; numbered = refl };
      };
      value_is = refl;
    }

  pub coordinator_starts : (archive : Archive D disk) (coordinator : Coordinator D disk)
      → Untouched disk.seen disk.may_leave disk.moment disk.left_since device
      (archives.disk_of archive)
      → ((number : ℕ) (found : KeptArchive) → number < 2 ^ 64
      → archive_disks.DiskStands number (disk.seen device) found
      → (number ≡ archives.pair_of archive) × archives.Stands archive found)
      → ((found : KeptArchive) → archives.Stands archive found → (bytes : Bytes)
      → disk.may_leave (archives.disk_of archive) bytes
      → DiskKeeps (archives.pair_of archive) found (archives.left_shown archive)
      (archives.generation_shown archive) bytes)
      → ((d : D) → disk.may_leave d (disk.seen d)) → StaysFree
      → MakesAtLeast 1 (disk.arms device) (disk.arms (archives.disk_of archive))
      → ((number : ℕ) (of : Journal) → IsMachine archive number of → of.writing ≡ None
      → StandsAs coordinator number (record { journal = of; running = None }))
      → StartsCoordinator pair (disk.seen device) kept coordinator
  coordinator_starts archive coordinator untouched each on_disk stays stays_free makes is_new =
      coordinator_opens archive untouched (each pair kept fits archive_stands_for) on_disk stays
      (stays_free 1 (disk.arms device) (disk.arms (archives.disk_of archive)) can.free makes)
      coordinator is_new
