-- A side whose device alone changed.
use Rattle.std.proofs.Common.{◌≡◌, ◌∙◌, ℕ, false}
use Rattle.syn_agent.specs.declared.agent.Agent.{Agent}
use Rattle.syn_disk.specs.Arms.{is_stopped}
use Rattle.syn_disk.specs.Disk.{NothingNew}
use Rattle.syn_disk.specs.declared.disk.Disk.{Ghosts}
use Rattle.syn_machine.specs.Machine.{Status, Up, Halted, Down, Arms}
use Rattle.syn_machine.specs.MachineSteps.{with_device}
use Rattle.syn_machine.specs.SideMachine.{SideMachine, side_kind}
use Rattle.syn_world.specs.Sides.{RunsAs}
use Rattle.syn_model.specs.History.{History}
use Rattle.syn_journal.specs.Calls.{armed_at}
use Rattle.syn_replica.specs.Machines.{StandsAs}
use Rattle.syn_replica.specs.Replica.{IsHalted, SameMemory, Stands, disk_of, generation_shown}
use Rattle.syn_replica.specs.Replica.{left_shown, tried_shown}
use Rattle.syn_replica.specs.declared.replica.Replica.{Replica}
use Rattle.syn_world.proofs.SideLemmas.{side_of}
use Rattle.syn_world.proofs.SideLemmas.{not_down, still_staged}
use Rattle.syn_journal.proofs.DiskLemmas.{may_be_still}
use Rattle.syn_replica.specs.Keepings.{of_side}

-- what stands or remembers still does
pub stands_as : {D : Type 0} {disk : Ghosts D} (old new : Replica D disk) (history : History)
    (status : Status) → (Stands old history → Stands new history)
    → (IsHalted old → IsHalted new) → SameMemory old new → StandsAs status old history
    → StandsAs status new history
stands_as old new history Up stands halted same was = stands was
stands_as old new history Halted stands halted same was = (
  halted was.0,
  record { lawful = was.1.lawful; standing = same.standing ∙ was.1.standing },
)
stands_as old new history Down stands halted same was = was

pub still_runs : {D : Type 0} {disk : Ghosts D} (pair : ℕ) (old new : Replica D disk)
    (agent : Agent) (machine : SideMachine) (arms : Arms) (failed : ℕ)
    → RunsAs pair (side_of old agent) machine
    → SameMemory old new → StandsAs machine.journal.status new machine.journal.value
    → (machine.journal.status ≡ Up → machine.journal.room ≡ left_shown new)
    → (machine.journal.status ≡ Up → machine.journal.generation ≡ generation_shown new)
    → arms ≡ armed_at (disk.arms (disk_of new)) → is_stopped (disk.arms (disk_of new)) ≡ false
    → tried_shown new ≡ tried_shown old
    → NothingNew (disk.may_leave (disk_of old)) (disk.may_leave (disk_of new))
    → RunsAs pair (side_of new agent)
    (with_device (side_kind pair) machine machine.journal.status arms failed)
still_runs pair old new agent machine arms failed runs same stands room generation armed goes tried
    nothing_new = record {
      is = record {
        keeps = record {
          pair_is = same.pair ∙ runs.is.keeps.pair_is;
          stands = stands;
          room = room;
          generation = generation;
          armed = armed;
          runs = goes;
          left = λ bytes may. may_be_still (of_side pair) machine.journal machine.journal.status
              arms failed bytes (runs.is.keeps.left bytes (nothing_new bytes may));
        };
        staging = still_staged machine.journal.status machine.staging
            (not_down pair (side_of old agent) machine runs) ∙ runs.is.staging;
      };
      idle = runs.idle;
      tries = λ told writing. tried ∙ runs.tries told writing;
    }
