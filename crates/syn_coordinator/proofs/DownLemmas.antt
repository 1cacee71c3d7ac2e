-- What an opening of a coordinator's disk gives, whose machine was down.
use Rattle.std.proofs.Common.{◌≡◌, ◌≢◌, ℕ, Option, None, refl, sym, ap, ◌∙◌, subst}
use Rattle.syn_archive.specs.Machines.{Starts}
use Rattle.syn_archive.specs.declared.archive.Archive.{Archive}
use Rattle.syn_disk.specs.Arms.{Arms as DiskArms}
use Rattle.syn_disk.specs.declared.disk.Disk.{Ghosts}
use Rattle.syn_machine.specs.Coordinator.{CoordinatorMachine, archive_layout, coordinator_kind}
use Rattle.syn_machine.specs.Coordinator.{running_after, with_archive}
use Rattle.syn_machine.specs.MachineSteps.{no_memory_to_open, open_fails, with_device}
use Rattle.syn_machine.specs.MachineSteps.{opens as opens_down}
use Rattle.syn_machine.specs.Machine.{Down, Halted, Opens, Status, Up}
use Rattle.syn_archive.specs.Keepings.{of_archive}
use Rattle.syn_journal.specs.Machines.{device_failed, without_memory}
use Rattle.syn_journal.specs.Machines as journal
use Rattle.syn_model.specs.Archive.{CanKeep, Kept}
use Rattle.syn_model.specs.Path.{Bytes}
use Rattle.syn_model.specs.Refusal.{Refusal}
use Rattle.syn_coordinator.specs.Machines.{IsMachine, Journal}
use Rattle.syn_coordinator.specs.Openings.{OpensAs, RestsStill, RestsWith}
use Rattle.syn_coordinator.specs.Coordinators.{Stands}
use Rattle.syn_coordinator.specs.Tries.{found_in, listed}
use Rattle.syn_coordinator.specs.declared.coordinator.Coordinator.{Coordinator}
use Rattle.syn_coordinator.specs.declared.tried.TriedRecord.{TriedRecord}
use Rattle.syn_coordinator.proofs.OpeningLemmas.{found_is}
use Rattle.syn_coordinator.proofs.TriedLemmas.{tries_still}

down_not_up : Down ≢ Up
down_not_up e = cc

-- a machine that runs no session runs none after an opening
with_journal_alone : (machine : CoordinatorMachine) (journal : Journal) →
    machine.running ≡ None →
    record { journal = journal; running = None } ≡ with_archive machine journal
with_journal_alone machine journal idle =
    ap (λ r. record { journal = journal; running = r })
    (sym (ap (λ r. running_after journal.status r) idle ∙ none_runs journal.status))
  where
    none_runs : (status : Status) → running_after status None ≡ None
    none_runs Up = refl
    none_runs Halted = refl
    none_runs Down = refl

module _ {D : Type 0} (arms : D → DiskArms) (may_leave : D → Bytes → Type 0) (pair : ℕ)
    (device : D) (tried : Option TriedRecord) (opening : CoordinatorMachine)
    (rests : RestsWith arms may_leave pair device tried opening) where
  -- it is opened
  pub open_ok : {disk : Ghosts D} (archive : Archive D disk) (coordinator : Coordinator D disk)
      (found : Option Kept) → Starts archive pair opening.journal → found ≡ found_in tried archive →
      ((number : ℕ) (journal : Journal) → IsMachine archive number journal → journal.writing
      ≡ None → Stands coordinator number (record { journal = journal; running = None })) →
      OpensAs coordinator pair opening (listed found)
  open_ok archive coordinator found starts is_found is_new = record {
    next = with_archive opening starts.next;
    opens = opens_down starts.calls starts.next (listed found) rests.rests.down
        (subst (λ kept. Opens (archive_layout pair) CanKeep opening.journal starts.calls
        starts.next kept) (found_is archive pair opening.journal tried starts.calls starts.next
        starts.added rests.tries starts.opens starts.runs.room starts.runs.generation
        ∙ ap listed (sym is_found)) starts.opens);
    stands = subst (Stands coordinator pair) (with_journal_alone opening starts.next rests.idle)
        (is_new pair starts.next starts.is starts.runs.idle);
  }

  -- it is not, and the disk comes back
  pub open_not : (back : D) (reason : Refusal) →
      journal.RestsStill arms may_leave (of_archive pair) back opening.journal reason →
      RestsStill arms may_leave pair back tried opening reason
  open_not back _ (device_failed calls now meets still) = record {
    next = with_device (coordinator_kind pair) opening Down now 1;
    opens = open_fails calls now 1 rests.rests.down meets;
    rests = record {
      rests = still;
      idle = refl;
      tries = tries_still tried opening.journal Down now 1 (λ _. down_not_up) rests.tries;
    };
  }
  open_not back _ (without_memory still) = record {
    next = opening;
    opens = no_memory_to_open rests.rests.down;
    rests = record { rests = still; idle = rests.idle; tries = rests.tries };
  }
