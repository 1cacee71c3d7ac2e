-- What a session over two connections was to its coordinator.
use Rattle.std.specs.FinMap.{len}
use Rattle.std.specs.Prelude.{◌≡◌, ℕ, OnOk, Result, Option, nat_lt}
use Rattle.syn_archive.specs.Archive.{marks_shown, pair_of, session_shown}
use Rattle.syn_archive.specs.declared.archive.Archive.{Archive}
use Rattle.syn_disk.specs.declared.disk.Disk.{Ghosts}
use Rattle.syn_machine.specs.Coordinator.{CoordinatorMachine}
use Rattle.syn_model.specs.Refusal.{Device, Memory, Refusal}
use Rattle.syn_refusal.specs.declared.refusal.Refusal.{Refusal as Answer}
use Rattle.syn_coordinator.specs.declared.coordinator.Coordinator.{Coordinator}
use Rattle.syn_pair.specs.Belongs.{archive_in}
use Rattle.syn_pair.specs.declared.check.Belonging.{Belonging}
use Rattle.syn_sync.specs.Drivers.{ConnectionStates, Outlets}
use Rattle.syn_sync.specs.Refusals.{Refuses}
use Rattle.syn_sync.specs.Runs.{Begins, Drives}
use Rattle.syn_model.specs.Which.{Which}

module _ {D : Type 0} {disk : Ghosts D} where
  -- the sides were found to belong to this archive, as it is
  pub record BelongTo (archive : Archive D disk) (belonging : Belonging) : Type 0 where
    pub pair : (archive_in belonging).pair ≡ pair_of archive
    pub session : (archive_in belonging).session ≡ session_shown archive
    pub marks : (archive_in belonging).has_marks ≡ nat_lt 1 (len (marks_shown archive))

  -- It was driven over some connections; an Ok says that it was started, with the
  -- preference
  pub record DrivesSession (preference : Option Which) (new : Coordinator D disk) (pair : ℕ)
      (machine : CoordinatorMachine) (result : Result Unit Answer) : Type 0 where
    pub states : ConnectionStates
    pub heard : ConnectionStates
    pub from : Outlets
    pub to : Outlets
    pub drives : Drives new pair machine states heard from to
    pub begins : OnOk result (Begins preference drives.acts)

  -- A port was not had, or a server's thread, and the coordinator stays as it was; or the driver
  -- refuses it so
  pub data RefusesRun (old new : Coordinator D disk) (pair : ℕ) (machine : CoordinatorMachine)
      : Refusal → Type 0 where
    no_port : new ≡ old → RefusesRun old new pair machine Device
    no_thread : new ≡ old → RefusesRun old new pair machine Memory
    run_refused : (why : Refusal) → Refuses old new pair machine why →
        RefusesRun old new pair machine why
