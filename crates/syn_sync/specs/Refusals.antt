-- Why no session runs, or none to its end.
use Rattle.std.specs.Prelude.{◌≡◌, ◌<◌, ℕ, true, Some}
use Rattle.syn_disk.specs.Arms.{is_stopped}
use Rattle.syn_disk.specs.declared.disk.Disk.{Ghosts}
use Rattle.syn_machine.specs.Coordinator.{Call, CoordinatorMachine, coordinator_kind}
use Rattle.syn_machine.specs.MachineSteps.{Checkpoints}
use Rattle.syn_model.specs.Refusal.{Device, JournalFull, NoAnswer, Refusal, first_cause}
use Rattle.syn_coordinator.specs.Coordinators.{all_causes, checkpoint_causes, device_of, runs}
use Rattle.syn_coordinator.specs.declared.coordinator.Coordinator.{Coordinator}

-- A start is refused so; or it is refused 8, and then the checkpoint is refused so, or the start
-- after it. Or a device call failed, or the machine was stopped; or a session still runs that
-- nothing ends
pub data Refuses {D : Type 0} {disk : Ghosts D} (old new : Coordinator D disk) (pair : ℕ)
    (machine : CoordinatorMachine) : Refusal → Type 0 where
  no_start : (why : Refusal) → first_cause (all_causes pair machine) ≡ Some why →
      Refuses old new pair machine why
  no_room : (why : Refusal) → first_cause (all_causes pair machine) ≡ Some JournalFull →
      first_cause (checkpoint_causes machine) ≡ Some why → Refuses old new pair machine why
  no_start_after : (why : Refusal) (between : CoordinatorMachine) (call : Call) →
      first_cause (all_causes pair machine) ≡ Some JournalFull →
      Checkpoints (coordinator_kind pair) machine between call →
      first_cause (all_causes pair between) ≡ Some why →
      Refuses old new pair machine why
  fails : disk.failures (device_of old) < disk.failures (device_of new) →
      Refuses old new pair machine Device
  stopped : is_stopped (disk.arms (device_of new)) ≡ true → Refuses old new pair machine Device
  unanswered : runs new ≡ true → Refuses old new pair machine NoAnswer
