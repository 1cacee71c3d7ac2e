-- What a run of two servers was to the coordinator that comes back.
use Rattle.std.specs.Prelude.{◌≡◌, ℕ, false, IfErr, OnOk, Result, Option}
use Rattle.syn_daemon.specs.Sessions.{DrivesSession, RefusesRun}
use Rattle.syn_disk.specs.Arms.{is_stopped}
use Rattle.syn_disk.specs.declared.disk.Disk.{Ghosts}
use Rattle.syn_machine.specs.Coordinator.{CoordinatorMachine}
use Rattle.syn_refusal.specs.Refusals.{cause_of}
use Rattle.syn_refusal.specs.declared.refusal.Refusal.{Refusal as Answer}
use Rattle.syn_coordinator.specs.Coordinators.{Stands, device_of, runs}
use Rattle.syn_coordinator.specs.declared.coordinator.Coordinator.{Coordinator}
use Rattle.syn_model.specs.Which.{Which}

pub record RunsSession {D : Type 0} {disk : Ghosts D} (preference : Option Which)
    (old new : Coordinator D disk)
    (result : Result Unit Answer) : Type 0 where
  pub drives : (pair : ℕ) (machine : CoordinatorMachine) → Stands old pair machine
      → DrivesSession preference new pair machine result
  pub refused : (pair : ℕ) (machine : CoordinatorMachine) → Stands old pair machine
      → IfErr result (λ why. RefusesRun old new pair machine (cause_of why))
  pub ended : OnOk result (runs new ≡ false)
  pub goes : OnOk result (is_stopped (disk.arms (device_of new)) ≡ false)
