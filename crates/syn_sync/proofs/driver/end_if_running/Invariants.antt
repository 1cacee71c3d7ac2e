use Rattle.std.proofs.Common.{◌≡◌, ℕ, [], false}
use Rattle.syn_disk.specs.Arms.{is_stopped}
use Rattle.syn_machine.specs.Coordinator.{CoordinatorMachine}
use Rattle.syn_coordinator.specs.Coordinators.{Stands, device_of}
use Rattle.syn_sync.proofs.driver.end_if_running.Given as goal
use Rattle.syn_sync.specs.inner.Calling.{Calls}

-- time went by so far
abbrev pub invariant-loop : goal.invariant-loop
invariant-loop g l = record {
  calls : (pair : ℕ) (machine : CoordinatorMachine) → Stands l.fn.coordinator pair machine
      → Calls l.coordinator pair machine [];
  calm : is_stopped (g.D.Disk.arms (device_of l.coordinator)) ≡ false;
}
