use Rattle.std.proofs.Common.{◌≡◌, ℕ, false}
use Rattle.syn_disk.specs.Arms.{is_stopped}
use Rattle.syn_machine.specs.Coordinator.{CoordinatorMachine}
use Rattle.syn_coordinator.specs.Coordinators.{Stands, device_of}
use Rattle.syn_sync.proofs.driver.Driver.go_on.Given as goal
use Rattle.syn_sync.specs.Drivers.{states_of, outlets_of}
use Rattle.syn_sync.specs.Runs.{Drives}

-- the session came so far
abbrev pub invariant-loop : goal.invariant-loop
invariant-loop g l =
    let outlets = outlets_of g.W.Write.contents in
    let states = states_of g.R.Read.remaining in record {
      drives : (pair : ℕ) (machine : CoordinatorMachine) → Stands l.fn.coordinator pair machine
          → Drives l.coordinator pair machine (states l.fn.self) (states l.self)
          (outlets l.fn.self) (outlets l.self);
      calm : is_stopped (g.D.Disk.arms (device_of l.coordinator)) ≡ false;
    }
