-- Which of the model's machines a coordinator is, up or down, and what a call of it is.
use Rattle.std.specs.Prelude.{ℕ, List}
use Rattle.syn_coordinator.specs.Coordinators.{Stands, device_of}
use Rattle.syn_coordinator.specs.Openings.{RestsWith}
use Rattle.syn_disk.specs.declared.disk.Disk.{Ghosts}
use Rattle.syn_machine.specs.Coordinator.{Call, CoordinatorMachine}
use Rattle.syn_machine.specs.MachineSteps.{Effect}
use Rattle.syn_world.specs.declared.coordinator.CoordinatorHost.{CoordinatorHost}
use Rattle.syn_world.specs.declared.coordinator.CoordinatorHost.TheVariants as host
use Rattle.syn_model.specs.Refusal.{Refusal}
use Rattle.syn_journal.specs.Calls.{CountsNoMore}

abbrev pub IsCoordinator : {D : Type 0} → {disk : Ghosts D} → ℕ → CoordinatorHost D disk →
    CoordinatorMachine → Type 0
IsCoordinator {D} {disk} pair (host.Up coordinator) machine = Stands coordinator pair machine
IsCoordinator {D} {disk} pair (host.Down side) machine =
    RestsWith disk.arms disk.may_leave pair side.disk side.tried machine

-- its disk, up or down
abbrev pub archive_disk : {D : Type 0} → {disk : Ghosts D} → CoordinatorHost D disk → D
archive_disk (host.Up coordinator) = device_of coordinator
archive_disk (host.Down side) = side.disk

-- what a step may leave of the coordinator's machine, what it gives, and what a user is refused
abbrev pub CoordinatorStep : Type 1
CoordinatorStep = Effect CoordinatorMachine Call

-- A call that leaves the coordinator so is such a step of its machine, which gave this. The machine
-- counts no more failed calls than its disk, which had counted so many before
pub record IsStep {D : Type 0} {disk : Ghosts D} (pair : ℕ) (machine : CoordinatorMachine)
    (before : ℕ) (Step : CoordinatorStep) (coordinator : CoordinatorHost D disk) (made : Call)
    (refusals : List Refusal) : Type 0 where
  pub next : CoordinatorMachine
  pub step : Step next made refusals
  pub is : IsCoordinator pair coordinator next
  pub counts : CountsNoMore before (disk.failures (archive_disk coordinator)) machine.journal
      next.journal
