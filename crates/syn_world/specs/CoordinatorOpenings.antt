-- What an opening of the coordinator's disk is to its machine, and what is told of it.
use Rattle.std.specs.Prelude.{◌≡◌, ℕ, true, Option, None, option_map}
use Rattle.syn_disk.specs.Arms.{is_stopped}
use Rattle.syn_disk.specs.declared.disk.Disk.{Ghosts}
use Rattle.syn_machine.specs.Coordinator.{Call, CoordinatorMachine, no_call}
use Rattle.syn_world.specs.CoordinatorSteps.{StopsAs}
use Rattle.syn_world.specs.Coordinators.{CoordinatorStep, IsCoordinator, IsStep, archive_disk}
use Rattle.syn_world.specs.Outcomes.{causes_in}
use Rattle.syn_world.specs.declared.coordinator.open.CoordinatorOpening.{CoordinatorOpening}
use Rattle.syn_refusal.specs.declared.refusal.Refusal.{Refusal as Code}
use Rattle.syn_coordinator.specs.Coordinators.{Stands, device_of}
use Rattle.syn_coordinator.specs.Tries.{listed}
use Rattle.syn_coordinator.specs.declared.coordinator.Coordinator.{Coordinator}
use Rattle.syn_image.specs.Archives.{kept_of}
use Rattle.syn_image.specs.declared.kept.Kept.{Kept as Record}

-- what was found in an opening is all that it gives
abbrev pub gives_found : Option Record → Call
gives_found found = record no_call { kept = listed (option_map kept_of found) }

-- an opening is such a step of the machine
abbrev pub OpeningIsStep : {D : Type 0} → {disk : Ghosts D} → ℕ → CoordinatorMachine → ℕ →
    CoordinatorStep → CoordinatorOpening D disk → Type 0
OpeningIsStep pair machine before Step opening =
    IsStep pair machine before Step opening.coordinator (gives_found opening.found)
    (causes_in opening.refused)

-- A coordinator after another opening, which found this or was refused so. It goes on; or its
-- machine stopped, and nothing is told
pub record SettlesFound {D : Type 0} {disk : Ghosts D} (coordinator : Coordinator D disk)
    (found : Option Record) (refused : Option Code) (opening : CoordinatorOpening D disk)
    : Type 0 where
  pub goes_on : (pair : ℕ) (machine : CoordinatorMachine) → Stands coordinator pair machine →
      (opening.found ≡ found) × (opening.refused ≡ refused)
      × IsCoordinator pair opening.coordinator machine
  pub stops : is_stopped (disk.arms (device_of coordinator)) ≡ true → (pair : ℕ)
      (machine : CoordinatorMachine) → StopsAs coordinator pair machine →
      (opening.found ≡ None) × (opening.refused ≡ None)
      × IsCoordinator pair opening.coordinator machine
  pub counted : disk.failures (archive_disk opening.coordinator)
      ≡ disk.failures (device_of coordinator)
