-- What a call of a coordinator does to its machine in the world.
use Rattle.std.specs.Prelude.{◌≡◌, ℕ, true, List, [], map, None, IfSome, option_map}
use Rattle.syn_disk.specs.Arms.{is_stopped}
use Rattle.syn_disk.specs.declared.disk.Disk.{Ghosts}
use Rattle.syn_machine.specs.Coordinator.{Call, CoordinatorMachine, no_call}
use Rattle.syn_machine.specs.Machine.{Down, Status, unarmed}
use Rattle.syn_world.specs.Coordinators.{CoordinatorStep, IsCoordinator, IsStep, archive_disk}
use Rattle.syn_world.specs.Outcomes.{Tells, causes_in}
use Rattle.syn_world.specs.declared.coordinator.CoordinatorCall.{CoordinatorCall}
use Rattle.syn_world.specs.declared.outcome.CoordinatorOutcome.{CoordinatorOutcome}
use Rattle.syn_model.specs.Refusal.{Refusal}
use Rattle.syn_coordinator.specs.Coordinators.{Stands, device_of, in_report, tried_shown}
use Rattle.syn_coordinator.specs.Tries.{Tries}
use Rattle.syn_coordinator.specs.Machines.{LeavesMachine}
use Rattle.syn_session.specs.Reports.{report_model}
use Rattle.syn_session.specs.Sendings.{messages_of}
use Rattle.syn_coordinator.specs.declared.coordinator.Coordinator.{Coordinator}
use Rattle.syn_image.specs.Archives.{kept_of}

-- a step that refuses a user nothing
pub record Unrefused (Step : CoordinatorMachine → Call → Type 0) (next : CoordinatorMachine)
    (made : Call) (refusals : List Refusal) : Type 0 where
  pub step : Step next made
  pub none : refusals ≡ []

-- A call is such a step of the machine, and what came of it is told; or memory for telling it is
-- refused
pub record CallIsStep {D : Type 0} {disk : Ghosts D} (pair : ℕ) (machine : CoordinatorMachine)
    (before : ℕ) (Step : CoordinatorStep) (call : CoordinatorCall D disk) : Type 0 where
  pub made : Call
  pub refusals : List Refusal
  pub goes : IsStep pair machine before Step call.coordinator made refusals
  pub tells : IfSome call.outcome (λ outcome. Tells outcome made refusals)

-- the coordinator's machine stopped in a call, and its disk is left so
pub record StopsAs {D : Type 0} {disk : Ghosts D} (coordinator : Coordinator D disk) (pair : ℕ)
    (machine : CoordinatorMachine) : Type 0 where
  pub down : machine.journal.status ≡ Down
  pub unarmed_is : machine.journal.arms ≡ unarmed
  pub idle : machine.running ≡ None
  pub leaves : LeavesMachine disk (device_of coordinator) pair machine.journal
  pub tries : Tries (tried_shown coordinator) machine.journal

-- The outcome of a call of the coordinator, as long as it goes on: this was kept, sent and
-- reported, and a user was refused so, by the status that the call left
pub record IsToTell {D : Type 0} {disk : Ghosts D} (coordinator : Coordinator D disk)
    (outcome : CoordinatorOutcome) (told : Call) (refusals_at : Status → List Refusal)
    : Type 0 where
  pub kept : map kept_of outcome.kept.items ≡ told.kept
  pub sent : messages_of outcome.sent.items ≡ told.messages
  pub reports : in_report (option_map report_model outcome.ended) ≡ told.reports
  pub refusals : (pair : ℕ) (machine : CoordinatorMachine) → Stands coordinator pair machine →
      causes_in outcome.refused ≡ refusals_at machine.journal.status

-- A coordinator after a call that was made, with what was then to tell. It goes on; or its machine
-- stopped, and nothing is told but what was kept before
pub record Settles {D : Type 0} {disk : Ghosts D} (coordinator : Coordinator D disk)
    (told : Call) (refusals_at : Status → List Refusal) (call : CoordinatorCall D disk)
    : Type 0 where
  pub goes_on : (pair : ℕ) (machine : CoordinatorMachine) → Stands coordinator pair machine →
      IfSome call.outcome (λ outcome. Tells outcome told (refusals_at machine.journal.status))
      × IsCoordinator pair call.coordinator machine
  pub stops : is_stopped (disk.arms (device_of coordinator)) ≡ true → (pair : ℕ)
      (machine : CoordinatorMachine) → StopsAs coordinator pair machine →
      IfSome call.outcome (λ outcome. Tells outcome (record no_call { kept = told.kept }) [])
      × IsCoordinator pair call.coordinator machine
  pub counted : disk.failures (archive_disk call.coordinator)
      ≡ disk.failures (device_of coordinator)

-- calls that refuse a user nothing, whatever they left
abbrev pub refuses_nothing : Status → List Refusal
refuses_nothing status = []
