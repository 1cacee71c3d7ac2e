-- What a coordinator shows, which of the model's machines it is, and what a call does.
use Rattle.std.specs.Option.{option_map_or}
use Rattle.std.specs.Prelude.{◌≡◌, ◌⊎◌, ◌<◌, ◌++◌, ℕ, nat_lt, Bool, true}
use Rattle.std.specs.Prelude.{false, not, ◌&&◌, List, [], ◌∷◌, Option, Some, None, length}
use Rattle.std.specs.Prelude.{option_map, is_some, if◌then◌else◌}
use Rattle.syn_archive.specs.Archive.{IsHalted, disk_of}
use Rattle.syn_archive.specs.declared.archive.Archive.{Archive}
use Rattle.syn_coordinator.specs.PlanRunners as of
use Rattle.syn_coordinator.specs.declared.coordinator.Coordinator.{Coordinator}
use Rattle.syn_disk.specs.Arms.{is_stopped}
use Rattle.syn_disk.specs.declared.disk.Disk.{Ghosts}
use Rattle.syn_machine.specs.Coordinator.{Call, CoordinatorMachine, Running, coordinator_kind}
use Rattle.syn_machine.specs.Coordinator.{outstanding, report_of, start_causes}
use Rattle.syn_machine.specs.Machine.{Arms, Down, Halted, Status, Up, after_device}
use Rattle.syn_machine.specs.MachineSteps.{Reopens, causes_at, full_generation}
use Rattle.syn_machine.specs.Network.{Message, Which}
use Rattle.syn_machine.specs.Report.{Report}
use Rattle.syn_coordinator.specs.Machines.{IsMachine, LeavesMachine}
use Rattle.syn_coordinator.specs.Tries.{Tries}
use Rattle.syn_coordinator.specs.declared.tried.TriedRecord.{TriedRecord}
use Rattle.syn_model.specs.Archive.{Kept}
use Rattle.syn_model.specs.Refusal.{Cause, Refusal}
use Rattle.syn_model.specs.Refusal as why
use Rattle.syn_session.specs.Reports.{report_model}
use Rattle.syn_session.specs.Sessions.{IsRunning}
use Rattle.syn_session.specs.SettledItems.{Settled, nothing_settled, settled_in}

module _ {D : Type 0} {disk : Ghosts D} (coordinator : Coordinator D disk) where
  abbrev pub archive_of : Archive D disk
  archive_of = coordinator.plan_runner.archive

  abbrev pub device_of : D
  device_of = disk_of coordinator.plan_runner.archive

  -- the report of the session that ended last, since the last start
  abbrev pub report_shown : Option Report
  report_shown = option_map report_model coordinator.report

  -- what the last call that could write wrote into the archive, and the record in doubt
  abbrev pub written : List Kept
  written = of.written coordinator.plan_runner

  abbrev pub in_doubt : Option Kept
  in_doubt = of.in_doubt coordinator.plan_runner

  -- the record that was tried last and not kept, until the archive is opened again
  abbrev pub tried_shown : Option TriedRecord
  tried_shown = coordinator.plan_runner.tried

  -- a session runs
  abbrev pub runs : Bool
  runs = is_some coordinator.running

  -- it is this machine of the pair
  pub record Stands (pair : ℕ) (machine : CoordinatorMachine) : Type 0 where
    pub journal : IsMachine coordinator.plan_runner.archive pair machine.journal
    pub running : IsRunning machine.journal.value coordinator.running machine.running
    -- no record was cut off under a session that still runs
    pub quiet : is_some machine.running ≡ true → machine.journal.writing ≡ None
    pub untried : is_some machine.running ≡ true → tried_shown ≡ None
    -- and it remembers one that was
    pub tries : Tries tried_shown machine.journal

-- a request of the session waits for its answer from the side
abbrev pub is_waiting : Option Running → Which → Bool
is_waiting running side =
    option_map_or (λ running. nat_lt 0 (length (outstanding running side))) running false

-- how many items the plan of a session that runs has
abbrev pub items_planned : Option Running → Option ℕ
items_planned None = None
items_planned (Some running) = option_map length running.plan

-- what a session that runs would report of its items if it ended now, or else what the last report
-- has of them
abbrev pub settled_so_far : Option Running → Option Report → Settled
settled_so_far (Some running) last = settled_in (report_of running None)
settled_so_far None (Some report) = settled_in report
settled_so_far None None = nothing_settled

-- the report of a session that ended in a call
abbrev pub in_report : Option Report → List Report
in_report None = []
in_report (Some report) = report ∷ []

abbrev pub ended_in : {D : Type 0} → {disk : Ghosts D} → Coordinator D disk → Coordinator D disk →
    List Report
ended_in old new = if runs old && not (runs new) then in_report (report_shown new) else []

-- A call is a step of the machine: it leaves a machine that this coordinator is, with what was
-- kept, sent and reported; or the machine went down in it, with what was kept so far
pub data Does {D : Type 0} {disk : Ghosts D} (old new : Coordinator D disk) (pair : ℕ)
    (Step : CoordinatorMachine → Call → Type 0) (kept : List Kept) (messages : List Message)
    : Type 0 where
  goes_on : (machine : CoordinatorMachine) (call : Call) → Step machine call →
      Stands new pair machine → call.kept ≡ kept → call.messages ≡ messages →
      call.reports ≡ ended_in old new → Does old new pair Step kept messages
  goes_down : (machine : CoordinatorMachine) (call : Call) → Step machine call →
      is_stopped (disk.arms (device_of new)) ≡ true → machine.journal.status ≡ Down →
      LeavesMachine disk (device_of new) pair machine.journal → call.kept ≡ kept →
      Tries (tried_shown new) machine.journal → Does old new pair Step kept messages

module _ {D : Type 0} {disk : Ghosts D} (old new : Coordinator D disk) where
  -- a device call failed, or the machine stopped
  abbrev pub FailsOrStops : Type 0
  FailsOrStops = of.FailsOrStops old.plan_runner new.plan_runner

  -- a record was sent to the disk, and is in doubt
  abbrev pub BreaksOff : Type 0
  BreaksOff = of.BreaksOff old.plan_runner new.plan_runner

  -- no record is in doubt: no device call failed, or none of a record
  abbrev pub TellsNone : Type 0
  TellsNone = of.TellsNone old.plan_runner new.plan_runner

  -- where the archive of a machine that was up is halted now, a device call failed, unless the
  -- machine stopped
  abbrev pub HaltsByFailure : Type 0
  HaltsByFailure = (pair : ℕ) (machine : CoordinatorMachine) → Stands old pair machine →
      machine.journal.status ≡ Up → IsHalted (archive_of new) →
      (disk.failures (device_of old) < disk.failures (device_of new))
      ⊎ (is_stopped (disk.arms (device_of new)) ≡ true)

-- what a call answers of reports and of what was kept stays, and so does the session that runs
pub record KeepsReadings {D : Type 0} {disk : Ghosts D} (old new : Coordinator D disk)
    : Type 0 where
  pub report : report_shown new ≡ report_shown old
  pub written_is : written new ≡ written old
  pub in_doubt_is : in_doubt new ≡ in_doubt old
  pub tried_is : tried_shown new ≡ tried_shown old
  pub runs_still : runs new ≡ runs old

-- why a start is refused, and then for lack of memory
abbrev pub refusals_of : ℕ → CoordinatorMachine → List Cause
refusals_of pair machine = causes_at machine.journal.status (start_causes pair machine)

abbrev pub all_causes : ℕ → CoordinatorMachine → List Cause
all_causes pair machine = refusals_of pair machine ++ (true, why.Memory) ∷ []

-- Calls on the archive as a whole

abbrev pub checkpoint_refusals : CoordinatorMachine → List Cause
checkpoint_refusals machine =
    causes_at machine.journal.status (full_generation machine.journal.generation)

abbrev pub checkpoint_causes : CoordinatorMachine → List Cause
checkpoint_causes machine = checkpoint_refusals machine ++ (true, why.Memory) ∷ []

-- a machine that stopped is not heard
abbrev pub heard : Status → List Refusal → List Refusal
heard Up refusals = refusals
heard Halted refusals = refusals
heard Down refusals = []

-- another opening of the machine that is refused so, or in which it stops
abbrev pub ReopensNot : ℕ → CoordinatorMachine → Refusal → CoordinatorMachine → Call → Type 0
ReopensNot pair machine reason next call =
    Reopens (coordinator_kind pair) machine next call (heard next.journal.status (reason ∷ []))

-- with these arms at its device
abbrev pub with_arms : CoordinatorMachine → Arms → CoordinatorMachine
with_arms machine arms =
    record machine { journal = after_device machine.journal machine.journal.status arms 0 }
