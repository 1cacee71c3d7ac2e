-- An answer that a coordinator has taken.
use Rattle.std.specs.Prelude.{◌≡◌, ℕ, true, List, [], if◌then◌else◌}
use Rattle.syn_coordinator.specs.Coordinators.{Stands, device_of, in_report, report_shown, runs}
use Rattle.syn_coordinator.specs.Coordinators.{tried_shown}
use Rattle.syn_coordinator.specs.declared.coordinator.Coordinator.{Coordinator}
use Rattle.syn_disk.specs.Arms.{is_stopped}
use Rattle.syn_disk.specs.declared.disk.Disk.{Ghosts}
use Rattle.syn_machine.specs.Coordinator.{Call, CoordinatorMachine, Exchange, Running, Takes}
use Rattle.syn_machine.specs.Machine.{Down}
use Rattle.syn_machine.specs.Network.{Message}
use Rattle.syn_machine.specs.Report.{Report}
use Rattle.syn_coordinator.specs.Machines.{LeavesMachine}
use Rattle.syn_coordinator.specs.Tries.{Tries}
use Rattle.syn_model.specs.Archive.{Kept}

-- what a session reported that is over
abbrev pub reported : {D : Type 0} → {disk : Ghosts D} → Coordinator D disk → List Report
reported coordinator = if runs coordinator then [] else in_report (report_shown coordinator)

-- the machine goes on, or it went down
pub data Answered {D : Type 0} {disk : Ghosts D} (new : Coordinator D disk) (pair : ℕ)
    (machine : CoordinatorMachine) (running : Running) (taken : Exchange) (kept : List Kept)
    (messages : List Message) : Type 0 where
  goes_on : (now : CoordinatorMachine) (call : Call) →
      Takes pair machine running taken now call → Stands new pair now → call.kept ≡ kept →
      call.messages ≡ messages → call.reports ≡ reported new →
      Answered new pair machine running taken kept messages
  goes_down : (now : CoordinatorMachine) (call : Call) →
      Takes pair machine running taken now call →
      is_stopped (disk.arms (device_of new)) ≡ true → now.journal.status ≡ Down →
      LeavesMachine disk (device_of new) pair now.journal → call.kept ≡ kept →
      Tries (tried_shown new) now.journal →
      Answered new pair machine running taken kept messages
