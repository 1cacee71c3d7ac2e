-- What an opening of a coordinator's disk gives, whose machine was down.
use Rattle.std.specs.Prelude.{◌≡◌, ℕ, List, [], ◌∷◌, Option, None}
use Rattle.syn_coordinator.specs.Coordinators.{Stands}
use Rattle.syn_coordinator.specs.declared.coordinator.Coordinator.{Coordinator}
use Rattle.syn_disk.specs.Arms.{Arms as DiskArms}
use Rattle.syn_disk.specs.declared.disk.Disk.{Ghosts}
use Rattle.syn_machine.specs.Coordinator.{CoordinatorMachine, coordinator_kind, no_call}
use Rattle.syn_machine.specs.MachineSteps.{OpensDown}
use Rattle.syn_coordinator.specs.Tries.{Tries}
use Rattle.syn_archive.specs.Keepings.{of_archive}
use Rattle.syn_journal.specs.Machines.{Rests}
use Rattle.syn_coordinator.specs.declared.tried.TriedRecord.{TriedRecord}
use Rattle.syn_model.specs.Archive.{Kept}
use Rattle.syn_model.specs.Path.{Bytes}
use Rattle.syn_model.specs.Refusal.{Refusal}

-- The machine is down and rests on the device; it runs no session, and this was tried last
pub record RestsWith {D : Type 0} (arms : D → DiskArms) (may_leave : D → Bytes → Type 0)
    (pair : ℕ) (device : D) (tried : Option TriedRecord)
    (machine : CoordinatorMachine) : Type 0 where
  pub rests : Rests arms may_leave (of_archive pair) device machine.journal
  pub idle : machine.running ≡ None
  pub tries : Tries tried machine.journal

-- the coordinator is the machine that was opened, which gave this
pub record OpensAs {D : Type 0} {disk : Ghosts D} (coordinator : Coordinator D disk) (pair : ℕ)
    (machine : CoordinatorMachine) (kept : List Kept) : Type 0 where
  pub next : CoordinatorMachine
  pub opens : OpensDown (coordinator_kind pair) machine next (record no_call { kept = kept }) []
  pub stands : Stands coordinator pair next

-- the machine is still down, and was refused so
pub record RestsStill {D : Type 0} (arms : D → DiskArms) (may_leave : D → Bytes → Type 0)
    (pair : ℕ) (device : D) (tried : Option TriedRecord) (machine : CoordinatorMachine)
    (reason : Refusal) : Type 0 where
  pub next : CoordinatorMachine
  pub opens : OpensDown (coordinator_kind pair) machine next no_call (reason ∷ [])
  pub rests : RestsWith arms may_leave pair device tried next
