-- What is armed at a coordinator, and a stop of it, are steps of its machine.
use Rattle.std.proofs.Common.{◌≡◌, ◌≢◌, ◌∙◌, ℕ, None, Option, Some, inl, inr, refl, sym, ap}
use Rattle.syn_disk.specs.declared.disk.Disk.{Ghosts}
use Rattle.syn_machine.specs.Coordinator.{CoordinatorMachine, coordinator_kind, running_after}
use Rattle.syn_machine.specs.Machine.{Status, Up, Halted, Down, Arms, after_device, unarmed}
use Rattle.syn_machine.specs.MachineSteps.{with_device}
use Rattle.syn_machine.specs.Session.{Running}
use Rattle.syn_coordinator.specs.Coordinators.{Stands, with_arms}
use Rattle.syn_coordinator.specs.Machines.{Journal}
use Rattle.syn_coordinator.specs.Tries.{Tries}
use Rattle.syn_coordinator.specs.declared.tried.TriedRecord.{TriedRecord}
use Rattle.syn_coordinator.specs.declared.coordinator.Coordinator.{Coordinator as Session}
use Rattle.syn_world.proofs.SideLemmas.{halted_not_down, up_not_down}

down_not_up : Down ≢ Up
down_not_up e = up_not_down (sym e)

-- what was tried is remembered as its machine stops
pub tries_stopped : (tried : Option TriedRecord) (machine : Journal)
    → Tries tried machine → Tries tried (after_device machine Down unarmed 0)
tries_stopped None machine tries = tries
tries_stopped (Some tried) machine tries = record {
  stopped = down_not_up;
  writing = tries.writing;
  room_is = tries.room_is;
  generation_is = tries.generation_is;
  fits = tries.fits;
}

module _ {D : Type 0} {disk : Ghosts D} (pair : ℕ) (coordinator : Session D disk)
    (machine : CoordinatorMachine) (stands : Stands coordinator pair machine) where
  pub is_not_down : machine.journal.status ≢ Down
  is_not_down down = elim stands.journal.state [
    | inl was ↦ up_not_down (sym was.up ∙ down)
    | inr failed ↦ halted_not_down (sym failed.halted ∙ down)
  ]

still_runs : (status : Status) (running : Option Running) → status ≢ Down
    → running ≡ running_after status running
still_runs Up running other = refl
still_runs Halted running other = refl
still_runs Down running other = absurd (other refl)

-- a machine that is not down keeps its session as its device is armed
pub same_arms : (pair : ℕ) (machine : CoordinatorMachine) (arms : Arms)
    → machine.journal.status ≢ Down → with_arms machine arms
    ≡ with_device (coordinator_kind pair) machine machine.journal.status arms 0
same_arms pair machine arms other =
    ap (λ r. record {
      journal = after_device machine.journal machine.journal.status arms 0;
      running = r;
    }) (still_runs machine.journal.status machine.running other)
