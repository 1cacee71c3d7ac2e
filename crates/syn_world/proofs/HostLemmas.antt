-- A side whose machine is down, or is open already, stays as it is.
use Rattle.std.proofs.Common.{◌≡◌, ◌∙◌, ℕ, [], ap, arith, refl, sym, subst}
use Rattle.syn_disk.specs.declared.disk.Disk.{Ghosts}
use Rattle.syn_machine.specs.Machine.{Down}
use Rattle.syn_machine.specs.MachineSteps.{OpensDown, is_open}
use Rattle.syn_machine.specs.SideMachine.{SideMachine, side_kind}
use Rattle.syn_world.specs.Outcomes.{Acknowledges, refused_in}
use Rattle.syn_world.specs.SideSteps.{SideStep}
use Rattle.syn_world.specs.Sides.{CallIsStep, IsHost, IsStep, side_disk}
use Rattle.syn_world.specs.declared.outcome.SideOutcome.TheVariants.{Nothing}
use Rattle.syn_world.specs.declared.side.DownSide.{DownSide}
use Rattle.syn_world.specs.declared.side.SideCall.{SideCall}
use Rattle.syn_world.specs.declared.side.SideHost.{SideHost}
use Rattle.syn_world.specs.declared.side.SideHost.TheVariants as host
use Rattle.syn_world.specs.declared.side.UpSide.{UpSide}
use Rattle.syn_world.proofs.SideLemmas.{not_down}

module _ {D : Type 0} {disk : Ghosts D} (pair : ℕ) (self : SideHost D disk) (side : DownSide D)
    (machine : SideMachine) (self_is : self ≡ host.Down side) (is : IsHost pair self machine) where
  rests : IsHost {D = D} {disk = disk} pair (host.Down side) machine
  rests = subst (λ s. IsHost pair s machine) self_is is

  pub down : machine.journal.status ≡ Down
  down = rests.rests.down

  -- its disk has counted so many failed calls
  abbrev failed : ℕ
  failed = disk.failures (side_disk self)

  same_count : disk.failures side.disk ≡ failed
  same_count = ap (λ s. disk.failures (side_disk s)) (sym self_is)

  -- nothing is done
  pub stays_down : (Step : SideStep) → Step machine [] []
      → IsStep {D = D} {disk = disk} pair machine failed Step (host.Down side) Nothing
  stays_down Step step = record {
    next = machine;
    events = [];
    step = step;
    acknowledges = refl;
    is = rests;
    counts = omega (arith, same_count);
  }

  module _ (call : SideCall D disk) (side_is : call.side ≡ host.Down side)
      (nothing : call.outcome ≡ Nothing) where
    pub call_down : (Step : SideStep) → Step machine [] []
        → CallIsStep pair machine failed Step call
    call_down Step step =
        subst (λ s. IsStep pair machine failed Step s call.outcome) (sym side_is)
        (subst (λ o. IsStep {D = D} {disk = disk} pair machine failed Step (host.Down side) o)
        (sym nothing) (stays_down Step step))

-- one that is up is not opened
pub open_up : {D : Type 0} {disk : Ghosts D} (pair : ℕ) (self : SideHost D disk)
    (side : UpSide D disk) (machine : SideMachine) → self ≡ host.Up side
    → IsHost pair self machine → (call : SideCall D disk) → call.side ≡ host.Up side
    → call.outcome ≡ Nothing → CallIsStep pair machine (disk.failures (side_disk self))
    (OpensDown (side_kind pair) machine) call
open_up {D} {disk} pair self side machine self_is is call side_is nothing =
    let runs = subst (λ s. IsHost pair s machine) self_is is in
    let same = ap (λ s. disk.failures (side_disk s)) (side_is ∙ sym self_is) in
    record {
      next = machine;
      events = [];
      step = subst (λ o. OpensDown (side_kind pair) machine machine [] (refused_in o))
          (sym nothing) (is_open (not_down pair side machine runs));
      acknowledges = subst (λ o. Acknowledges o []) (sym nothing) refl;
      is = subst (λ s. IsHost pair s machine) (sym side_is) runs;
      counts = omega (arith, same);
    }
