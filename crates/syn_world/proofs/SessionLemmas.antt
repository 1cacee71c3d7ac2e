-- A call of the coordinator is a step of the world, and its lists grow so.
use Rattle.std.proofs.Common.{◌≡◌, ◌∙◌, ◌++◌, [], ℕ, List, Some, ap, ap₂, refl, subst, sym}
use Rattle.std.proofs.lemmas.List.{append-nil}
use Rattle.std.specs.Prelude.{IfSome, Result, slice_get}
use Rattle.syn_disk.specs.declared.disk.Disk.{Ghosts}
use Rattle.syn_machine.specs.Coordinator.{Call, CoordinatorMachine, CoordinatorTakes}
use Rattle.syn_machine.specs.Coordinator.{CoordinatorTicks, no_call}
use Rattle.syn_machine.specs.Network.{Answers, Which}
use Rattle.syn_machine.specs.Side.{Reply}
use Rattle.syn_runs.specs.World.{World as ModelWorld, CoordinatorDoes, Deliver, Delivers, Steps}
use Rattle.syn_runs.specs.World.{Tick, Ticks, coordinator_does, coordinator_goes, ticks}
use Rattle.syn_runs.specs.World.{to_coordinator}
use Rattle.syn_runs.specs.World as model
use Rattle.syn_world.specs.CoordinatorSteps.{CallIsStep, Unrefused}
use Rattle.syn_world.specs.Coordinators.{CoordinatorStep, IsCoordinator, archive_disk}
use Rattle.syn_world.specs.Outcomes.{Tells}
use Rattle.syn_world.specs.declared.coordinator.CoordinatorCall.{CoordinatorCall}
use Rattle.syn_model.specs.Refusal.{Refusal}
use Rattle.syn_journal.specs.Calls.{CountsNoMore}
use Rattle.syn_world.specs.Failures.{disks_in, failures_in, last_of}
use Rattle.syn_world.specs.Worlds.{EndsSo, Goes, GoesSo, IsListed, IsRunning, RunsMachines}
use Rattle.syn_world.specs.declared.running.Running.{Running}
use Rattle.syn_world.proofs.FailureLemmas.{archive_counts}

-- the world after a call of its coordinator
abbrev pub coordinator_next : ModelWorld → CoordinatorMachine → Call → List Refusal → ModelWorld
coordinator_next old machine made refusals =
    record (coordinator_goes old machine made) { refusals = old.refusals ++ refusals }

-- with these lists
abbrev listed : ModelWorld → List Refusal → ModelWorld
listed old refusals = record old {
  sent = old.sent ++ [];
  acknowledged = old.acknowledged ++ [];
  reports = old.reports ++ [];
  log = old.log ++ [];
  refusals = refusals;
}

same_lists : (old : ModelWorld) (refusals : List Refusal)
    → listed old refusals ≡ record old { refusals = refusals }
same_lists old refusals =
    ap₂ (λ s a. record (listed old refusals) { sent = s; acknowledged = a })
    (append-nil old.sent) (append-nil old.acknowledged)
    ∙ ap₂ (λ r l. record old { refusals = refusals; reports = r; log = l })
    (append-nil old.reports) (append-nil old.log)

-- nothing happened
pub eq_same : (old : ModelWorld) → coordinator_next old old.coordinator no_call [] ≡ old
eq_same old = same_lists old (old.refusals ++ [])
    ∙ ap (λ r. record old { refusals = r }) (append-nil old.refusals)

-- no user was refused
eq_goes : (old : ModelWorld) (next : CoordinatorMachine) (made : Call)
    → coordinator_next old next made [] ≡ coordinator_goes old next made
eq_goes old next made =
    ap (λ r. record (coordinator_goes old next made) { refusals = r }) (append-nil old.refusals)

module _ (old : ModelWorld) (next : CoordinatorMachine) (made : Call)
    (refusals : List Refusal) where
  abbrev new : ModelWorld
  new = coordinator_next old next made refusals

  -- a step that refuses nothing
  unrefused : (none : refusals ≡ []) → new ≡ coordinator_goes old next made
  unrefused none = ap (coordinator_next old next made) none ∙ eq_goes old next made

  pub lift_tick : Unrefused (CoordinatorTicks old.coordinator) next made refusals
      → Steps old Tick (coordinator_next old next made refusals)
  lift_tick ticked = subst (Ticks old) (sym (unrefused ticked.none)) (ticks next made ticked.step)

  pub lift_reply : (message : ℕ) (from : Which) (session number : ℕ) (reply : Reply)
      → slice_get old.sent message ≡ Some (Answers from session number reply)
      → Unrefused (CoordinatorTakes old.pair old.coordinator from session number reply) next made
      refusals
      → Steps old (Deliver message) (coordinator_next old next made refusals)
  lift_reply message from session number reply is taken =
      subst (λ o. Delivers old o new) (sym is)
      (subst (Delivers old (Some (Answers from session number reply)))
      (sym (unrefused taken.none))
      (to_coordinator from session number reply next made taken.step))

pub lift_coordinator : (old : ModelWorld) (So : CoordinatorStep) (next : CoordinatorMachine)
    (made : Call) (refusals : List Refusal) → So next made refusals
    → CoordinatorDoes old So (coordinator_next old next made refusals)
lift_coordinator old So next made refusals step = coordinator_does next made refusals step

-- the world after a call is one of the model's
module _ {D : Type 0} {disk : Ghosts D} (world : Running D disk) (old : ModelWorld)
    (is : IsRunning world old) (call : CoordinatorCall D disk)
    (result : Result (Running D disk) (Running D disk)) where
  -- what came of it is told so
  abbrev ToldBy : Type 0
  ToldBy = (was new : ModelWorld) (made : Call) (refusals : List Refusal)
      → RunsMachines (record world { coordinator = call.coordinator }) new
      → IsListed world.lists was → IfSome call.outcome (λ told. Tells told made refusals)
      → Goes was new made refusals → EndsSo result new

  pub goes_so : (step : model.Step) (next : CoordinatorMachine) (made : Call)
      (refusals : List Refusal) → IsCoordinator old.pair call.coordinator next
      → IfSome call.outcome (λ told. Tells told made refusals)
      → Steps old step (coordinator_next old next made refusals)
      → CountsNoMore (disk.failures (archive_disk world.coordinator))
      (disk.failures (archive_disk call.coordinator)) old.coordinator.journal next.journal
      → disks_in (last_of result) ≡ disks_in (record world { coordinator = call.coordinator })
      → ToldBy → GoesSo old (failures_in world) step result
  goes_so step next made refusals host tells steps counts same told = record {
    new = coordinator_next old next made refusals;
    steps = steps;
    ends = told old (coordinator_next old next made refusals) made refusals (record {
      pair = is.machines.pair;
      left = is.machines.left;
      right = is.machines.right;
      coordinator = host;
    }) is.lists tells (record {
      sent = refl;
      acknowledged = refl;
      reports = refl;
      refusals_are = refl;
    });
    counts = archive_counts disk old (coordinator_next old next made refusals) (disks_in world)
        (disks_in (last_of result)) (archive_disk call.coordinator) same counts refl refl;
  }

pub goes_coordinator : {D : Type 0} {disk : Ghosts D} (world : Running D disk)
    (old : ModelWorld) (is : IsRunning world old) (Whole : CoordinatorStep)
    (call : CoordinatorCall D disk)
    (so : CallIsStep old.pair old.coordinator (disk.failures (archive_disk world.coordinator))
    Whole call)
    (result : Result (Running D disk) (Running D disk)) (step : model.Step)
    → (Whole so.goes.next so.made so.refusals
    → Steps old step (coordinator_next old so.goes.next so.made so.refusals))
    → disks_in (last_of result) ≡ disks_in (record world { coordinator = call.coordinator })
    → ToldBy world old is call result → GoesSo old (failures_in world) step result
goes_coordinator world old is Whole call so result step lift same told =
    goes_so world old is call result step so.goes.next so.made so.refusals so.goes.is so.tells
    (lift so.goes.step) so.goes.counts same told
