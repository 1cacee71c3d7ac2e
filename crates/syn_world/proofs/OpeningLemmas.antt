-- What an opening of the coordinator's disk found is in the lists of the world.
use Rattle.std.proofs.Common.{◌≡◌, None, Option, Some, IfSome, ap, option_map}
use Rattle.std.specs.Prelude.{Result}
use Rattle.syn_disk.specs.declared.disk.Disk.{Ghosts}
use Rattle.syn_machine.specs.Coordinator.{Call, CoordinatorMachine}
use Rattle.syn_runs.specs.World.{World as ModelWorld, Step, Steps}
use Rattle.syn_world.specs.CoordinatorOpenings.{gives_found}
use Rattle.syn_world.specs.Coordinators.{IsCoordinator, archive_disk}
use Rattle.syn_world.specs.Outcomes.{Tells, causes_in}
use Rattle.syn_world.specs.declared.coordinator.open.CoordinatorOpening.{CoordinatorOpening}
use Rattle.syn_world.specs.declared.outcome.CoordinatorOutcome.{CoordinatorOutcome}
use Rattle.syn_model.specs.Refusal.{Refusal}
use Rattle.std.proofs.Common.{List}
use Rattle.syn_refusal.specs.declared.refusal.Refusal.{Refusal as Code}
use Rattle.syn_coordinator.specs.Coordinators.{in_report}
use Rattle.syn_session.specs.Reports.{report_model}
use Rattle.syn_session.specs.Sendings.{messages_of}
use Rattle.syn_image.specs.declared.kept.Kept.{Kept as Record}
use Rattle.syn_journal.specs.Calls.{CountsNoMore}
use Rattle.syn_world.specs.Failures.{disks_in, failures_in, last_of}
use Rattle.syn_world.specs.Worlds.{EndsSo, Goes, GoesSo, IsListed, IsRunning, RunsMachines}
use Rattle.syn_world.specs.Worlds.{TellsFound}
use Rattle.syn_world.specs.declared.running.Running.{Running}
use Rattle.syn_world.proofs.SessionLemmas.{coordinator_next, goes_so}

-- what is told of an opening is what it kept and was refused
found_tells : (outcome : Option CoordinatorOutcome) (found : Option Record)
    (refused : Option Code) → IfSome outcome (λ o. TellsFound o found refused)
    → IfSome outcome (λ o. Tells o (gives_found found) (causes_in refused))
found_tells None found refused tells = tells
found_tells (Some o) found refused tells = record {
  kept = tells.kept;
  sent = ap messages_of tells.sent;
  reports = ap (λ r. in_report (option_map report_model r)) tells.ended;
  refusals_are = ap causes_in tells.refused_is;
}

-- the world after an opening is one of the model's
module _ {D : Type 0} {disk : Ghosts D} (world : Running D disk) (old : ModelWorld)
    (is : IsRunning world old) (opening : CoordinatorOpening D disk)
    (outcome : Option CoordinatorOutcome)
    (tells : IfSome outcome (λ o. TellsFound o opening.found opening.refused))
    (result : Result (Running D disk) (Running D disk)) where
  pub goes_found : (step : Step) (next : CoordinatorMachine)
      → IsCoordinator old.pair opening.coordinator next
      → Steps old step (coordinator_next old next (gives_found opening.found)
      (causes_in opening.refused))
      → CountsNoMore (disk.failures (archive_disk world.coordinator))
      (disk.failures (archive_disk opening.coordinator)) old.coordinator.journal next.journal
      → disks_in (last_of result) ≡ disks_in (record world { coordinator = opening.coordinator })
      → ((was new : ModelWorld) (made : Call) (refusals : List Refusal)
      → RunsMachines (record world { coordinator = opening.coordinator }) new
      → IsListed world.lists was → IfSome outcome (λ told. Tells told made refusals)
      → Goes was new made refusals → EndsSo result new)
      → GoesSo old (failures_in world) step result
  goes_found step next host steps counts same told =
      goes_so world old is (record {
        coordinator = opening.coordinator;
        outcome = outcome;
      }) result step next (gives_found opening.found) (causes_in opening.refused) host
      (found_tells outcome opening.found opening.refused tells) steps counts same told
