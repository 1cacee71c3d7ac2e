-- What is to be done for an item of the plan.
use Rattle.std.specs.Prelude.{◌≡◌, false, Some, None, slice_get}
use Rattle.syn_machine.specs.Coordinator.{Exchange, IsDue}
use Rattle.syn_machine.specs.Planning.{Planned}
use Rattle.syn_machine.specs.Report.{is_carrying}
use Rattle.syn_machine.specs.Session.{record_for}
use Rattle.syn_model.specs.Decision.{Conflict}
use Rattle.syn_propagate.specs.Transfers.{IsReady, spec_of}
use Rattle.syn_scan.specs.Found.{Found}
use Rattle.syn_session.specs.Stages.{IsCarriageOf, plan_in}
use Rattle.syn_session.specs.declared.plan_progress.PlanProgress.{PlanProgress}
use Rattle.syn_session.specs.declared.doing.Doing.{Doing}
use Rattle.syn_session.specs.declared.doing.Doing.TheVariants as has
use Rattle.syn_image.specs.Archives.{kept_for}

-- what is to be done in the plan of a progress
abbrev pub IsDoing : PlanProgress → Found → Found → Doing → Type 0
IsDoing progress left right has.Nothing = slice_get (plan_in progress left right) progress.cursor ≡
    None
IsDoing progress left right (has.Conflict path) = (planned : Planned)
    × (slice_get (plan_in progress left right) progress.cursor ≡ Some planned)
    × (planned.item ≡ Conflict path)
IsDoing progress left right (has.Mark item_record) = (planned : Planned)
    × (slice_get (plan_in progress left right) progress.cursor ≡ Some planned)
    × (is_carrying planned.item ≡ false)
    × ((taken : Exchange) → IsDue progress.cursor planned taken (kept_for item_record))
IsDoing progress left right (has.Carry carrying) = (planned : Planned)
    × (slice_get (plan_in progress left right) progress.cursor ≡ Some planned)
    × IsCarriageOf (spec_of carrying.transfer) planned progress.cursor
    × (record_for planned planned.item ≡ Some (kept_for carrying.item_record))

-- what is to be carried has asked for nothing yet
abbrev pub BeginsAnew : Doing → Type 0
BeginsAnew (has.Carry carrying) = IsReady carrying.transfer
BeginsAnew _ = Unit {0}
