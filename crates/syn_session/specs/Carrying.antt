-- An item that is carried, and one that is so no more.
use Rattle.std.specs.Prelude.{◌≡◌, suc, true, List, None, Some, slice_get}
use Rattle.syn_machine.specs.Coordinator.{Exchange}
use Rattle.syn_machine.specs.Planning.{Planned}
use Rattle.syn_machine.specs.Report.{conflict_at, is_carrying}
use Rattle.syn_message.specs.Requests.{request_of}
use Rattle.syn_path.specs.Sides.{which_of}
use Rattle.syn_propagate.specs.Transfers.{Asks as TransferAsks}
use Rattle.syn_propagate.specs.declared.next.SideRequest.{SideRequest}
use Rattle.syn_propagate.specs.declared.transfer.Transfer.{Transfer}
use Rattle.syn_scan.specs.Found.{Found}
use Rattle.syn_session.specs.Stages.{AreAskedBefore, IsPlanProgress, Reached, plan_in}
use Rattle.syn_session.specs.declared.plan_progress.PlanProgress.{PlanProgress}
use Rattle.syn_session.specs.declared.session.Asks.{Asks}
use Rattle.syn_session.specs.declared.session.Asks.TheVariants.{Listings, One}

-- the item at the cursor is carried no further, and no request is out for a later one
pub record IsCarriedOut (progress : PlanProgress) (left right : Found) (all : List Exchange)
    (before : Reached) (planned : Planned) : Type 0 where
  pub progress_is : IsPlanProgress progress left right before
  pub at : slice_get (plan_in progress left right) progress.cursor ≡ Some planned
  pub carries : is_carrying planned.item ≡ true
  pub apart : conflict_at planned.item ≡ None
  pub asked : AreAskedBefore (plan_in progress left right) (suc progress.cursor) all

-- the transfer asks for this
abbrev pub AsksFor : Transfer → List Exchange → SideRequest → Type 0
AsksFor transfer taken wanted =
    TransferAsks transfer taken (which_of wanted.to) (request_of wanted.request)

-- and for no listing
abbrev pub AsksOne : Transfer → List Exchange → Asks → Type 0
AsksOne transfer taken (Listings left right) = ⊥
AsksOne transfer taken (One wanted) = AsksFor transfer taken wanted
