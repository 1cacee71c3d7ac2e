-- What a session that runs is at: it scans both sides, or it carries out its plan.
use Rattle.std.specs.Prelude.{◌≡◌, ◌<◌, ◌^◌, ◌⊎◌, ℕ, suc, List, [], ◌∷◌, map, filter_map}
use Rattle.std.specs.Prelude.{length, take, slice_get, Option, Some, None, All, Contains}
use Rattle.syn_machine.specs.Coordinator.{AreRising, Outstanding, Running, without}
use Rattle.syn_machine.specs.Network.{Which, Left, Right, other}
use Rattle.syn_machine.specs.Planning.{Planned, WritesTo, seen_on}
use Rattle.syn_machine.specs.Report.{conflict_at, is_carrying, is_marking}
use Rattle.syn_machine.specs.Session.{BothBegun, Exchange, WasTaken, record_for}
use Rattle.syn_machine.specs.Side.{Request, Begin, ListAt, Fetch, Stage, Replace, Begun}
use Rattle.syn_message.specs.Requests.{request_of}
use Rattle.syn_model.specs.Archive.{Kept, kept_refusal}
use Rattle.syn_model.specs.Archive as model
use Rattle.syn_model.specs.Decision.{path_of}
use Rattle.syn_model.specs.Path.{Path}
use Rattle.syn_model.specs.Plan.{plan as planned_items}
use Rattle.syn_model.specs.Refusal.{Refusal}
use Rattle.syn_model.specs.Tree.{Tree}
use Rattle.syn_propagate.specs.Carrying.{source_of, target_of}
use Rattle.syn_propagate.specs.Transfers.{WaitsFor as TransferWaitsFor, spec_of}
use Rattle.syn_propagate.specs.declared.transfer_spec.TransferSpec.{TransferSpec}
use Rattle.syn_propagate.specs.declared.transfer.Transfer.{Transfer}
use Rattle.syn_recon.specs.Items.{items_of}
use Rattle.syn_refusal.specs.Refusals.{cause_of}
use Rattle.syn_scan.specs.Found.{Found, scan_of}
use Rattle.syn_session.specs.Plans.{AreRecordedBefore, Plan, planned_all, recorded_count}
use Rattle.syn_session.specs.Scanning.{IsFoundIn, WaitsFor, found_of}
use Rattle.syn_session.specs.declared.plan_progress.Carrying.{Carrying}
use Rattle.syn_session.specs.declared.plan_progress.PlanProgress.{PlanProgress}
use Rattle.syn_session.specs.declared.peer.PeerState.{PeerState}
use Rattle.syn_session.specs.declared.requests.UnansweredRequest.{UnansweredRequest}
use Rattle.syn_session.specs.declared.session.Session.{Session}
use Rattle.syn_image.specs.Archives.{kept_for}

abbrev pub outstanding_of : UnansweredRequest → Outstanding
outstanding_of waiting = record {
  number = waiting.message.value.number;
  request = request_of waiting.message.value.request;
  resent = waiting.resent;
}

-- what waits on a side
abbrev pub waiting_of : PeerState → List Outstanding
waiting_of peer = map outstanding_of peer.waiting.items

-- each request that waits on the side is one of that session
abbrev pub AreOfSession : ℕ → PeerState → Type 0
AreOfSession session peer = All (λ one. one.message.value.session ≡ session) peer.waiting.items

abbrev pub requests_on : PeerState → List Request
requests_on peer = map (λ one. one.request) (waiting_of peer)

-- the request of that number waits no more, where no other has it
pub record HasTaken (old new : PeerState) (number : ℕ) : Type 0 where
  pub waits : AreRising (waiting_of old) → waiting_of new ≡ without number (waiting_of old)
  pub of_session : (session : ℕ) → AreOfSession session old → AreOfSession session new

abbrev pub peer_of : Session → Which → PeerState
peer_of session Left = session.left
peer_of session Right = session.right

-- what was found on a side so far
abbrev pub found_on : Session → Which → Found
found_on session side = found_of (peer_of session side).scan

-- what was found on both sides is what they answered
abbrev pub IsFoundOnBoth : Session → List Exchange → Type 0
IsFoundOnBoth session taken = (side : Which) → IsFoundIn (found_on session side) side taken

-- How far a session came: its plan, the item that it has come to, and what it recorded and refused
pub record Reached : Type 0 where
  pub plan : Option Plan
  pub cursor : ℕ
  pub kept : List Kept
  pub refused : List (Refusal × Path)

abbrev pub reached_by : Running → Reached
reached_by running = record {
  plan = running.plan;
  cursor = running.cursor;
  kept = running.kept;
  refused = running.refused;
}

-- While it scans

-- a session without a plan has recorded and refused nothing
abbrev pub nothing_reached : Reached
nothing_reached = record { plan = None; cursor = 0; kept = []; refused = [] }

-- the side is to begin the session, or did
abbrev pub IsToBegin : Session → List Exchange → Which → Type 0
IsToBegin session taken side =
    ((pair : ℕ) × (requests_on (peer_of session side) ≡ Begin pair ∷ []))
    ⊎ ((requests_on (peer_of session side) ≡ []) × (pair : ℕ) × (position : ℕ)
    × WasTaken taken side (Begin pair) (Begun position))

-- what waits on the side are the listings of directories that are out
abbrev pub IsToList : Session → Which → Type 0
IsToList session side = (request : Request) →
    Contains (requests_on (peer_of session side)) request →
    (path : Path) × (request ≡ ListAt path) × WaitsFor (peer_of session side).scan path

-- no directory is listed before both sides have begun
pub data IsBeginningOrListing (session : Session) (taken : List Exchange) : Type 0 where
  begins : ((side : Which) → IsToBegin session taken side) → IsBeginningOrListing session taken
  lists : BothBegun taken → ((side : Which) → IsToList session side) →
      IsBeginningOrListing session taken

-- nothing but begins and listings was asked for
abbrev pub IsOfScan : Request → Type 0
IsOfScan (Begin pair) = Unit {0}
IsOfScan (ListAt path) = Unit {0}
IsOfScan _ = ⊥

abbrev pub AreOfScan : List Exchange → Type 0
AreOfScan taken = (exchange : Exchange) → Contains taken exchange → IsOfScan exchange.request

pub record IsScanning (session : Session) (taken : List Exchange) (reached : Reached)
    : Type 0 where
  pub nothing : reached ≡ nothing_reached
  pub of_scan : AreOfScan taken
  pub at : IsBeginningOrListing session taken
  pub out : (side : Which) (path : Path) → WaitsFor (peer_of session side).scan path →
      Contains (requests_on (peer_of session side)) (ListAt path)

-- While it carries out its plan

-- the plan, with what the scans of both sides have at each path
abbrev pub plan_in : PlanProgress → Found → Found → Plan
plan_in progress left right = planned_all left right (items_of progress.items.items)

-- what it has come to, and what it tells of the items before
pub record IsPlanProgress (progress : PlanProgress) (left right : Found) (reached : Reached)
    : Type 0 where
  pub plan : reached.plan ≡ Some (plan_in progress left right)
  pub made : (preference : Option Which) × (archive : Tree)
      × (items_of progress.items.items
      ≡ planned_items preference (scan_of left) (scan_of right) archive)
  pub short : length progress.items.items < 2 ^ 32
  pub cursor : reached.cursor ≡ progress.cursor
  pub recorded : AreRecordedBefore (plan_in progress left right) progress.cursor reached.kept
  pub done : recorded_count is_carrying (plan_in progress left right) reached.kept ≡ progress.done
  pub marked : recorded_count is_marking (plan_in progress left right) reached.kept ≡
      progress.marked
  pub conflicts : filter_map (λ planned. conflict_at planned.item)
      (take progress.cursor (plan_in progress left right)) ≡ progress.conflicts.items
  pub refused : reached.refused ≡ map (λ one. (cause_of one.0, one.1)) progress.refused.items

-- the request is for an item before that one, or for none
abbrev pub IsAskedBefore : Plan → ℕ → Request → Type 0
IsAskedBefore plan cursor (Begin pair) = Unit {0}
IsAskedBefore plan cursor (ListAt path) = Unit {0}
IsAskedBefore plan cursor (Fetch path since offset) = (at : ℕ) × (planned : Planned)
    × (at < cursor) × (slice_get plan at ≡ Some planned) × (path ≡ path_of planned.item)
IsAskedBefore plan cursor (Stage item offset bytes) = item < cursor
IsAskedBefore plan cursor (Replace item path since size) = item < cursor

abbrev pub AreAskedBefore : Plan → ℕ → List Exchange → Type 0
AreAskedBefore plan cursor taken = (exchange : Exchange) → Contains taken exchange
    → IsAskedBefore plan cursor exchange.request

-- the spec is that of the item with the number
pub record IsCarriageOf (spec : TransferSpec) (planned : Planned) (item : ℕ) : Type 0 where
  pub item_is : spec.item ≡ item
  pub path_is : spec.path ≡ path_of planned.item
  pub writes : WritesTo planned.item (target_of spec) spec.path
  pub source_since : spec.source_since ≡ (seen_on planned (source_of spec)).since
  pub target_since : spec.target_since ≡ (seen_on planned (target_of spec)).since

-- it is carried for the item, and the archive does not refuse its record
pub record IsCarriedFor (archive : model.Archive) (carrying : Carrying) (planned : Planned)
    (item : ℕ) : Type 0 where
  pub spec : IsCarriageOf (spec_of carrying.transfer) planned item
  pub record_is : record_for planned planned.item ≡ Some (kept_for carrying.item_record)
  pub can : kept_refusal archive (kept_for carrying.item_record) ≡ None

-- the item at the cursor is carried, by a transfer of which this holds
pub record Carries (archive : model.Archive) (progress : PlanProgress) (left right : Found)
    (taken : List Exchange) (reached : Reached) (Is : Transfer → Type 0) : Type 0 where
  pub progress_is : IsPlanProgress progress left right reached
  pub carrying : Carrying
  pub is_carried : progress.carrying ≡ Some carrying
  pub planned : Planned
  pub at : slice_get (plan_in progress left right) progress.cursor ≡ Some planned
  pub carries : IsCarriedFor archive carrying planned progress.cursor
  pub asked : AreAskedBefore (plan_in progress left right) (suc progress.cursor) taken
  pub is : Is carrying.transfer

-- and waits for the answer to one request
pub record IsCarrying (archive : model.Archive) (session : Session) (progress : PlanProgress)
    (taken : List Exchange) (reached : Reached) : Type 0 where
  pub to : Which
  pub request : Request
  pub waits : requests_on (peer_of session to) ≡ request ∷ []
  pub alone : requests_on (peer_of session (other to)) ≡ []
  pub carries : Carries archive progress (found_on session Left) (found_on session Right) taken
      reached (λ transfer. TransferWaitsFor transfer taken to request)
