-- A session that runs, as the model has it.
use Rattle.std.specs.List.{list_any}
use Rattle.std.specs.Prelude.{◌≡◌, ◌<◌, ◌≤◌, ◌^◌, ℕ, suc, Bool, nat_le, List, [], ◌∷◌, ◌++◌, nat_lt}
use Rattle.std.specs.Prelude.{All, is_some, not, ◌&&◌, ◌||◌, if◌then◌else◌, Option, Some, None}
use Rattle.syn_machine.specs.Coordinator.{Outstanding, Running, begins, asking, new_session}
use Rattle.syn_machine.specs.Coordinator.{messages_to, once_more, outstanding, asked_count}
use Rattle.syn_machine.specs.Coordinator.{AreRising, AsksOnce, Exchange, MayWait}
use Rattle.syn_machine.specs.Coordinator.{most_resends}
use Rattle.syn_machine.specs.Network.{Which, Left, Right, Message}
use Rattle.syn_machine.specs.Report.{End, Complete, Incomplete}
use Rattle.syn_machine.specs.Side.{Request, Begin}
use Rattle.syn_model.specs.Archive as model
use Rattle.syn_model.specs.Refusal.{Refusal}
use Rattle.syn_scan.specs.Found.{Found}
use Rattle.syn_session.specs.Sendings.{messages_waiting}
use Rattle.syn_session.specs.Stages.{AreOfSession, IsCarrying, IsFoundOnBoth, IsPlanProgress}
use Rattle.syn_session.specs.Stages.{IsScanning, Reached, nothing_reached, peer_of, reached_by}
use Rattle.syn_session.specs.Stages.{waiting_of}
use Rattle.syn_session.specs.declared.plan_progress.PlanProgress.{PlanProgress}
use Rattle.syn_session.specs.declared.peer.PeerState.{PeerState}
use Rattle.syn_session.specs.declared.requests.UnansweredRequest.{UnansweredRequest}
use Rattle.syn_session.specs.declared.session.Session.{Session}
use Rattle.std.specs.Prelude.{option_map}
use Rattle.syn_path.specs.Sides.{which_of}

abbrev pub asks : ℕ → Request → Outstanding
asks number request = record { number = number; request = request; resent = 0 }

abbrev pub begin_of : ℕ → List Outstanding
begin_of pair = asks 0 (Begin pair) ∷ []

abbrev pub once_later : Outstanding → Outstanding
once_later one = record one { resent = suc one.resent }

-- a request that was sent once more, as it was
abbrev pub sent_again : UnansweredRequest → UnansweredRequest
sent_again one = record one { resent = suc one.resent }

abbrev pub is_worn_out : List Outstanding → Bool
is_worn_out waiting = list_any (λ one. nat_le most_resends one.resent) waiting

-- what waits on the side is what its state has, and so many requests were sent there
pub record IsPeer (peer : PeerState) (running : Running) (side : Which) : Type 0 where
  pub waits : outstanding running side ≡ waiting_of peer
  pub count : asked_count running side ≡ peer.next_number
  pub few : peer.next_number ≤ 2 ^ 32
  pub of_session : AreOfSession running.session peer
  pub rising : AreRising (waiting_of peer)
  pub below : All (λ one. one.number < peer.next_number) (waiting_of peer)
  pub may : MayWait (waiting_of peer)

-- it scans both sides, or it goes through its plan
abbrev pub IsStage : model.Archive → Session → Option PlanProgress → List Exchange → Reached →
    Type 0
IsStage archive session None taken reached = IsScanning session taken reached
IsStage archive session (Some progress) taken reached =
    IsCarrying archive session progress taken reached

-- The session is the running one of a machine that has this archive
pub record IsSession (archive : model.Archive) (session : Session) (running : Running)
    : Type 0 where
  pub number : running.session ≡ session.number
  pub preference : running.preference ≡ option_map which_of session.preference
  pub lawful : session.number < 2 ^ 64
  pub peer : (side : Which) → IsPeer (peer_of session side) running side
  pub once : AsksOnce running
  pub found : IsFoundOnBoth session running.taken
  pub stage : IsStage archive session session.progress running.taken (reached_by running)

-- both run no session, or the same one
abbrev pub IsRunning : model.Archive → Option Session → Option Running → Type 0
IsRunning archive None None = Unit {0}
IsRunning archive (Some session) (Some running) = IsSession archive session running
IsRunning archive _ _ = ⊥

-- what it tells of how far it came: nothing without a plan
abbrev pub TellsOf : Option PlanProgress → Reached → Type 0
TellsOf None reached = reached ≡ nothing_reached
TellsOf (Some progress) reached =
    (left : Found) × (right : Found) × IsPlanProgress progress left right reached

pub record Tells (session : Session) (running : Running) : Type 0 where
  pub number : running.session ≡ session.number
  pub found : IsFoundOnBoth session running.taken
  pub told : TellsOf session.progress (reached_by running)

-- how a session ends, by what ended it early, how many items were refused, and whether a path was
-- unstable
abbrev pub end_by : Option Refusal → ℕ → Bool → End
end_by ended refused unstable = if not (is_some ended) && not (nat_lt 0 refused) && not unstable
    then Complete else Incomplete

-- both sides are to begin it
abbrev pub begun : Option Which → ℕ → ℕ → Running
begun preference number pair =
    asking (new_session preference number) (begins pair) (begins pair)

abbrev pub messages_now : Session → List Message
messages_now session = messages_waiting Left session.left ++ messages_waiting Right session.right

abbrev pub begin_messages : ℕ → ℕ → List Message
begin_messages number pair = messages_to number Left (begin_of pair)
    ++ messages_to number Right (begin_of pair)

abbrev pub is_worn_now : Session → Bool
is_worn_now session = is_worn_out (waiting_of session.left)
    || is_worn_out (waiting_of session.right)

-- each request that waits is sent again
abbrev pub resent_once : Running → Running
resent_once running = record running {
  left = once_more running.left;
  right = once_more running.right;
}
