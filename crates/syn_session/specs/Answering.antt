-- A session whose answer has come, and what it asks next.
use Rattle.std.specs.Prelude.{◌≡◌, ◌⊎◌, ◌≤◌, ◌<◌, ◌^◌, ◌+◌, ℕ, length, List, [], ◌∷◌, ◌++◌, map}
use Rattle.std.specs.Prelude.{Some, option_map}
use Rattle.syn_machine.specs.Coordinator.{AsksOnce, Exchange, Running, asked_in, messages_to}
use Rattle.syn_machine.specs.Coordinator.{numbered}
use Rattle.syn_machine.specs.Network.{Message, Which, Left, Right, other}
use Rattle.syn_machine.specs.Side.{ListAt, Reply, Request}
use Rattle.syn_message.specs.Requests.{request_of}
use Rattle.syn_path.specs.declared.side.Side.{Side}
use Rattle.syn_path.specs.declared.side.Side.TheVariants as to
use Rattle.syn_session.specs.Sessions.{IsPeer}
use Rattle.syn_session.specs.Stages.{AreOfSession, HasTaken, peer_of, waiting_of}
use Rattle.syn_session.specs.declared.peer.PeerState.{PeerState}
use Rattle.syn_session.specs.declared.session.Asks.{Asks}
use Rattle.syn_session.specs.declared.session.Asks.TheVariants.{Listings, One}
use Rattle.syn_session.specs.declared.session.Session.{Session}
use Rattle.syn_path.specs.Sides.{which_of}

-- this request waited on the side, and waits no more; all else stays
pub record IsAnswering (old new : Session) (side : Which) (number : ℕ) (request : Request)
    : Type 0 where
  pub asked : asked_in (waiting_of (peer_of old side)) number ≡ Some request
  pub taken : HasTaken (peer_of old side) (peer_of new side) number
  pub count : (peer_of new side).next_number ≡ (peer_of old side).next_number
  pub scan : (peer_of new side).scan ≡ (peer_of old side).scan
  pub across : peer_of new (other side) ≡ peer_of old (other side)
  pub number_is : new.number ≡ old.number
  pub preference_is : new.preference ≡ old.preference
  pub progress : new.progress ≡ old.progress

-- a session with these exchanges, whatever it is at
pub record IsHeard (session : Session) (running : Running) : Type 0 where
  pub number : running.session ≡ session.number
  pub preference : running.preference ≡ option_map which_of session.preference
  pub lawful : session.number < 2 ^ 64
  pub peer : (side : Which) → IsPeer (peer_of session side) running side
  pub once : AsksOnce running

-- what is asked of a side where that side alone is asked
abbrev pub asks_alone : Side → Which → Request → List Request
asks_alone to.Left Left request = request ∷ []
asks_alone to.Left Right request = []
asks_alone to.Right Left request = []
asks_alone to.Right Right request = request ∷ []

-- what is asked of a side
abbrev pub asks_of : Asks → Which → List Request
asks_of (Listings left right) Left = map ListAt left.items
asks_of (Listings left right) Right = map ListAt right.items
asks_of (One wanted) side = asks_alone wanted.to side (request_of wanted.request)

-- an answer of a side, to what it was asked
abbrev pub exchange_of : Which → ℕ → Request → Reply → Exchange
exchange_of side number request reply =
    record { side = side; number = number; request = request; reply = reply }

-- the side is asked for what comes now, in that session
pub record IsAskedOn (session : ℕ) (old new : PeerState) (requests : List Request) : Type 0 where
  pub waits : waiting_of new ≡ waiting_of old ++ numbered old.next_number requests
  pub count : new.next_number ≡ old.next_number + length requests
  pub few : (requests ≡ []) ⊎ (new.next_number ≤ 2 ^ 32)
  pub of_session : AreOfSession session old → AreOfSession session new
  pub scan : new.scan ≡ old.scan

abbrev pub messages_asked : Session → Asks → List Message
messages_asked session asks =
    messages_to session.number Left (numbered session.left.next_number (asks_of asks Left))
    ++ messages_to session.number Right (numbered session.right.next_number (asks_of asks Right))
