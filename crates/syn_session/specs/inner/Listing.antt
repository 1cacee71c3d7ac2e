-- What is listed next in a session that scans, and what stays of it.
use Rattle.std.specs.Prelude.{◌≡◌, ◌≢◌, ◌≤◌, ◌+◌, ◌⊎◌, ◌++◌, length, map, List, [], All, AllPairs}
use Rattle.std.specs.Prelude.{Bool, not, nat_eq, nat_lt, ◌&&◌}
use Rattle.syn_machine.specs.Coordinator.{Exchange, most_listings}
use Rattle.syn_machine.specs.Network.{Which, other}
use Rattle.syn_machine.specs.Session.{IsShown}
use Rattle.syn_machine.specs.Side.{ListAt}
use Rattle.syn_model.specs.Path.{IsPath, Path}
use Rattle.syn_scan.specs.Asked.{AreAllOut}
use Rattle.syn_session.specs.Answering.{asks_of}
use Rattle.syn_session.specs.Scanning.{IsFoundIn, WaitsFor, WasAnswered, asked_of, found_of, out_of}
use Rattle.syn_session.specs.Stages.{found_on, peer_of, waiting_of}
use Rattle.syn_session.specs.declared.hearing.Heard.{Heard}
use Rattle.syn_session.specs.declared.hearing.Heard.TheVariants.{Ask, Scanned}
use Rattle.syn_session.specs.declared.peer.PeerState.{PeerState}
use Rattle.syn_session.specs.declared.session.Asks.{Asks}
use Rattle.syn_session.specs.declared.session.Session.{Session}

-- a listing that no other asked for: of a path that is shown
pub record IsNextListing (old : PeerState) (path : Path) : Type 0 where
  pub lawful : IsPath path
  pub unanswered : ¬ WasAnswered (found_of old.scan) path
  pub unasked : ¬ WaitsFor old.scan path
  pub shown : (side : Which) (taken : List Exchange) → IsFoundIn (found_of old.scan) side taken
      → IsShown taken side path

-- the listings that are asked for next on a side: so many that as many wait as may, or that each
-- directory was asked for
pub record ListsNext (old new : PeerState) (paths : List Path) : Type 0 where
  pub each : All (IsNextListing old) paths
  pub apart : AllPairs (λ one other. one ≢ other) paths
  pub out : out_of new.scan ≡ out_of old.scan ++ paths
  pub few : (paths ≡ []) ⊎ (length (waiting_of old) + length paths ≤ most_listings)
  pub most : (most_listings ≤ length (waiting_of old) + length paths)
      ⊎ AreAllOut (asked_of new.scan)

-- nothing waits on the side, and nothing more is to be listed
abbrev pub is_silent : PeerState → List Path → Bool
is_silent peer next = not (nat_lt 0 (length (waiting_of peer))) && nat_eq (length next) 0

-- the listings that are asked for next on both sides, and something waits then
pub record ListsOn (old new : Session) (asks : Asks) : Type 0 where
  pub paths : Which → List Path
  pub asked : (side : Which) → asks_of asks side ≡ map ListAt (paths side)
  pub next : (side : Which) → ListsNext (peer_of old side) (peer_of new side) (paths side)
  pub some : (side : Which)
      × (1 ≤ length (waiting_of (peer_of new side)) + length (asks_of asks side))

-- nothing waits, and each directory of both sides was asked for
pub record IsListed (old new : Session) : Type 0 where
  pub silent : (side : Which) → waiting_of (peer_of new side) ≡ []
  pub out : (side : Which) → out_of (peer_of new side).scan ≡ out_of (peer_of old side).scan
  pub all : (side : Which) → AreAllOut (asked_of (peer_of new side).scan)

-- what is listed next, or that nothing more is
abbrev pub ScansNext : Session → Session → Heard → Type 0
ScansNext old new (Ask asks) = ListsOn old new asks
ScansNext old new Scanned = IsListed old new

-- What stays of a session

-- what waits on the side, the other side, and its plan
pub record KeepsRequests (old new : Session) (side : Which) : Type 0 where
  pub waits : (peer_of new side).waiting ≡ (peer_of old side).waiting
  pub count : (peer_of new side).next_number ≡ (peer_of old side).next_number
  pub across : peer_of new (other side) ≡ peer_of old (other side)
  pub number_is : new.number ≡ old.number
  pub preference_is : new.preference ≡ old.preference
  pub progress : new.progress ≡ old.progress

-- what waits, and what was found
pub record KeepsFound (old new : Session) : Type 0 where
  pub waits : (side : Which) → (peer_of new side).waiting ≡ (peer_of old side).waiting
  pub count : (side : Which) → (peer_of new side).next_number ≡ (peer_of old side).next_number
  pub found : (side : Which) → found_on new side ≡ found_on old side
  pub number_is : new.number ≡ old.number
  pub preference_is : new.preference ≡ old.preference
  pub progress : new.progress ≡ old.progress
