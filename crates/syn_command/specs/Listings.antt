-- What a side was asked for its listings, what they show, and why they show nothing.
use Rattle.std.specs.Prelude.{◌≡◌, ◌<◌, ℕ, List, [], ◌∷◌, length, map, Contains, Option, Some}
use Rattle.syn_machine.specs.Network.{Which, Left}
use Rattle.syn_machine.specs.Session.{fault_of}
use Rattle.syn_machine.specs.Side.{ListAt, Listed, NotDir, Reply}
use Rattle.syn_model.specs.Dirty.{IsScanBy}
use Rattle.syn_model.specs.Limits.{most_nodes}
use Rattle.syn_model.specs.Path.{Name, Path}
use Rattle.syn_model.specs.Refusal.{Refusal, TooLarge}
use Rattle.syn_model.specs.Tree.{Content}
use Rattle.syn_scan.specs.Found.{Found, position_of, scan_of}
use Rattle.syn_session.specs.Scanning.{Exchanges}
use Rattle.syn_user.specs.Refusals.{refusal_of}
use Rattle.syn_user.specs.Sides as side
use Rattle.syn_user.specs.Sides.{IsReplied, SideState}
use Rattle.syn_user.specs.declared.error.UserError.{UserError}

-- the paths that were asked for, each with the reply to it
abbrev pub Replies : Type 0
Replies = List (Path × Reply)

-- the replies as a session has them
abbrev pub exchanges_of : Which → Replies → Exchanges
exchanges_of side replies = map (λ one. record {
  side = side;
  number = 0;
  request = ListAt one.0;
  reply = one.1;
}) replies

-- what the replies say of a path
abbrev pub SaysListed : Replies → Path → ℕ → List (Name × Content) → Type 0
SaysListed replies path position entries = Contains replies (path, Listed position entries)

abbrev pub SaysNone : Replies → Path → ℕ → Type 0
SaysNone replies path position = Contains replies (path, NotDir position)

-- why a session ends, if it does, by one more reply after these
abbrev pub fault_after : Replies → Path → Reply → Option Refusal
fault_after replies path reply = fault_of (exchanges_of Left replies) Left (ListAt path) reply

-- the side gave these replies over its connection, one after another
abbrev pub GaveReplies : SideState → Replies → SideState → Type 0
GaveReplies old [] new = new ≡ old
GaveReplies old (one ∷ more) new =
    (between : SideState) × IsReplied old between (ListAt one.0) one.1
    × GaveReplies between more new

-- a listing over a connection was refused, as the replica refused it, or as the connection broke
abbrev pub IsUnlisted : SideState → SideState → Path → Refusal → Type 0
IsUnlisted old new path why = (error : UserError) × (why ≡ refusal_of error)
    × side.IsUnlisted old new path error

-- the scan shows what the side replied, and each directory in it was asked for
pub record IsScanned (old : SideState) (found : Found) (new : SideState) : Type 0 where
  pub replies : Replies
  pub gave : GaveReplies old replies new
  pub shows : IsScanBy (SaysListed replies) (SaysNone replies) (scan_of found) (position_of found)

-- Why a side is not scanned, once it gave some replies: the next listing is refused, the reply to
-- it ends a session, or these were more than there can be directories
pub data NotScanned (old : SideState) (why : Refusal) (new : SideState) : Type 0 where
  refused : (replies : Replies) (between : SideState) (path : Path) →
      GaveReplies old replies between → IsUnlisted between new path why → NotScanned old why new
  ended : (replies : Replies) (between : SideState) (path : Path) (reply : Reply) →
      GaveReplies old replies between → IsReplied between new (ListAt path) reply →
      fault_after replies path reply ≡ Some why → NotScanned old why new
  endless : (replies : Replies) → GaveReplies old replies new → most_nodes < length replies →
      why ≡ TooLarge → NotScanned old why new
