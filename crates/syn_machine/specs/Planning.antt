-- Where a session's plan and what it stages come from: the listings and pieces that the sides
-- answered.
use Rattle.std.specs.Prelude.{ℕ, ◌≡◌, List, map, Option, All}
use Rattle.syn_model.specs.Path.{Path, parent}
use Rattle.syn_model.specs.Tree.{Tree, subtree}
use Rattle.syn_model.specs.Dirty.{Scan, IsScanBy, IsListedInOrder}
use Rattle.syn_machine.specs.Side.{Begin, ListAt, Begun, Listed, NotDir}
use Rattle.syn_machine.specs.Network.{Which, Left, Right, Sent, WasAnswered}
use Rattle.syn_model.specs.Decision.{Item, path_of, ToLeft, ToRight}
use Rattle.syn_model.specs.Plan.{plan as items_of}

-- a scan by what the side answered in the session
abbrev pub IsScanOf : Sent → Which → ℕ → Scan → (Path → ℕ) → Type 0
IsScanOf sent side session =
    IsScanBy (λ path position entries. WasAnswered sent side session (ListAt path)
    (Listed position entries))
    (λ path position. WasAnswered sent side session (ListAt path) (NotDir position))

-- what a scan has at a path, and the position of the listing of its parent
pub record Seen : Type 0 where
  pub marks : Tree
  pub since : ℕ

-- an item of the plan, with what the two scans have at its path
pub record Planned : Type 0 where
  pub item : Item
  pub left : Seen
  pub right : Seen

abbrev pub seen_on : Planned → Which → Seen
seen_on planned Left = planned.left
seen_on planned Right = planned.right

-- what the two scans have at its path
abbrev pub SeesBoth : (Which → Scan) → (Which → Path → ℕ) → Planned → Type 0
SeesBoth scan since planned =
    (side : Which) →
    ((seen_on planned side).marks ≡ subtree (scan side).marks (path_of planned.item))
    × ((seen_on planned side).since ≡ since side (parent (path_of planned.item)))

-- the side answered that the session has begun there
pub record HasBegun (sent : Sent) (side : Which) (session : ℕ) : Type 0 where
  pub pair : ℕ
  pub position : ℕ
  pub begun : WasAnswered sent side session (Begin pair) (Begun position)

-- a session that made its plan: the side that it prefers, the two scans and the archive that it
-- found, and the plan
pub record SessionPlan : Type 0 where
  pub session : ℕ
  pub preference : Option Which
  pub scan : Which → Scan
  pub since : Which → Path → ℕ
  pub archive : Tree
  pub plan : List Planned

-- the sessions that made their plan, in order of time
abbrev pub Log : Type 0
Log = List SessionPlan

-- the plan is that of the scans, the archive and the preference, once both sides had begun the
-- session, and no directory was listed before the one above it
pub record IsPlanOf (sent : Sent) (made : SessionPlan) : Type 0 where
  pub begun : (side : Which) → HasBegun sent side made.session
  pub scanned : (side : Which) → IsScanOf sent side made.session (made.scan side) (made.since side)
  pub ordered : (side : Which) → IsListedInOrder (made.scan side) (made.since side)
  pub items : map (λ planned. planned.item) made.plan ≡ items_of made.preference (made.scan Left)
      (made.scan Right) made.archive
  pub seen : All (SeesBoth made.scan made.since) made.plan

-- the item writes the path on the side
abbrev pub WritesTo : Item → Which → Path → Type 0
WritesTo (ToLeft at) Left path = at ≡ path
WritesTo (ToRight at) Right path = at ≡ path
WritesTo _ _ _ = ⊥
