-- What a side says of itself, and what is known of it.
use Rattle.std.specs.Prelude.{◌≡◌, Option, Some, None}
use Rattle.syn_history.specs.Status.{Status, status_of}
use Rattle.syn_history.specs.declared.status.Identity.{Identity}
use Rattle.syn_model.specs.Which.{Which, Left, Right, other}
use Rattle.syn_pair.specs.declared.side.KnownSides.{KnownSides}
use Rattle.syn_pair.specs.declared.side.SideStatus.{SideStatus}

pub record SideState : Type 0 where
  pub identity : Option Identity
  pub status : Status

abbrev pub side_of : SideStatus → SideState
side_of told = record { identity = told.identity; status = status_of told.status }

-- both are there, and are the same
abbrev pub AreOne : Option Identity → Option Identity → Type 0
AreOne (Some one) (Some other) = one ≡ other
AreOne (Some one) None = ⊥
AreOne None other = ⊥

-- both are there, and differ
abbrev pub Differ : Option Identity → Option Identity → Type 0
Differ (Some one) (Some other) = ¬ (one ≡ other)
Differ (Some one) None = ⊥
Differ None other = ⊥

abbrev pub known_at : KnownSides → Which → SideState
known_at known Left = side_of known.left
known_at known Right = side_of known.right

-- the entry of the identity, since the sides may be named in the other order, else that of the name
pub data IsEntryFor (named across : SideState) (identity : Option Identity) : SideState → Type 0
  where
    of_identity : AreOne across.identity identity → IsEntryFor named across identity across
    of_name : ¬ AreOne across.identity identity → IsEntryFor named across identity named

-- what is known of the side of the name, if anything is
abbrev pub IsEntry : Option KnownSides → Which → Option Identity → Option SideState → Type 0
IsEntry None name identity entry = entry ≡ None
IsEntry (Some known) name identity entry = (found : SideState) × (entry ≡ Some found)
    × IsEntryFor (known_at known name) (known_at known (other name)) identity found
