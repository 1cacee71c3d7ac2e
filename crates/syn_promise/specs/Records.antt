-- What a session may change: a path of a side by a legal replacement, and the archive by the record
-- of an item of its plan.
use Rattle.std.specs.Prelude.{ℕ, ◌≡◌, List, ◌∷◌, ◌++◌, slice_get, Some, Contains, IfSome}
use Rattle.syn_model.specs.Refusal.{Refusal}
use Rattle.syn_model.specs.Path.{Path}
use Rattle.syn_model.specs.Tree.{Tree}
use Rattle.syn_model.specs.Event.{Token, Replaced}
use Rattle.syn_model.specs.History.{History}
use Rattle.syn_model.specs.Archive.{Kept, Recorded, RecordedDir}
use Rattle.syn_machine.specs.Session.{record_for}
use Rattle.syn_machine.specs.Side.{token_of}
use Rattle.syn_machine.specs.Network.{Which}
use Rattle.syn_machine.specs.Planning.{Planned, SessionPlan, Log, WritesTo}
use Rattle.syn_runs.specs.World.{Step}
use Rattle.syn_runs.specs.Acknowledged.{Ack, Happened, Kept_by, Stores, history_of}
use Rattle.syn_runs.specs.Acknowledged.{stores_after}
use Rattle.syn_runs.specs.Picture.{Picture}
use Rattle.syn_runs.specs.Headline.{IsRunFrom}
use Rattle.syn_promise.specs.Sessions.{IsLegal}

-- a replacement with this token stands in the history
pub record HasPut (history : History) (token : Token) : Type 0 where
  pub path : Path
  pub since : ℕ
  pub new : Tree
  pub replaced : Contains history (Replaced token path since new)

-- The record is that of an item of the plan of the session that was started last. What the item
-- carries was put on its side before: a part, or nothing in its place
pub record IsOfItem (sessions : Log) (stands : Stores) (kept : Kept) : Type 0 where
  pub made : SessionPlan
  pub of_session : Contains sessions made × (made.session ≡ stands.archive.last_session)
  pub item : ℕ
  pub planned : Planned
  pub at : slice_get made.plan item ≡ Some planned
  pub record_is : record_for planned planned.item ≡ Some kept
  pub put : (side : Which) (path : Path) → WritesTo planned.item side path →
      HasPut (history_of stands side) (token_of made.session item)

-- A change of a session keeps to its plan, where it is written as the machines stand for this: a
-- replacement is legal, and a record that of an item. What steps ask for is of no plan
abbrev pub KeepsToPlan : Log → Stores → Ack → Type 0
KeepsToPlan sessions stands (Happened side (Replaced token path since new)) =
    IsLegal sessions side stands token path since new
KeepsToPlan sessions stands (Kept_by (Recorded path marks)) =
    IsOfItem sessions stands (Recorded path marks)
KeepsToPlan sessions stands (Kept_by (RecordedDir path)) =
    IsOfItem sessions stands (RecordedDir path)
KeepsToPlan sessions stands _ = Unit {0}

-- all that a run of the picture records keeps to its plan, and so does what it was recording as its
-- machine stopped or its device failed
abbrev pub RecordsKeepToPlan : Type 0
RecordsKeepToPlan = (before : Stores) (steps : List Step) (told : List Refusal)
    (world : Picture) → IsRunFrom before steps told world →
    ((earlier later : List Ack) (kept : Kept) →
    world.acknowledged ≡ earlier ++ Kept_by kept ∷ later →
    KeepsToPlan world.log (stores_after before earlier) (Kept_by kept))
    × IfSome world.coordinator.writing
    (λ kept. KeepsToPlan world.log (stores_after before world.acknowledged) (Kept_by kept))
