-- What a run's calls answered, in order of time, and what may come of one more.
use Rattle.std.specs.Prelude.{ℕ, ◌≡◌, ◌≤◌, ◌⊎◌, List, [], ◌∷◌, ◌++◌, length, true, slice_get}
use Rattle.std.specs.Prelude.{filter_map, fold, Option, Some, None, Contains}
use Rattle.syn_model.specs.Path.{Path, Name, parent}
use Rattle.syn_model.specs.Tree.{Tree, Content, subtree, is_directory}
use Rattle.syn_model.specs.Event.{Token, Event}
use Rattle.syn_model.specs.History.{History, tree_of, tree_at, is_quiet, IsAllowed}
use Rattle.syn_model.specs.Mark.{mark}
use Rattle.syn_model.specs.Plan.{IsContested}
use Rattle.syn_model.specs.Archive.{Archive, Kept, Session, Recorded, RecordedDir, archive_of}
use Rattle.syn_model.specs.Archive.{CanKeep, after_kept}
use Rattle.syn_machine.specs.Side.{ListAt, Listed}
use Rattle.syn_machine.specs.Network.{Which, Left, Right, other, Sent, WasAnswered}
use Rattle.syn_machine.specs.Planning.{Planned, seen_on, WritesTo, SessionPlan, Log}

-- an event of a side, or what the archive kept: answered Ok, or recovered by an opening
pub data Ack : Type 0 where
  Happened : (side : Which) (event : Event) → Ack
  Kept_by : (kept : Kept) → Ack

abbrev pub event_at : Which → Ack → Option Event
event_at Left (Happened Left event) = Some event
event_at Right (Happened Right event) = Some event
event_at _ _ = None

abbrev pub kept_in : Ack → Option Kept
kept_in (Happened side event) = None
kept_in (Kept_by kept) = Some kept

-- what the archive kept since the last session's number
abbrev pub since_start : List Kept → Kept → List Kept
since_start kept (Session session) = []
since_start kept (Recorded path marks) = kept ++ Recorded path marks ∷ []
since_start kept (RecordedDir path) = kept ++ RecordedDir path ∷ []

abbrev pub kept_in_session : List Ack → List Kept
kept_in_session acks = fold since_start [] (filter_map kept_in acks)

-- what three disks stand for
pub record Stores : Type 0 where
  pub left : History
  pub right : History
  pub archive : Archive

abbrev pub history_of : Stores → Which → History
history_of stores Left = stores.left
history_of stores Right = stores.right

-- what three disks stand for after the acknowledged list
abbrev pub stores_after : Stores → List Ack → Stores
stores_after before acks = record {
  left = before.left ++ filter_map (event_at Left) acks;
  right = before.right ++ filter_map (event_at Right) acks;
  archive = archive_of before.archive (filter_map kept_in acks);
}

-- a history, or it and the one event that was being written
abbrev pub Grown : Option Event → History → History → Type 0
Grown None old new = new ≡ old
Grown (Some writing) old new = (new ≡ old) ⊎ (IsAllowed old writing × (new ≡ old ++ writing ∷ []))

-- an archive, or it and the one record that was being written
abbrev pub ArchiveGrown : Option Kept → Archive → Archive → Type 0
ArchiveGrown None old new = new ≡ old
ArchiveGrown (Some writing) old new = (new ≡ old)
    ⊎ (CanKeep old writing × (new ≡ after_kept old writing))

-- the side listed the path at the position in the session
abbrev pub WasListed : Sent → Which → ℕ → Path → ℕ → Type 0
WasListed sent side session path position = (entries : List (Name × Content))
    × WasAnswered sent side session (ListAt path) (Listed position entries)

-- what the replacement puts is what the other side had at a position: there the session had it list
-- the path's directory
pub record IsFrom (sent : Sent) (source : Which) (source_history : History) (session : ℕ)
    (path : Path) (position : ℕ)
    (new : Tree) : Type 0 where
  pub listed : WasListed sent source session (parent path) position
  pub reached : position ≤ length source_history
  pub directory : is_directory (tree_at source_history position) (parent path) ≡ true
  pub held : new ≡ subtree (tree_at source_history position) path

-- the session prefers the other side, and its scans show the path changed on both and unstable on
-- neither
pub record IsPreferred (made : SessionPlan) (side : Which) (path : Path) : Type 0 where
  pub prefers : made.preference ≡ Some (other side)
  pub contested : IsContested (made.scan Left) (made.scan Right) made.archive path

-- what a replacement may overwrite: what the archive recorded; and what the side's scan showed,
-- where the session prefers the other side
abbrev pub MayOverwrite : SessionPlan → Stores → Which → Path → Type 0
MayOverwrite made written side path =
    (subtree (mark (tree_of (history_of written side))) path ≡ subtree written.archive.marks path)
    ⊎ (IsPreferred made side path × (subtree (mark (tree_of (history_of written side))) path
    ≡ subtree (made.scan side).marks path))

-- a replacement that follows a listing, is an item of its session's plan, puts what the other side
-- had where the plan saw it, and goes over nothing but what it may overwrite
pub record IsLegal (sent : Sent) (log : Log) (side : Which) (written : Stores) (token : Token)
    (path : Path) (since : ℕ) (new : Tree) : Type 0 where
  pub listed : WasListed sent side token.session (parent path) since
  pub reached : since ≤ length (history_of written side)
  pub untouched :
      is_quiet (history_of written side) since (length (history_of written side)) path ≡ true
  pub made : SessionPlan
  pub logged : Contains log made × (made.session ≡ token.session)
  pub planned : Planned
  pub item : (slice_get made.plan token.item ≡ Some planned) × WritesTo planned.item side path
  pub seen : since ≡ (seen_on planned side).since
  pub recorded : MayOverwrite made written side path
  pub source : IsFrom sent (other side)
      (history_of written (other side)) token.session path (seen_on planned (other side)).since new
