-- What a session looks at, plans, puts, leaves and reports.
use Rattle.std.specs.Prelude.{ℕ, ◌≡◌, ◌≢◌, ◌≤◌, ◌↔◌, ◌&&◌, true, false, List, [], ◌∷◌, ◌++◌, map}
use Rattle.std.specs.Prelude.{filter_map, length, take, slice_get, Option, Some, None, All}
use Rattle.std.specs.Prelude.{Contains}
use Rattle.std.specs.List.{count_by}
use Rattle.syn_model.specs.Path.{Path, Name, parent}
use Rattle.syn_model.specs.Tree.{Tree, Content, subtree, is_directory}
use Rattle.syn_model.specs.Limits.{children}
use Rattle.syn_model.specs.Event.{Token, Replaced, touches}
use Rattle.syn_model.specs.History.{History, tree_of, tree_at, last_session, is_quiet}
use Rattle.syn_model.specs.Mark.{mark, AreApart}
use Rattle.syn_model.specs.Archive.{Kept}
use Rattle.syn_model.specs.Dirty.{IsScanBy}
use Rattle.syn_model.specs.Decision.{path_of}
use Rattle.syn_model.specs.Plan.{plan, IsSynchronized, IsReconciled, AreEqual}
use Rattle.syn_machine.specs.Network.{Which, Left, Right, other}
use Rattle.syn_runs.specs.Acknowledged.{Ack, Stores, history_of, stores_after, MayOverwrite}
use Rattle.syn_runs.specs.Acknowledged.{kept_in_session}
use Rattle.syn_machine.specs.Planning.{Planned, seen_on, SeesBoth, SessionPlan, Log, WritesTo}
use Rattle.syn_runs.specs.Headline.{trees_of, UntouchedSince, AreMarked}
use Rattle.syn_machine.specs.Report.{Report, Complete, Incomplete, is_kept, is_carrying}
use Rattle.syn_machine.specs.Report.{is_marking, conflict_at}
use Rattle.syn_runs.specs.Reported.{IsSettledBy}
use Rattle.syn_promise.specs.Steps.{Started}

-- What a session looks at

-- a position that the side has come to, by which the session had begun there
pub record IsAfterBegin (history : History) (session position : ℕ) : Type 0 where
  pub reached : position ≤ length history
  pub begun : session ≤ last_session (take position history)

-- at that position the path was a directory with these entries, by marks
pub record WasDirectory (history : History) (session : ℕ) (path : Path) (position : ℕ)
    (entries : List (Name × Content)) : Type 0 where
  pub after_begin : IsAfterBegin history session position
  pub directory : is_directory (tree_at history position) path ≡ true
  pub entries_are : entries ≡ children (mark (tree_at history position)) path

-- and at that one it was none
pub record WasNoDirectory (history : History) (session : ℕ) (path : Path) (position : ℕ) :
    Type 0 where
  pub after_begin : IsAfterBegin history session position
  pub none : is_directory (tree_at history position) path ≡ false

-- The plan is that of what the session found: it was the last that was started, and both sides had
-- begun it. Its two scans show what the sides had come to by then, each directory at its position;
-- its items are those of the scans, of the archive as it was, and of what the session prefers
pub record PlansFrom (stands : Stores) (made : SessionPlan) : Type 0 where
  pub last : stands.archive.last_session ≡ made.session
  pub begun : (side : Which) → last_session (history_of stands side) ≡ made.session
  pub scanned : (side : Which) → IsScanBy (WasDirectory (history_of stands side) made.session)
      (WasNoDirectory (history_of stands side) made.session) (made.scan side) (made.since side)
  pub archive : made.archive ≡ stands.archive.marks
  pub items : map (λ planned. planned.item) made.plan ≡ plan made.preference (made.scan Left)
      (made.scan Right) made.archive
  pub seen : All (SeesBoth made.scan made.since) made.plan

-- The session made its plan once so much was acknowledged, before it recorded anything, and prefers
-- what the start of its number asked for
pub record IsPlanned (before : Stores) (started : List Started) (acknowledged : List Ack)
    (made : SessionPlan) : Type 0 where
  pub asked : Contains started (made.session, made.preference)
  pub moment : ℕ
  pub unrecorded : kept_in_session (take moment acknowledged) ≡ []
  pub planned : PlansFrom (stores_after before (take moment acknowledged)) made

-- What it puts

-- what the side had at the path, in a directory, as the session looked there
pub record WasHeld (history : History) (session : ℕ) (path : Path) (position : ℕ) (part : Tree) :
    Type 0 where
  pub after_begin : IsAfterBegin history session position
  pub directory : is_directory (tree_at history position) (parent path) ≡ true
  pub held : part ≡ subtree (tree_at history position) path

-- A replacement of a side, which was written as the machines stood for this: it is an item of its
-- session's plan, goes over nothing but what that may overwrite, which no event touched since the
-- session looked there, and puts what the other side had as the session looked at that, with the
-- marks that it then saw
pub record IsLegal (sessions : Log) (side : Which) (written : Stores) (token : Token) (path : Path)
    (since : ℕ) (new : Tree) : Type 0 where
  pub made : SessionPlan
  pub of_session : Contains sessions made × (made.session ≡ token.session)
  pub planned : Planned
  pub item : (slice_get made.plan token.item ≡ Some planned) × WritesTo planned.item side path
  pub after_begin : IsAfterBegin (history_of written side) token.session since
  pub at : since ≡ (seen_on planned side).since
  pub untouched :
      is_quiet (history_of written side) since (length (history_of written side)) path ≡ true
  pub overwrites : MayOverwrite made written side path
  pub source : WasHeld (history_of written (other side)) token.session path
      (seen_on planned (other side)).since new
  pub marks : mark new ≡ (seen_on planned (other side)).marks

-- What it leaves, where it is complete and no user made an edit since it began

-- a session put the part at the path of a side, what the other side had at some position, and
-- nothing touched the path since
pub record WasCarried (found : Stores) (side : Which) (path : Path) (part : Tree) : Type 0 where
  pub earlier : History
  pub later : History
  pub token : Token
  pub since : ℕ
  pub replaced : history_of found side ≡ earlier ++ Replaced token path since part ∷ later
  pub untouched : All (λ event. touches event path ≡ false) later
  pub position : ℕ
  pub directory :
      is_directory (tree_at (history_of found (other side)) position) (parent path) ≡ true
  pub held : part ≡ subtree (tree_at (history_of found (other side)) position) path
  pub still : UntouchedSince position (history_of found (other side)) path

-- It found this, and left that: the synchronization of what it found, and the archive of it; equal
-- sides, where it prefers one; and the record of what was carried before, even if that was lost
pub record Synchronizes (preference : Option Which) (found after : Stores) : Type 0 where
  pub sides : AreApart (tree_of found.left) (tree_of found.right) →
      IsSynchronized preference (trees_of found) (trees_of after)
  pub equal : AreApart (tree_of found.left) (tree_of found.right) → preference ≢ None →
      AreEqual (trees_of after)
  pub archive : IsReconciled preference (trees_of found) (trees_of after)
  pub carried : (side : Which) (path : Path) (part : Tree) → WasCarried found side path part →
      AreMarked after path part

-- What it reports

-- no path of the session's scans was answered as no directory
abbrev pub IsStable : SessionPlan → Type 0
IsStable made = (side : Which) → (made.scan side).unstable ≡ []

-- the path is that of an item of the plan, and this is no conflict
abbrev pub IsRefusable : List Planned → Path → Type 0
IsRefusable plan path = (item : ℕ) × (planned : Planned) × (slice_get plan item ≡ Some planned)
    × (path ≡ path_of planned.item) × (conflict_at planned.item ≡ None)

-- A report of a session with this plan that recorded so much: it came past the first part of it,
-- and past all of it where nothing ended it early. Each item that it passed is settled in one way:
-- it is a conflict, recorded or refused. No item is both recorded and refused, and no conflict is
-- either. It tells of the conflicts among these, and of no item that the plan has not
pub record TellsOf (plan : List Planned) (kept : List Kept) (report : Report) : Type 0 where
  pub passed : List Planned
  pub rest : List Planned
  pub parts : plan ≡ passed ++ rest
  pub to_the_end : report.ended ≡ None → rest ≡ []
  pub settled : All (IsSettledBy kept report.refused) passed
  pub not_both : All (λ planned. is_kept kept planned.item ≡ true →
      All (λ refused. refused.1 ≢ path_of planned.item) report.refused) plan
  pub refused : All (λ refused. IsRefusable plan refused.1) report.refused
  pub conflicts : report.conflicts ≡ filter_map (λ planned. conflict_at planned.item) passed
  pub done : report.done
      ≡ count_by (λ planned. is_carrying planned.item && is_kept kept planned.item) plan
  pub marked : report.marked
      ≡ count_by (λ planned. is_marking planned.item && is_kept kept planned.item) plan

-- A report is of the plan that its session made; or of no item, where it made none. It is complete
-- exactly where nothing ended it, no item was refused and no path was unstable
pub data Tells (sessions : Log) (kept : List Kept) (report : Report) : Type 0 where
  with_plan : (made : SessionPlan) → Contains sessions made → made.session ≡ report.session →
      TellsOf made.plan kept report →
      ((report.end ≡ Complete) ↔ (report.ended ≡ None) × (report.refused ≡ []) × IsStable made) →
      Tells sessions kept report
  without_plan : All (λ made. made.session ≢ report.session) sessions → TellsOf [] kept report →
      report.ended ≢ None → report.end ≡ Incomplete → Tells sessions kept report
