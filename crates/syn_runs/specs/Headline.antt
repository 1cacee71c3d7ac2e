-- What holds after every run, of the picture of its world.
use Rattle.std.specs.Prelude.{ℕ, ◌≡◌, ◌≢◌, ◌≤◌, ◌↔◌, ◌+◌, drop, true, false, List, [], ◌∷◌, ◌++◌}
use Rattle.std.specs.Prelude.{length, take, Option, Some, None, All, AllPairs, Contains, IfSome}
use Rattle.syn_model.specs.Path.{Bytes, Path, parent}
use Rattle.syn_model.specs.Refusal.{Refusal}
use Rattle.syn_model.specs.Tree.{Tree, IsTree, is_directory, subtree}
use Rattle.syn_model.specs.Event.{Token, is_same_token, Event, Edited, Began, Replaced, touches}
use Rattle.syn_model.specs.History.{History, IsHistory, tree_at, tree_of, last_session}
use Rattle.syn_model.specs.Mark.{mark, AreApart}
use Rattle.syn_model.specs.Archive.{Archive, new_archive, Session, BothHeld}
use Rattle.std.specs.List.{count_by}
use Rattle.syn_model.specs.Plan.{plan, scan_of, Trees, IsSynchronized, IsReconciled, AreEqual}
use Rattle.syn_model.specs.Plan.{IsConflict}
use Rattle.syn_machine.specs.Machine.{Up}
use Rattle.syn_machine.specs.Side.{Fetch, Piece}
use Rattle.syn_machine.specs.Network.{Which, Left, Right, other, Sent, WasAnswered, NumbersTell}
use Rattle.syn_machine.specs.Network.{AsksNothingTwice}
use Rattle.syn_runs.specs.Acknowledged.{Ack, Happened, Kept_by, Stores, history_of}
use Rattle.syn_runs.specs.Acknowledged.{stores_after, Grown, ArchiveGrown, IsLegal}
use Rattle.syn_machine.specs.Planning.{SessionPlan, Log, IsPlanOf}
use Rattle.syn_machine.specs.Report.{Report, Complete, is_carrying, is_marking}
use Rattle.syn_runs.specs.Picture.{Picture, FollowsAll, Waits, side_of, stores_of}
use Rattle.syn_runs.specs.World.{Step}

-- a pair of sides and their archive, as three formatted disks are, and as every run leaves them
pub record IsPair (stores : Stores) : Type 0 where
  pub left : IsHistory stores.left
  pub right : IsHistory stores.right
  pub marks : IsTree stores.archive.marks
  pub held : BothHeld stores.left stores.right stores.archive.marks
  pub left_begun : last_session stores.left ≤ stores.archive.last_session
  pub right_begun : last_session stores.right ≤ stores.archive.last_session

-- a world that has just been opened
pub record IsStart (world : Picture) : Type 0 where
  pub pair : IsPair (stores_of world)
  pub left : (world.left.side.staging ≡ None) × (world.left.writing ≡ None)
      × (world.left.status ≡ Up)
  pub right : (world.right.side.staging ≡ None) × (world.right.writing ≡ None)
      × (world.right.status ≡ Up)
  pub coordinator : (world.coordinator.running ≡ None) × (world.coordinator.writing ≡ None)
      × (world.coordinator.status ≡ Up)
  pub nothing_yet : (world.sent ≡ []) × (world.acknowledged ≡ []) × (world.reports ≡ [])
      × (world.log ≡ [])

-- it is the end of a run of the picture by these steps, in which users were refused so, from such a
-- world with what three disks stand for
pub record IsRunFrom (before : Stores) (steps : List Step) (told : List Refusal) (world : Picture) :
    Type 0 where
  pub start : Picture
  pub is_start : IsStart start
  pub stands : stores_of start ≡ before
  pub follows : FollowsAll start steps told world

-- Each replacement of the run is of its session's plan, and puts what the other side held. It goes
-- over what the archive recorded or, with a preference, over what the scan showed. Nothing touched
-- the path since the side listed it
abbrev pub EachReplacementIsLegal : Stores → Picture → Type 0
EachReplacementIsLegal before world =
    (earlier later : List Ack) (side : Which) (token : Token) (path : Path) (since : ℕ)
    (new : Tree) →
    world.acknowledged ≡ earlier ++ Happened side (Replaced token path since new) ∷ later →
    IsLegal world.sent world.log side (stores_after before earlier) token path since new

-- And so is one that was being written as its machine stopped or its device failed, where an
-- opening then gives it
abbrev pub RecoveredIsLegal : Stores → Picture → Type 0
RecoveredIsLegal before world =
    let now = stores_after before world.acknowledged in
    (side : Which) (history : History) (token : Token) (path : Path) (since : ℕ) (new : Tree) →
    Grown (side_of world side).writing (history_of now side) history →
    history ≡ history_of now side ++ Replaced token path since new ∷ [] →
    IsLegal world.sent world.log side now token path since new

-- Each archive entry was held by both sides, whatever an opening then gives
abbrev pub EachEntryWasHeld : Stores → Picture → Type 0
EachEntryWasHeld before world =
    let now = stores_after before world.acknowledged in
    (left right : History) (archive : Archive) → Grown world.left.writing now.left left →
    Grown world.right.writing now.right right →
    ArchiveGrown world.coordinator.writing now.archive archive →
    BothHeld left right archive.marks

abbrev pub IsNoEdit : Event → Type 0
IsNoEdit (Edited user edit) = ⊥
IsNoEdit _ = Unit {0}

-- the session began after these events, and no user's event came up to the end
pub record BeganAfter (session : ℕ) (found : History) (ended : History) : Type 0 where
  pub later : List Event
  pub begun : ended ≡ found ++ Began session ∷ later
  pub no_edit : All IsNoEdit later

-- a complete session without edits: what it found, and what it left
pub record IsQuietSession (before : Stores) (acknowledged : List Ack) (reports : List (Report × ℕ))
    (report : Report) (found after : Stores) : Type 0 where
  pub acks : ℕ
  pub reported : Contains reports (report, acks)
  pub complete : report.end ≡ Complete
  pub at_end : after ≡ stores_after before (take acks acknowledged)
  pub left_side : BeganAfter report.session found.left after.left
  pub right_side : BeganAfter report.session found.right after.right
  pub started : ℕ
  pub archive : found.archive ≡ (stores_after before (take started acknowledged)).archive
  pub taken : take (started + 1) acknowledged ≡ take started acknowledged
      ++ Kept_by (Session report.session) ∷ []

-- the trees of both sides, and the marks of the archive
abbrev pub trees_of : Stores → Trees
trees_of stores = record {
  left = tree_of stores.left;
  right = tree_of stores.right;
  archive = stores.archive.marks;
}

-- the session made its plan with this preference
pub record PlansWith (log : Log) (session : ℕ) (preference : Option Which) : Type 0 where
  pub made : SessionPlan
  pub logged : Contains log made
  pub of_session : made.session ≡ session
  pub prefers : made.preference ≡ preference

-- A complete session without edits leaves on both sides the synchronization of what it found, with
-- what it prefers, if no two files that it found at one path differ with one digest
abbrev pub CompleteSessionsSynchronize : Stores → Picture → Type 0
CompleteSessionsSynchronize before world = (report : Report) (found after : Stores) →
    IsQuietSession before world.acknowledged world.reports report found after →
    AreApart (tree_of found.left) (tree_of found.right) →
    (preference : Option Which) × PlansWith world.log report.session preference
    × IsSynchronized preference (trees_of found) (trees_of after)

-- And it leaves the archive of that, without this premise
abbrev pub CompleteSessionsReconcile : Stores → Picture → Type 0
CompleteSessionsReconcile before world = (report : Report) (found after : Stores) →
    IsQuietSession before world.acknowledged world.reports report found after →
    (preference : Option Which) × PlansWith world.log report.session preference
    × IsReconciled preference (trees_of found) (trees_of after)

-- Its conflicts are the relevant paths that are dirty on both sides, not a directory on both, and
-- unequal by mark; with a preference there are none
abbrev pub ReportsItsConflicts : Stores → Picture → Type 0
ReportsItsConflicts before world = (report : Report) (found after : Stores) →
    IsQuietSession before world.acknowledged world.reports report found after →
    (preference : Option Which) × PlansWith world.log report.session preference
    × ((path : Path) → Contains report.conflicts path
    ↔ IsConflict preference (tree_of found.left) (tree_of found.right) found.archive.marks path)

-- as many as the plan of what it found has to carry, and to mark
abbrev pub HasCounts : Option Which → Stores → Report → Type 0
HasCounts preference found report =
    let items = plan preference (scan_of (tree_of found.left))
    (scan_of (tree_of found.right)) found.archive.marks in
    (report.done ≡ count_by is_carrying items) × (report.marked ≡ count_by is_marking items)

-- Where it prefers a side, both sides are equal after it, and the archive has their marks
abbrev pub PreferenceLeavesOne : Stores → Picture → Type 0
PreferenceLeavesOne before world = (report : Report) (found after : Stores) (side : Which) →
    IsQuietSession before world.acknowledged world.reports report found after →
    PlansWith world.log report.session (Some side) →
    AreApart (tree_of found.left) (tree_of found.right) → AreEqual (trees_of after)

-- A complete session without edits has these counts
abbrev pub CountsItsItems : Stores → Picture → Type 0
CountsItsItems before world = (report : Report) (found after : Stores) →
    IsQuietSession before world.acknowledged world.reports report found after →
    (preference : Option Which) × PlansWith world.log report.session preference
    × HasCounts preference found report

abbrev pub IsOtherToken : Token → Event → Type 0
IsOtherToken token (Replaced used path since new) = is_same_token used token ≡ false
IsOtherToken token _ = Unit {0}

-- Each token has one replacement at most
abbrev pub EachTokenOnce : Stores → Picture → Type 0
EachTokenOnce before world =
    (side : Which) (earlier later : History) (token : Token) (path : Path) (since : ℕ)
    (new : Tree) →
    (side_of world side).side.history ≡ earlier ++ Replaced token path since new ∷ later →
    All (IsOtherToken token) later

-- no event of a history after a position touches the path
abbrev pub UntouchedSince : ℕ → History → Path → Type 0
UntouchedSince position history path =
    All (λ event. touches event path ≡ false) (drop position history)

-- a fetch of the path from a position was answered with a piece in the session, and nothing touched
-- the path there since
pub record IsFetched (sent : Sent) (source : Which) (history : History) (session : ℕ)
    (path : Path) : Type 0 where
  pub position : ℕ
  pub offset : ℕ
  pub total : ℕ
  pub bytes : Bytes
  pub answered : WasAnswered sent source session (Fetch path position offset) (Piece total bytes)
  pub untouched : UntouchedSince position history path

-- both sides have the part at the path, and the archive its marks
pub record AreMarked (stores : Stores) (path : Path) (part : Tree) : Type 0 where
  pub sides : (which : Which) → subtree (tree_of (history_of stores which)) path ≡ part
  pub archive : subtree stores.archive.marks path ≡ mark part

-- What was carried is on both sides and in the archive after each later complete session without
-- edits, even if its own record was lost, where nothing touched it since: on the source since it
-- was fetched, and on the target since it was replaced
abbrev pub CarriedIsMarked : Stores → Picture → Type 0
CarriedIsMarked before world =
    (side : Which) (first rest : History) (token : Token) (path : Path) (since : ℕ) (new : Tree)
    (report : Report) (found after : Stores) →
    history_of found side ≡ first ++ Replaced token path since new ∷ rest →
    All (λ event. touches event path ≡ false) rest →
    IsFetched world.sent (other side) (history_of found (other side)) token.session path →
    IsQuietSession before world.acknowledged world.reports report found after →
    AreMarked after path new

-- It is marked too where the source had it at a position, in a directory, and nothing touched it
-- there since: so also what an earlier run carried, of whose messages nothing is left
abbrev pub HeldIsMarked : Stores → Picture → Type 0
HeldIsMarked before world =
    (side : Which) (first rest : History) (token : Token) (path : Path) (since fetched : ℕ)
    (new : Tree) (report : Report) (found after : Stores) →
    let source = history_of found (other side) in
    history_of found side ≡ first ++ Replaced token path since new ∷ rest →
    All (λ event. touches event path ≡ false) rest →
    is_directory (tree_at source fetched) (parent path) ≡ true →
    new ≡ subtree (tree_at source fetched) path → UntouchedSince fetched source path →
    IsQuietSession before world.acknowledged world.reports report found after →
    AreMarked after path new

-- The machines stand for what was there before and then what was acknowledged, in order
pub record StandsFor (before : Stores) (world : Picture) : Type 0 where
  pub left : world.left.side.history ≡ history_of (stores_after before world.acknowledged) Left
  pub right : world.right.side.history ≡ history_of (stores_after before world.acknowledged) Right
  pub archive : world.coordinator.archive ≡ (stores_after before world.acknowledged).archive

-- three disks that were just formatted
abbrev pub formatted : Stores
formatted = record { left = []; right = []; archive = new_archive }

-- two sides, and an archive without marks that goes on after this session
abbrev pub unmarked : History → History → ℕ → Stores
unmarked left right session = record {
  left = left;
  right = right;
  archive = record new_archive { last_session = session };
}

-- Such an archive makes a pair of any two sides, whatever they hold, where neither has begun a
-- later session
abbrev pub UnmarkedIsPair : Type 0
UnmarkedIsPair = (left right : History) (session : ℕ) → IsHistory left → IsHistory right →
    last_session left ≤ session → last_session right ≤ session →
    IsPair (unmarked left right session)

-- the archive had these marks at some moment of the run
abbrev pub HadArchive : Stores → Picture → Tree → Type 0
HadArchive before world marks = (acks : ℕ) × (acks ≤ length world.acknowledged)
    × (marks ≡ (stores_after before (take acks world.acknowledged)).archive.marks)

-- Each session makes one plan at most, and that is of its scans and the archive at some moment
abbrev pub LogsPlans : Stores → Picture → Type 0
LogsPlans before world = AllPairs (λ earlier later. earlier.session ≢ later.session) world.log
    × All (λ made. IsPlanOf world.sent made × HadArchive before world made.archive) world.log

-- what an opening then gives is a pair again
abbrev pub LeavesPair : Stores → Picture → Type 0
LeavesPair before new =
    let now = stores_after before new.acknowledged in
    (left right : History) (archive : Archive) → Grown new.left.writing now.left left →
    Grown new.right.writing now.right right →
    ArchiveGrown new.coordinator.writing now.archive archive →
    IsPair (record { left = left; right = right; archive = archive })

-- a session that runs waits for an answer; a number tells its request, and nothing was asked twice
-- in one session
abbrev pub Owes : Stores → Picture → Type 0
Owes before new = IfSome new.coordinator.running Waits × NumbersTell new.sent
    × AsksNothingTwice new.sent
