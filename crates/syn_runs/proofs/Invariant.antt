-- What each step of a run keeps.
use Rattle.std.specs.Prelude.{ℕ, ◌≡◌, ◌≢◌, ◌≤◌, ◌==◌, if◌then◌else◌, true, false, List, [], ◌∷◌}
use Rattle.std.specs.Prelude.{◌++◌, length, take, drop, slice_get, Some, None, All, AllPairs}
use Rattle.std.specs.Prelude.{Bool, Contains, IfSome, Option}
use Rattle.std.specs.FinMap.{get}
use Rattle.syn_model.specs.Path.{Bytes, Name, Path}
use Rattle.syn_model.specs.Tree.{Tree, Content, Directory, IsTree, subtree, is_directory}
use Rattle.syn_model.specs.Limits.{children, fits_replica}
use Rattle.syn_model.specs.Refusal.{Refusal, BadMessage}
use Rattle.syn_model.specs.Spelling.{spelling}
use Rattle.syn_model.specs.Mark.{mark}
use Rattle.syn_model.specs.Event.{Token, Event, Edited, Began, Replaced}
use Rattle.syn_model.specs.History.{History, IsHistory, tree_of, tree_at, last_session, last_token}
use Rattle.syn_model.specs.History.{is_quiet}
use Rattle.syn_model.specs.Archive.{Archive, Kept, Session, Recorded, RecordedDir, CanKeep}
use Rattle.syn_model.specs.Archive.{after_kept, Held}
use Rattle.syn_machine.specs.Side.{Request, Begin, ListAt, Fetch, Replace, IsLawfulRequest, Reply}
use Rattle.syn_machine.specs.Side.{Begun, Listed, NotDir, Piece, Staged, Done, Refused}
use Rattle.syn_machine.specs.Side.{Stage, Staging}
use Rattle.syn_machine.specs.Network.{Which, other, Asks, Answers, Sent, NumbersTell}
use Rattle.syn_machine.specs.Network.{AsksNothingTwice}
use Rattle.syn_model.specs.Decision.{path_of}
use Rattle.syn_model.specs.Dirty.{Scan}
use Rattle.syn_machine.specs.Planning.{Planned, seen_on, Log, IsPlanOf, WritesTo, SessionPlan}
use Rattle.syn_runs.specs.Picture.{Picture, SidePicture, CoordinatorPicture, side_of, IsOfPlan}
use Rattle.syn_runs.specs.Picture.{RunsOver}
use Rattle.syn_machine.specs.Machine.{Up}
use Rattle.syn_runs.specs.Acknowledged.{IsPreferred}
use Rattle.std.proofs.Common.{◌⊎◌}

-- the history of each side
abbrev pub Histories : Type 0
Histories = Which → History

abbrev pub histories_of : Picture → Histories
histories_of world side = (side_of world side).side.history

-- the log of the sessions' plans, which the coordinator forgets as it stops
abbrev pub Plans : Type 0
Plans = Log

-- the plan of a session, or none
abbrev pub plan_in : Log → ℕ → List Planned
plan_in [] session = []
plan_in (made ∷ log) session = if made.session == session then made.plan else plan_in log session

-- what a plan was made of: the preference, and the scans
pub record Scans : Type 0 where
  pub preference : Option Which
  pub scan : Which → Scan
  pub since : Which → Path → ℕ

-- a session's plan, made of these
abbrev pub IsPlanFrom : Sent → ℕ → Tree → Scans → List Planned → Type 0
IsPlanFrom sent session archive scans plan =
    IsPlanOf sent (record {
      session = session;
      preference = scans.preference;
      scan = scans.scan;
      since = scans.since;
      archive = archive;
      plan = plan;
    })

abbrev pub part_at : History → ℕ → Path → Tree
part_at history position path = subtree (tree_at history position) path

pub record IsTrueListing (history : History) (session : ℕ) (path : Path) (position : ℕ)
    (entries : List (Name × Content)) : Type 0 where
  pub reached : position ≤ length history
  pub begun : session ≤ last_session (take position history)
  pub entries_there : entries ≡ children (mark (tree_at history position)) path
  pub directory : is_directory (tree_at history position) path ≡ true

pub record IsTruePiece (history : History) (path : Path) (since offset total : ℕ) (bytes : Bytes) :
    Type 0 where
  pub reached : since ≤ length history
  pub whole : total ≡ length (spelling (part_at history since path))
  pub bytes_there : bytes ≡ take 32768 (drop offset (spelling (part_at history since path)))

pub record IsTrueNotDir (history : History) (path : Path) (position : ℕ) : Type 0 where
  pub reached : position ≤ length history
  pub no_directory : is_directory (tree_at history position) path ≡ false

-- it does not say that a message belongs to nothing
abbrev pub belongs : Refusal → Bool
belongs BadMessage = false
belongs _ = true

-- a reply that stays true as the history goes on, and is one to the request
abbrev pub IsTrue : History → ℕ → Request → Reply → Type 0
IsTrue history session (Begin pair) (Begun position) = session ≤ last_session history
IsTrue history session (ListAt path) (Listed position entries) =
    IsTrueListing history session path position entries
IsTrue history session (ListAt path) (NotDir position) = IsTrueNotDir history path position
IsTrue history session (Fetch path since offset) (Piece total bytes) =
    IsTruePiece history path since offset total bytes
IsTrue history session (Replace item path since size) Done =
    (since ≤ length history) × (is_quiet history since (length history) path ≡ false)
IsTrue history session (Stage item offset bytes) Staged = Unit {0}
IsTrue history session request (Refused why) = belongs why ≡ true
IsTrue history session request reply = ⊥

-- at some moment the side had a part with these marks at the path
pub record HadMarks (history : History) (path : Path) (marks : Tree) : Type 0 where
  pub position : ℕ
  pub reached : position ≤ length history
  pub had : marks ≡ subtree (mark (tree_at history position)) path

-- what a reply says of the item that was asked for: a piece is of what the scan showed, and what is
-- done was put there
abbrev pub IsBorne : List Planned → History → Which → Request → Reply → Type 0
IsBorne plan history from (Fetch path since offset) (Piece total bytes) =
    (item : ℕ) (planned : Planned) → slice_get plan item ≡ Some planned →
    WritesTo planned.item (other from) path → since ≡ (seen_on planned from).since →
    (seen_on planned from).marks ≡ mark (part_at history since path)
IsBorne plan history from (Replace item path since size) Done =
    (planned : Planned) → slice_get plan item ≡ Some planned →
    HadMarks history path (seen_on planned (other from)).marks
IsBorne plan history from request reply = Unit {0}

-- a request that was sent: of a session that the archive kept, lawful, and by its session's plan
pub record IsSound_request (plans : Plans) (archive : Archive) (sent : Sent) (to : Which)
    (session : ℕ) (request : Request) : Type 0 where
  pub session_kept : session ≤ archive.last_session
  pub lawful : IsLawfulRequest session request
  pub pair : ℕ
  pub by_plan : IsOfPlan pair sent session (plan_in plans session) to request

-- where the session of an item is the last that its side began, and nothing touched the path since
-- it was listed,
-- the archive has there what the side has
abbrev pub IsStillRecorded : History → Archive → ℕ → Path → ℕ → Type 0
IsStillRecorded history archive session path since =
    session ≡ last_session history → is_quiet history since (length history) path ≡ true →
    subtree (mark (tree_of history)) path ≡ subtree archive.marks path

-- each plan of the session prefers the other side there
abbrev pub IsPreferredIn : Plans → ℕ → Which → Path → Type 0
IsPreferredIn plans session side path = (made : SessionPlan) → Contains plans made →
    made.session ≡ session → IsPreferred made side path

-- the path was touched since it was listed, and had then what the item's source had shown
pub record IsSpent (history : History) (path : Path) (since : ℕ) (marks : Tree) : Type 0 where
  pub touched : is_quiet history since (length history) path ≡ false
  pub put : HadMarks history path marks

-- and so is the path of a side's last token
abbrev pub IsUsed : Plans → Histories → Type 0
IsUsed plans histories =
    (side : Which) (token : Token) (planned : Planned) (path : Path) →
    last_token (histories side) ≡ Some token →
    slice_get (plan_in plans token.session) token.item ≡ Some planned →
    WritesTo planned.item side path → IsSpent (histories side) path (seen_on planned side).since
    (seen_on planned (other side)).marks

-- both sides held each entry
abbrev pub IsHeld : Histories → Tree → Type 0
IsHeld histories marks =
    (path : Path) (content : Content) → get marks path ≡ Some content → (side : Which) →
    Held (histories side) path content

-- no side has a token of the session
abbrev pub IsFresh : Histories → ℕ → Type 0
IsFresh histories session =
    (side : Which) (token : Token) → last_token (histories side) ≡ Some token →
    token.session ≢ session

-- what the two histories, the archive and the messages keep of one another
pub record IsSound (plans : Plans) (histories : Histories) (archive : Archive) (sent : Sent) :
    Type 0 where
  pub lawful : (side : Which) → IsHistory (histories side)
  pub marks : IsTree archive.marks
  pub begun : (side : Which) → last_session (histories side) ≤ archive.last_session
  pub numbers : NumbersTell sent
  pub repeats : AsksNothingTwice sent
  pub asked : (to : Which) (session number : ℕ) (request : Request) →
      Contains sent (Asks to session number request) →
      IsSound_request plans archive sent to session request
  pub known : (from : Which) (session number : ℕ) (reply : Reply) →
      Contains sent (Answers from session number reply) →
      (request : Request) × Contains sent (Asks from session number request)
  pub answered : (from : Which) (session number : ℕ) (reply : Reply) (request : Request) →
      Contains sent (Answers from session number reply) →
      Contains sent (Asks from session number request) →
      IsTrue (histories from) session request reply
  pub borne : (from : Which) (session number : ℕ) (reply : Reply) (request : Request) →
      Contains sent (Answers from session number reply) →
      Contains sent (Asks from session number request) →
      IsBorne (plan_in plans session) (histories from) from request reply
  pub held : IsHeld histories archive.marks
  pub once : AllPairs (λ earlier later. earlier.session ≢ later.session) plans
  pub planned : All (IsPlanOf sent) plans
  pub recorded : (session item : ℕ) (planned : Planned) (side : Which) (path : Path) →
      slice_get (plan_in plans session) item ≡ Some planned → WritesTo planned.item side path →
      IsStillRecorded (histories side) archive session path (seen_on planned side).since
      ⊎ IsPreferredIn plans session side path
  pub used : IsUsed plans histories

-- what an item's source had at its path when it was listed there
abbrev pub source_of : Histories → Which → Planned → Tree
source_of histories side planned =
    part_at (histories (other side)) (seen_on planned (other side)).since (path_of planned.item)

-- what is staged on a side is a beginning of the spelling of what the item's source had
pub record IsSoundStaging (plans : Plans) (histories : Histories) (side : Which)
    (staging : Staging) : Type 0 where
  pub planned : Planned
  pub item : slice_get (plan_in plans staging.token.session) staging.token.item ≡ Some planned
  pub reached : (seen_on planned (other side)).since ≤ length (histories (other side))
  pub begins : staging.bytes
      ≡ take (length staging.bytes) (spelling (source_of histories side planned))

-- a replacement by its session's plan, of a path that was not touched since, with all that the
-- source had
pub record IsSoundReplacement (plans : Plans) (histories : Histories) (side : Which) (token : Token)
    (path : Path) (since : ℕ) (new : Tree) : Type 0 where
  pub planned : Planned
  pub item : slice_get (plan_in plans token.session) token.item ≡ Some planned
  pub writes : WritesTo planned.item side path
  pub listed : since ≡ (seen_on planned side).since
  pub within : since ≤ length (histories side)
  pub quiet : is_quiet (histories side) since (length (histories side)) path ≡ true
  pub reached : (seen_on planned (other side)).since ≤ length (histories (other side))
  pub whole : new ≡ source_of histories side planned
  pub carries : (seen_on planned (other side)).marks ≡ mark new

abbrev pub IsSoundEvent : Plans → Histories → Archive → Which → Event → Type 0
IsSoundEvent plans histories archive side (Edited user edit) = Unit {0}
IsSoundEvent plans histories archive side (Began session) = session ≤ archive.last_session
IsSoundEvent plans histories archive side (Replaced token path since new) =
    IsSoundReplacement plans histories side token path since new

-- a side that has failed or stopped while it wrote an event adds no other
pub record IsSoundSide (plans : Plans) (histories : Histories) (archive : Archive) (side : Which)
    (machine : SidePicture) : Type 0 where
  pub staged : IfSome machine.side.staging (IsSoundStaging plans histories side)
  pub writing : IfSome machine.writing
      (λ event. (machine.status ≢ Up) × IsSoundEvent plans histories archive side event)

-- both sides held what is recorded
abbrev pub IsHeldRecord : Histories → Kept → Type 0
IsHeldRecord histories (Session session) = Unit {0}
IsHeldRecord histories (Recorded path marks) =
    (rest : Path) (content : Content) → get marks rest ≡ Some content → (side : Which) →
    Held (histories side) (path ++ rest) content
IsHeldRecord histories (RecordedDir path) = (side : Which) → Held (histories side) path Directory

-- what is recorded leaves alone each path of a replacement that may still come, and both sides held
-- it
pub record IsHarmless (plans : Plans) (histories : Histories) (kept : Kept) : Type 0 where
  pub leaves : (session item : ℕ) (planned : Planned) (side : Which) (path : Path) →
      slice_get (plan_in plans session) item ≡ Some planned → WritesTo planned.item side path →
      session ≡ last_session (histories side) →
      is_quiet (histories side) (seen_on planned side).since (length (histories side)) path ≡ true →
      (archive : Archive) → IsTree archive.marks → CanKeep archive kept →
      subtree (after_kept archive kept).marks path ≡ subtree archive.marks path
  pub held : IsHeldRecord histories kept

-- a running session has its plan, and none runs while a record is written
pub record IsSoundCoordinator (plans : Plans) (histories : Histories) (sent : Sent)
    (machine : CoordinatorPicture) : Type 0 where
  pub running : IfSome machine.running (λ running. (plan_in plans running.session ≡ running.plan)
      × (running.plan ≡ [] → IsFresh histories running.session))
  pub runs_over : RunsOver sent machine.archive machine.running
  pub writing : IfSome machine.writing (λ kept. (machine.status ≢ Up) × (machine.running ≡ None)
      × CanKeep machine.archive kept × IsHarmless plans histories kept)

-- The invariant of a run
pub record IsKept (plans : Plans) (world : Picture) : Type 0 where
  pub logged : world.log ≡ plans
  pub sound : IsSound plans (histories_of world) world.coordinator.archive world.sent
  pub sides : (side : Which) →
      IsSoundSide plans (histories_of world) world.coordinator.archive side (side_of world side)
  pub coordinator : IsSoundCoordinator plans (histories_of world) world.sent world.coordinator

-- a part of a tree that a replica may have
pub record IsOfReplica (part : Tree) : Type 0 where
  pub whole : Tree
  pub path : Path
  pub tree : IsTree whole
  pub fits : fits_replica whole ≡ true
  pub part_is : part ≡ subtree whole path
