-- A session that runs, over its own transcript: what waits, what an answer brings, its plan, and
-- what it may ask next.
--
-- What it may ask next is said over the transcript (`MayAsk`). Before it has its plan, once both
-- sides have begun, that is a listing, of the root or of a path that a listing showed as a
-- directory. Then, for the item that it has come to, it is the next piece of its source, or a piece
-- that was taken. Once the whole is staged, it is the replacement. After the last answer to an item
-- it is past that item. Requests are numbered from 0 on each side, and nothing is asked of a side
-- twice but by a resend (`AsksOnce`).
--
-- An answer is taken where it has the session and number of a request that waits (`IsExpected`).
-- That waits no more then, what is sent waits with no resend yet, and nothing else changes
-- (`hearing`, `asking`). It ends the session at once exactly where `fault_of` says so: where a
-- begin or a listing was refused; with 22, where the scan with this listing passes 4,096 nodes; and
-- with 23, where a child would break the limits of paths, a piece has another total or length than
-- it should, or the answer is of another kind.
use Rattle.std.specs.Option.{option_map_or}
use Rattle.std.specs.List.{list_any, list_all, count_by}
use Rattle.std.specs.Ordering.{eq_by_cmp}
use Rattle.std.specs.Prelude.{ℕ, suc, min, Bool, true, false, not, nat_le, nat_lt, if◌then◌else◌}
use Rattle.std.specs.Prelude.{◌&&◌, ◌==◌, ◌+◌, ◌-◌, ◌^◌, ◌≤◌, ◌<◌, ◌≡◌, ◌⊎◌, List, [], ◌∷◌, ◌++◌}
use Rattle.std.specs.Prelude.{map, filter, filter_map, length, slice_get, sum_by, Option, Some}
use Rattle.std.specs.Prelude.{None, All, AllPairs, Contains}
use Rattle.syn_model.specs.Path.{Path, Name, root, child, path_cmp}
use Rattle.syn_model.specs.Tree.{Content, Directory, is_directory}
use Rattle.syn_model.specs.Limits.{fits_path, greatest_piece, most_nodes}
use Rattle.syn_model.specs.Dirty.{IsScanBy}
use Rattle.syn_model.specs.Refusal.{Refusal, TooLarge, BadMessage, first_cause}
use Rattle.syn_model.specs.Archive.{Archive, Kept, Session, Recorded, RecordedDir, after_kept}
use Rattle.syn_model.specs.Archive.{kept_refusal}
use Rattle.syn_model.specs.MarkSpelling.{kept_spelling, archive_spelling}
use Rattle.syn_model.specs.Decision.{Item, ToLeft, ToRight, MarkSame, MarkDir, Conflict, path_of}
use Rattle.syn_model.specs.Plan.{plan as items_of}
use Rattle.syn_machine.specs.Machine.{Journaled, Layout}
use Rattle.syn_machine.specs.Side.{Request, Begin, ListAt, Fetch, Stage, Replace, IsLawfulRequest}
use Rattle.syn_machine.specs.Side.{Reply, Begun, Listed, NotDir, Piece, Staged, Done, Refused}
use Rattle.syn_machine.specs.Network.{Which, Left, Right, other, is_side, Message, Asks, IsRepeat}
use Rattle.syn_machine.specs.Planning.{Planned, seen_on, SeesBoth, SessionPlan, Log, WritesTo}

-- a request of the session that was answered, with the answer that was taken
pub record Exchange : Type 0 where
  pub side : Which
  pub number : ℕ
  pub request : Request
  pub reply : Reply

-- a request that waits for its answer
pub record Outstanding : Type 0 where
  pub number : ℕ
  pub request : Request
  pub resent : ℕ

-- A session that runs: the side that it prefers; its transcript, in order of time; what waits on
-- each side; its plan, once it is made, the item that it has come to, and what it recorded and
-- refused so far
pub record Running : Type 0 where
  pub session : ℕ
  pub preference : Option Which
  pub taken : List Exchange
  pub left : List Outstanding
  pub right : List Outstanding
  pub plan : Option (List Planned)
  pub cursor : ℕ
  pub kept : List Kept
  pub refused : List (Refusal × Path)

pub record CoordinatorMachine : Type 0 where
  pub journal : Journaled Archive Kept
  pub running : Option Running

-- how an archive's journal is written: a directory that is recorded already is not written
abbrev pub is_recorded : Archive → Kept → Bool
is_recorded archive (RecordedDir path) = is_directory archive.marks path
is_recorded archive (Recorded path marks) = false
is_recorded archive (Session session) = false

abbrev pub archive_layout : ℕ → Layout Archive Kept
archive_layout pair = record {
  after = after_kept;
  is_idle = is_recorded;
  payload = kept_spelling;
  image = archive_spelling pair;
}

-- What waits

abbrev pub outstanding : Running → Which → List Outstanding
outstanding running Left = running.left
outstanding running Right = running.right

-- the request that waits under the number
abbrev pub asked_in : List Outstanding → ℕ → Option Request
asked_in [] number = None
asked_in (waiting ∷ more) number = if waiting.number == number then Some waiting.request
    else asked_in more number

abbrev pub asked_of : Running → Which → ℕ → Option Request
asked_of running side number = asked_in (outstanding running side) number

abbrev pub without : ℕ → List Outstanding → List Outstanding
without number waiting = filter (λ one. not (one.number == number)) waiting

-- how many requests the session sent to a side, resends aside
abbrev pub asked_count : Running → Which → ℕ
asked_count running side =
    count_by (λ exchange. is_side side exchange.side) running.taken + length (outstanding running
    side)

-- requests that are sent now, numbered on from there
abbrev pub numbered : ℕ → List Request → List Outstanding
numbered number [] = []
numbered number (request ∷ more) =
    record { number = number; request = request; resent = 0 } ∷ numbered (suc number) more

abbrev pub asking : Running → List Request → List Request → Running
asking running left right = record running {
  left = running.left ++ numbered (asked_count running Left) left;
  right = running.right ++ numbered (asked_count running Right) right;
}

abbrev pub messages_to : ℕ → Which → List Outstanding → List Message
messages_to session side waiting = map (λ one. Asks side session one.number one.request) waiting

-- so many listings wait on a side at most
abbrev pub most_listings : ℕ
most_listings = 8

abbrev pub IsListing : Request → Type 0
IsListing (ListAt path) = Unit {0}
IsListing _ = ⊥

-- what may wait on a side at a time: one request of any kind, or several listings
abbrev pub MayWait : List Outstanding → Type 0
MayWait waiting = (length waiting ≤ 1)
    ⊎ (All (λ one. IsListing one.request) waiting × (length waiting ≤ most_listings))

-- what was asked for first stands first
abbrev pub AreRising : List Outstanding → Type 0
AreRising waiting = AllPairs (λ earlier later. earlier.number < later.number) waiting

-- it waits for an answer, and on each side for no more than it may at a time
abbrev pub Waits : Running → Type 0
Waits running =
    (1 ≤ length running.left + length running.right)
    × MayWait running.left × MayWait running.right

-- The transcript

abbrev pub WasTaken : List Exchange → Which → Request → Reply → Type 0
WasTaken taken side request reply =
    (number : ℕ) × Contains taken (record {
      side = side;
      number = number;
      request = request;
      reply = reply;
    })

-- the request was sent to the side in this session
abbrev pub WasAsked : Running → Which → ℕ → Request → Type 0
WasAsked running side number request =
    ((reply : Reply) × Contains running.taken (record {
      side = side;
      number = number;
      request = request;
      reply = reply;
    }))
    ⊎ ((resent : ℕ) × Contains (outstanding running side)
    (record { number = number; request = request; resent = resent }))

-- resends aside, nothing is asked twice of a side
abbrev pub AsksOnce : Running → Type 0
AsksOnce running = (side : Which) (m n : ℕ) (a b : Request) →
    WasAsked running side m a → WasAsked running side n b → IsRepeat a b → m ≡ n

abbrev pub BothBegun : List Exchange → Type 0
BothBegun taken = (side : Which) → (pair : ℕ) × (position : ℕ) × WasTaken taken side (Begin pair)
    (Begun position)

-- the path is the root, or a listing that was taken shows a directory there
abbrev pub IsShown : List Exchange → Which → Path → Type 0
IsShown taken side path =
    (path ≡ root)
    ⊎ ((above : Path) × (name : Name) × (position : ℕ) × (entries : List (Name × Content))
    × (path ≡ child above name)
    × WasTaken taken side (ListAt above) (Listed position entries)
    × Contains entries (name, Directory))

-- a path was answered as no directory
abbrev pub is_not_dir : Reply → Bool
is_not_dir (NotDir position) = true
is_not_dir _ = false

-- a path of its scans was answered as no directory
abbrev pub took_not_dir : Running → Bool
took_not_dir running = list_any (λ exchange. is_not_dir exchange.reply) running.taken

-- What an answer brings

abbrev pub entries_in : Reply → ℕ
entries_in (Listed position entries) = length entries
entries_in _ = 0

-- the nodes that the listings of a side show: the root, and each entry
abbrev pub nodes_shown : List Exchange → Which → ℕ
nodes_shown taken side =
    1 + sum_by (λ exchange. if is_side side exchange.side then entries_in exchange.reply
    else 0) taken

-- the length of the whole that an answer gave first for a path
abbrev pub piece_total : Path → Request → Reply → Option ℕ
piece_total path (Fetch at since offset) (Piece total bytes) = if eq_by_cmp path_cmp at path
    then Some total else None
piece_total path _ _ = None

abbrev pub first_total : List Exchange → Path → Option ℕ
first_total taken path =
    slice_get (filter_map (λ exchange. piece_total path exchange.request exchange.reply) taken) 0

-- a piece has the length that the item's first piece gave for the whole, and all the bytes that it
-- can
abbrev pub fits_piece : Option ℕ → ℕ → ℕ → ℕ → Bool
fits_piece first offset total count =
    option_map_or (λ was. total == was) first true && nat_le offset total
    && count == min greatest_piece (total - offset)

-- The refusal with which an answer ends the session at once, if it does: a begin or a listing is
-- refused, a scan grows too large, or the answer does not belong. A refusal of another request
-- refuses its item and ends nothing
abbrev pub fault_of : List Exchange → Which → Request → Reply → Option Refusal
fault_of taken from (Begin pair) (Refused why) = Some why
fault_of taken from (Begin pair) (Begun position) = None
fault_of taken from (ListAt path) (Refused why) = Some why
fault_of taken from (ListAt path) (NotDir position) = None
fault_of taken from (ListAt path) (Listed position entries) =
    first_cause ((nat_lt most_nodes (nodes_shown taken from + length entries), TooLarge)
    ∷ (not (list_all (λ entry. fits_path (child path entry.0)) entries), BadMessage) ∷ [])
fault_of taken from (Fetch path since offset) (Refused why) = None
fault_of taken from (Fetch path since offset) (Piece total bytes) =
    first_cause ((not (fits_piece (first_total taken path) offset total (length bytes)), BadMessage)
    ∷ [])
fault_of taken from (Stage item offset bytes) (Refused why) = None
fault_of taken from (Stage item offset bytes) Staged = None
fault_of taken from (Replace item path since size) (Refused why) = None
fault_of taken from (Replace item path since size) Done = None
fault_of taken from request reply = Some BadMessage

-- The plan

abbrev pub plan_of : Running → List Planned
plan_of running = option_map_or (λ plan. plan) running.plan []

-- the plan is that of the scans that the transcript gives, of the archive, and of the side that the
-- session prefers
pub record MakesPlan (running : Running) (archive : Archive) (made : SessionPlan) : Type 0 where
  pub of_session : made.session ≡ running.session
  pub prefers : made.preference ≡ running.preference
  pub archive_is : made.archive ≡ archive.marks
  pub begun : BothBegun running.taken
  pub scanned : (side : Which) → IsScanBy
      (λ path position entries. WasTaken running.taken side (ListAt path) (Listed position entries))
      (λ path position. WasTaken running.taken side (ListAt path) (NotDir position))
      (made.scan side) (made.since side)
  pub items : map (λ planned. planned.item) made.plan ≡ items_of made.preference (made.scan Left)
      (made.scan Right) made.archive
  pub seen : All (SeesBoth made.scan made.since) made.plan

-- the plan stays, or it is made, once in a session
pub data HasPlan (archive : Archive) (running : Running) : Option (List Planned) → Log →
    Type 0 where
  stays : HasPlan archive running running.plan []
  makes : (made : SessionPlan) → running.plan ≡ None → MakesPlan running archive made →
      HasPlan archive running (Some made.plan) (made ∷ [])

-- what is to be recorded for an item, with the marks that both scans show or its source shows
abbrev pub record_for : Planned → Item → Option Kept
record_for planned (ToLeft path) = Some (Recorded path planned.right.marks)
record_for planned (ToRight path) = Some (Recorded path planned.left.marks)
record_for planned (MarkSame path) = Some (Recorded path planned.left.marks)
record_for planned (MarkDir path) = Some (RecordedDir path)
record_for planned (Conflict path) = None

-- What is asked for

-- the item that the session has come to
abbrev pub AtCursor : Running → (Planned → Type 0) → Type 0
AtCursor running P = (planned : Planned)
    × (slice_get (plan_of running) running.cursor ≡ Some planned) × P planned

-- so many bytes of the item are staged on the side
abbrev pub IsStagedTo : Running → Which → ℕ → Type 0
IsStagedTo running to count = (count ≡ 0) ⊎ ((before : ℕ) × (bytes : List ℕ)
    × WasTaken running.taken to (Stage running.cursor before bytes) Staged
    × (count ≡ before + length bytes))

-- more is to be fetched from the offset on, as far as the length of the whole is known
abbrev pub is_wanted : ℕ → Option ℕ → Bool
is_wanted offset total = option_map_or (λ total. nat_lt offset total) total (offset == 0)

-- what a running session may ask of a side next: a listing, before it has its plan, of a path that
-- is shown as a directory; then the next piece of what the item is to carry, once its record fits
-- the archive; a piece that was taken; and its replacement, once the whole is staged
abbrev pub MayAsk : Archive → Running → Which → Request → Type 0
MayAsk archive running to (Begin pair) = ⊥
MayAsk archive running to (ListAt path) = (running.plan ≡ None) × BothBegun running.taken
    × IsShown running.taken to path
MayAsk archive running to (Fetch path since offset) = AtCursor running (λ planned.
    WritesTo planned.item (other to) path × (since ≡ (seen_on planned to).since)
    × (kept_refusal archive (Recorded path (seen_on planned to).marks) ≡ None)
    × IsStagedTo running (other to) offset
    × (is_wanted offset (first_total running.taken path) ≡ true))
MayAsk archive running to (Stage item offset bytes) = (item ≡ running.cursor)
    × AtCursor running (λ planned.
    WritesTo planned.item to (path_of planned.item) × (total : ℕ)
    × WasTaken running.taken (other to)
    (Fetch (path_of planned.item) (seen_on planned (other to)).since offset) (Piece total bytes))
MayAsk archive running to (Replace item path since size) = (item ≡ running.cursor)
    × AtCursor running (λ planned.
    WritesTo planned.item to path × (since ≡ (seen_on planned to).since) × (offset : ℕ)
    × (bytes : List ℕ)
    × WasTaken running.taken (other to)
    (Fetch (path_of planned.item) (seen_on planned (other to)).since offset) (Piece size bytes)
    × IsStagedTo running to size)

-- and each request is lawful, with a number that four bytes can spell
pub record AsksNext (archive : Archive) (running : Running)
    (left right : List Request) : Type 0 where
  pub may_left : All (MayAsk archive running Left) left
  pub may_right : All (MayAsk archive running Right) right
  pub lawful : All (IsLawfulRequest running.session) (left ++ right)
  pub numbers : (side : Which) → asked_count (asking running left right) side ≤ 2 ^ 32
  pub once : AsksOnce (asking running left right)
  pub waits : Waits (asking running left right)
