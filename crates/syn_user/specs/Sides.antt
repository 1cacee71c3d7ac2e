-- What a side of a session is asked over a connection, what it tells, and the tree that it tells.
use Rattle.std.specs.Prelude.{◌≡◌, ◌≢◌, ◌⊎◌, ◌≤◌, ◌+◌, ℕ, List, [], ◌∷◌, length, Option, Some}
use Rattle.std.specs.Prelude.{drop, flat_map, take}
use Rattle.std.specs.Io.KnownBytes.{Appends}
use Rattle.syn_machine.specs.Side.{Fetch, ListAt, Listed, NotDir, Piece, Refused, Reply, Request}
use Rattle.syn_link.specs.Connections.{held_by, reader_of, writer_of}
use Rattle.syn_link.specs.Frames.{AppendsSome, Bytes, frame_of}
use Rattle.syn_link.specs.Streams.{Comes, ComesAtFault, EndsBefore}
use Rattle.syn_link.specs.declared.error.LinkError.TheVariants as link
use Rattle.syn_message.specs.Replies.{IsLawfulReply, reply_spelling}
use Rattle.syn_message.specs.Requests.{RequestMessage, IsLawfulRequestMessage, request_spelling}
use Rattle.syn_model.specs.Limits.{greatest_piece}
use Rattle.syn_model.specs.Path.{Path}
use Rattle.syn_model.specs.Refusal.{Touched}
use Rattle.syn_model.specs.Spelling.{spelling}
use Rattle.syn_model.specs.Tree.{Tree}
use Rattle.syn_model.specs.Version.{current_version}
use Rattle.syn_refusal.specs.Refusals.{cause_of}
use Rattle.syn_refusal.specs.declared.refusal.Refusal.{Refusal}
use Rattle.syn_refusal.specs.declared.refusal.Refusal.TheVariants as refusal
use Rattle.syn_user.specs.Exchanges.{number_after}
use Rattle.syn_user.specs.declared.error.UserError.{UserError}
use Rattle.syn_user.specs.declared.error.UserError.TheVariants as has
use Rattle.syn_user.specs.declared.side.SideConnection.{SideConnection}
use Rattle.syn_user.specs.declared.side.TheConstants.{MOST_TRIES, SESSION}
use Rattle.syn_wire.specs.Trees.{IsWholeTreeIn}

-- what the reader is to give, what came and was not handed out, what the writer has, and the number
-- of the next request
pub record SideState : Type 0 where
  pub given : Option Bytes
  pub held : Bytes
  pub written : Option Bytes
  pub next : ℕ

abbrev pub side_state : {R W : Type 0} → (R → Option Bytes) → (W → Option Bytes)
    → SideConnection R W → SideState
side_state remaining contents side = record {
  given = remaining (reader_of side.connection);
  held = held_by side.connection;
  written = contents (writer_of side.connection);
  next = side.next;
}

-- nothing was asked yet
abbrev pub first_line : Option Bytes → Option Bytes → SideState
first_line given written = record { given = given; held = []; written = written; next = 0 }

-- the request with this number, and with the one that is next
abbrev pub message_with : ℕ → Request → RequestMessage
message_with number request = record { session = SESSION; number = number; request = request }

abbrev pub message_at : SideState → Request → RequestMessage
message_at state request = message_with state.next request

module _ (old new : SideState) where
  -- it was written as a frame, whole, with the number that was next
  pub record IsAsked (request : Request) : Type 0 where
    pub lawful : IsLawfulRequestMessage (message_at old request)
    pub written : Appends old.written new.written
        (frame_of (request_spelling (message_at old request)))

  -- it came in the first frame, as the reply to the request with the number that was next
  pub record IsHeard (reply : Reply) : Type 0 where
    pub lawful : IsLawfulReply reply
    pub came : Comes old.given new.given old.held new.held (Some (reply_spelling
        (record { session = SESSION; number = old.next; reply = reply })))
    pub next : new.next ≡ number_after old.next

  -- the request was sent, and this came as its reply
  pub record IsReplied (request : Request) (reply : Reply) : Type 0 where
    pub asked : IsAsked request
    pub heard : IsHeard reply

-- no reply to the request with the number that was next has this body
abbrev pub IsNoReply : SideState → Bytes → Type 0
IsNoReply state body = (reply : Reply) → IsLawfulReply reply → body ≢ reply_spelling
    (record { session = SESSION; number = state.next; reply = reply })

module _ (old new : SideState) where
  -- nothing was read
  abbrev pub IsUnread : Type 0
  IsUnread = (new.given ≡ old.given) × (new.held ≡ old.held)

  -- Why no reply was read: for a read that failed, or the end of the reader; for memory, also where
  -- a body came; for the frame; or for a body that is no reply
  abbrev pub IsUnheard : UserError → Type 0
  IsUnheard (has.Refused why) = ⊥
  IsUnheard has.Device = ComesAtFault old.given new.given old.held new.held link.Device
      ⊎ EndsBefore old.given new.given old.held new.held
  IsUnheard has.Memory = ComesAtFault old.given new.given old.held new.held link.Memory
      ⊎ ((body : Bytes) × Comes old.given new.given old.held new.held (Some body))
  IsUnheard has.BadFrame = ComesAtFault old.given new.given old.held new.held link.BadFrame
  IsUnheard has.TooLarge = ComesAtFault old.given new.given old.held new.held link.TooLarge
  IsUnheard has.BadMessage = (body : Bytes)
      × Comes old.given new.given old.held new.held (Some body) × IsNoReply old body

  -- why it was not written whole: a write failed after a beginning, or memory was wanting before
  abbrev pub BreaksOff : Request → UserError → Type 0
  BreaksOff request has.Device = AppendsSome old.written new.written
      (frame_of (request_spelling (message_at old request)))
  BreaksOff request has.Memory = new.written ≡ old.written
  BreaksOff request _ = ⊥

  -- why no reply to the request came: it was not written whole, or was, and none was read
  pub data IsUnanswered (request : Request) (error : UserError) : Type 0 where
    unsent : BreaksOff request error → IsUnread → IsUnanswered request error
    unheard : IsAsked old new request → IsUnheard error → IsUnanswered request error

-- a refusal of the replica's came as the reply to the request
abbrev pub IsRefusedFor : SideState → SideState → Request → UserError → Type 0
IsRefusedFor old new request (has.Refused why) = IsReplied old new request (Refused (cause_of why))
IsRefusedFor old new request _ = Unit {0}

-- a listing tells the names in a directory, or that none is there
abbrev pub IsListing : Reply → Type 0
IsListing (Listed position entries) = Unit {0}
IsListing (NotDir position) = Unit {0}
IsListing _ = ⊥

-- no listing is answered so, and no fetching of a piece
abbrev pub IsNoListing : Reply → Type 0
IsNoListing (Listed position entries) = ⊥
IsNoListing (NotDir position) = ⊥
IsNoListing (Refused why) = ⊥
IsNoListing _ = Unit {0}

abbrev pub IsNoPiece : Reply → Type 0
IsNoPiece (Piece total bytes) = ⊥
IsNoPiece (Refused why) = ⊥
IsNoPiece _ = Unit {0}

-- Why a request is not granted: the replica refused it, its reply is foreign to it, or none came
pub data IsDenied (old new : SideState) (request : Request) (IsForeign : Reply → Type 0)
    : UserError → Type 0 where
  refused : (why : Refusal) → IsReplied old new request (Refused (cause_of why)) →
      IsDenied old new request IsForeign (has.Refused why)
  foreign : (reply : Reply) → IsReplied old new request reply → IsForeign reply →
      IsDenied old new request IsForeign has.BadMessage
  unanswered : (error : UserError) → IsUnanswered old new request error →
      IsDenied old new request IsForeign error

-- why a path is not listed
abbrev pub IsUnlisted : SideState → SideState → Path → UserError → Type 0
IsUnlisted old new path error = IsDenied old new (ListAt path) IsNoListing error

-- the whole tree that the replica had at the position, from that byte of its spelling on
abbrev pub root_from : ℕ → ℕ → Request
root_from position offset = Fetch [] position offset

-- pieces with the length of all that they are of, and their bytes one after the other
abbrev pub Pieces : Type 0
Pieces = List (ℕ × Bytes)

abbrev pub bytes_of : Pieces → Bytes
bytes_of pieces = flat_map (λ piece. piece.1) pieces

-- the pieces came, the first from that byte on, and each from where the one before it ended
abbrev pub AreFetched : ℕ → SideState → ℕ → Pieces → SideState → Type 0
AreFetched position old offset [] new = new ≡ old
AreFetched position old offset (piece ∷ more) new = (between : SideState)
    × IsReplied old between (root_from position offset) (Piece piece.0 piece.1)
    × AreFetched position between (offset + length piece.1) more new

-- The first pieces of a spelling, from that byte on: each tells how long all of it is, and has as
-- many bytes of it as a piece can have, from where the one before it ended.
abbrev pub AreFirstOf : Bytes → ℕ → Pieces → Type 0
AreFirstOf spelled offset [] = Unit {0}
AreFirstOf spelled offset (piece ∷ more) = (piece.0 ≡ length spelled)
    × (piece.1 ≡ take greatest_piece (drop offset spelled))
    × AreFirstOf spelled (offset + length piece.1) more

-- they are the first pieces of no tree that a replica can have
abbrev pub AreOfNoTree : Pieces → Type 0
AreOfNoTree pieces = (tree : Tree) → IsWholeTreeIn current_version tree
    → ¬ AreFirstOf (spelling tree) 0 pieces

-- all pieces of the tree that the replica had at the position came
pub record ArePiecesOf (position : ℕ) (old new : SideState) (tree : Tree) : Type 0 where
  pub pieces : Pieces
  pub came : AreFetched position old 0 pieces new
  pub spells : bytes_of pieces ≡ spelling tree

-- some pieces came, and after them that the replica was edited since the position
pub record IsTouchedSince (position : ℕ) (old new : SideState) : Type 0 where
  pub pieces : Pieces
  pub between : SideState
  pub came : AreFetched position old 0 pieces between
  pub touched : IsReplied between new (root_from position (length (bytes_of pieces)))
      (Refused Touched)

-- why the piece from that byte on does not come
abbrev pub NoPiece : ℕ → ℕ → SideState → SideState → UserError → Type 0
NoPiece position offset old new error =
    IsDenied old new (root_from position offset) IsNoPiece error

-- Why no tree came at the position: some pieces came, and after them not the next one; or those
-- that came are of no tree, or memory is wanting for them
pub data NoPieces (position : ℕ) (old new : SideState) : UserError → Type 0 where
  no_piece : (pieces : Pieces) (between : SideState) (error : UserError) →
      AreFetched position old 0 pieces between →
      NoPiece position (length (bytes_of pieces)) between new error →
      NoPieces position old new error
  no_tree : (pieces : Pieces) → AreFetched position old 0 pieces new → AreOfNoTree pieces →
      NoPieces position old new has.BadMessage
  no_memory : (pieces : Pieces) → AreFetched position old 0 pieces new →
      NoPieces position old new has.Memory

-- why no position is told: the root is not listed, or is no directory
pub data NoPosition (old new : SideState) : UserError → Type 0 where
  untold : (error : UserError) → IsUnlisted old new [] error → NoPosition old new error
  rootless : (position : ℕ) → IsReplied old new (ListAt []) (NotDir position) →
      NoPosition old new has.BadMessage

-- the root was listed, from the position
abbrev pub TellsPosition : ℕ → SideState → SideState → Type 0
TellsPosition position old new =
    (entries : _) × IsReplied old new (ListAt []) (Listed position entries)

-- The replica told its position, and then the pieces of the tree that it had there. Before that it
-- may have told others, of trees that were edited while their pieces came.
pub data ShowsTree (position : ℕ) (tree : Tree) (new : SideState) : SideState → Type 0 where
  whole : (old listed : SideState) → TellsPosition position old listed →
      ArePiecesOf position listed new tree → ShowsTree position tree new old
  again : (earlier : ℕ) (old listed touched : SideState) → TellsPosition earlier old listed →
      IsTouchedSince earlier listed touched → ShowsTree position tree new touched →
      ShowsTree position tree new old

-- Why no tree came, after so many that were edited while their pieces came: no position was told,
-- or not all pieces came; or so many were edited as are asked for at most.
pub data NoTree (new : SideState) (error : UserError) : ℕ → SideState → Type 0 where
  unlisted : (edited : ℕ) (old : SideState) → NoPosition old new error →
      NoTree new error edited old
  unfetched : (edited position : ℕ) (old listed : SideState) → TellsPosition position old listed →
      NoPieces position listed new error → NoTree new error edited old
  once_more : (edited position : ℕ) (old listed touched : SideState) →
      TellsPosition position old listed → IsTouchedSince position listed touched →
      NoTree new error (edited + 1) touched → NoTree new error edited old
  too_often : (edited : ℕ) → MOST_TRIES ≤ edited → error ≡ has.Refused refusal.Touched →
      NoTree new error edited new
