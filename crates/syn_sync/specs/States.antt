-- What is read from a side, as its contracts see it.
use Rattle.std.specs.Prelude.{◌≡◌, Bool, List, [], ◌∷◌, Option, Some}
use Rattle.syn_link.specs.Connections as link
use Rattle.syn_link.specs.Frames.{Bytes}
use Rattle.syn_link.specs.Streams.{Comes}
use Rattle.syn_message.specs.Replies.{ReplyMessage, IsLawfulReplyMessage, reply_spelling}
use Rattle.syn_sync.specs.declared.session_connection.SessionConnection.{SessionConnection}

-- what the reader is to give, and what came and was not handed out
pub record ConnectionState : Type 0 where
  pub given : Option Bytes
  pub held : Bytes

module _ {R W : Type 0} where
  abbrev pub reader_of : SessionConnection R W → R
  reader_of side = link.reader_of side.connection

  abbrev pub writer_of : SessionConnection R W → W
  writer_of side = link.writer_of side.connection

  -- what came and was not handed out
  abbrev pub held_by : SessionConnection R W → Bytes
  held_by side = link.held_by side.connection

  -- it goes on
  abbrev pub is_open : SessionConnection R W → Bool
  is_open side = side.open

  abbrev pub state_of : (R → Option Bytes) → SessionConnection R W → ConnectionState
  state_of remaining side = record { given = remaining (reader_of side); held = held_by side }

-- the reply came in the first frame
pub record Hears (old new : ConnectionState) (answering : ReplyMessage) : Type 0 where
  pub lawful : IsLawfulReplyMessage answering
  pub came : Comes old.given new.given old.held new.held (Some (reply_spelling answering))

-- replies came, one after another
abbrev pub HearsAll : ConnectionState → List ReplyMessage → ConnectionState → Type 0
HearsAll old [] new = new ≡ old
HearsAll old (answering ∷ later) new =
    (between : ConnectionState) × Hears old between answering × HearsAll between later new
