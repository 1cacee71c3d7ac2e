-- A user's connection as its contracts see it.
use Rattle.std.specs.Prelude.{◌≡◌, ℕ, Bool, Option, Some}
use Rattle.syn_link.specs.Connections as link
use Rattle.syn_link.specs.Frames.{Bytes}
use Rattle.syn_link.specs.Streams.{Comes}
use Rattle.syn_user.specs.declared.connection.UserConnection.{UserConnection}

-- what its reader is to give, what came and was not handed out, what its writer has, whether it
-- goes on, and the number of the next request
pub record ConnectionState : Type 0 where
  pub given : Option Bytes
  pub held : Bytes
  pub written : Option Bytes
  pub goes : Bool
  pub next : ℕ

module _ {R W : Type 0} where
  abbrev pub reader_of : UserConnection R W → R
  reader_of user = link.reader_of user.connection

  abbrev pub writer_of : UserConnection R W → W
  writer_of user = link.writer_of user.connection

  -- what came and was not handed out
  abbrev pub held_by : UserConnection R W → Bytes
  held_by user = link.held_by user.connection

  -- it goes on
  abbrev pub is_open : UserConnection R W → Bool
  is_open user = user.open

  -- the number of the next request
  abbrev pub next_of : UserConnection R W → ℕ
  next_of user = user.next

  abbrev pub state_of : (R → Option Bytes) → (W → Option Bytes) → UserConnection R W
      → ConnectionState
  state_of remaining contents user = record {
    given = remaining (reader_of user);
    held = held_by user;
    written = contents (writer_of user);
    goes = user.open;
    next = user.next;
  }

-- the body came in a frame, first of what came
abbrev pub Receives : ConnectionState → ConnectionState → Bytes → Type 0
Receives old new body = Comes old.given new.given old.held new.held (Some body)

-- nothing was read
abbrev pub IsUnread : ConnectionState → ConnectionState → Type 0
IsUnread old new = (new.given ≡ old.given) × (new.held ≡ old.held)
