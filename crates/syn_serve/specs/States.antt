-- A connection as its contracts see it.
use Rattle.std.specs.Prelude.{◌≡◌, ◌≢◌, ◌⊎◌, ℕ, Option, Some}
use Rattle.std.specs.Io.KnownBytes.{Appends}
use Rattle.syn_agent.specs.declared.agent.Agent.{Agent}
use Rattle.syn_link.specs.Connections as link_of
use Rattle.syn_link.specs.Frames.{AppendsSome, Bytes, frame_of}
use Rattle.syn_link.specs.Streams.{Comes, ComesAtFault, EndsBefore}
use Rattle.syn_link.specs.declared.error.LinkError.TheVariants as link
use Rattle.syn_serve.specs.Messages.{IsLawfulMessage, Message, message_spelling}
use Rattle.syn_serve.specs.declared.connection.ServerConnection.{ServerConnection}
use Rattle.syn_serve.specs.declared.error.ServeError.{ServeError}
use Rattle.syn_serve.specs.declared.error.ServeError.TheVariants.{BadFrame, BadMessage}
use Rattle.syn_serve.specs.declared.error.ServeError.TheVariants.{BegunElsewhere, Device, Memory}
use Rattle.syn_serve.specs.declared.error.ServeError.TheVariants.{TooLarge}

-- what its reader is to give, what came and was not handed out, the agent of its sessions, the
-- session that was begun over it last, and what its writer has
pub record ConnectionState : Type 0 where
  pub given : Option Bytes
  pub held : Bytes
  pub agent : Agent
  pub begun : Option ℕ
  pub written : Option Bytes

module _ {R W : Type 0} where
  abbrev pub reader_of : ServerConnection R W → R
  reader_of server = link_of.reader_of server.connection

  abbrev pub writer_of : ServerConnection R W → W
  writer_of server = link_of.writer_of server.connection

  -- what came and was not handed out
  abbrev pub held_by : ServerConnection R W → Bytes
  held_by server = link_of.held_by server.connection

  abbrev pub agent_of : ServerConnection R W → Agent
  agent_of server = server.agent

  -- the session that was answered as begun over it last
  abbrev pub begun_over : ServerConnection R W → Option ℕ
  begun_over server = server.begun

  abbrev pub state_of : (R → Option Bytes) → (W → Option Bytes) → ServerConnection R W
      → ConnectionState
  state_of remaining contents server = record {
    given = remaining (reader_of server);
    held = held_by server;
    agent = server.agent;
    begun = server.begun;
    written = contents (writer_of server);
  }

-- what is staged, what was begun and what was written stay
abbrev pub IsSilent : ConnectionState → ConnectionState → Type 0
IsSilent old new =
    (new.agent ≡ old.agent) × (new.written ≡ old.written) × (new.begun ≡ old.begun)

-- the body came in a frame, first of what came
abbrev pub Receives : ConnectionState → ConnectionState → Bytes → Type 0
Receives old new body = Comes old.given new.given old.held new.held (Some body)

-- the other side closed before a whole frame came
abbrev pub Ends : ConnectionState → ConnectionState → Type 0
Ends old new = EndsBefore old.given new.given old.held new.held

-- no message has this body
abbrev pub IsNoMessage : Bytes → Type 0
IsNoMessage body = (message : Message) → IsLawfulMessage message → body ≢ message_spelling message

-- Why a connection is closed before any hold: for the frame; for a body that is no message; for a
-- read that failed; or for memory, also where a body came
abbrev pub ClosesFor : ServeError → ConnectionState → ConnectionState → Type 0
ClosesFor Device old new = ComesAtFault old.given new.given old.held new.held link.Device
ClosesFor Memory old new = ComesAtFault old.given new.given old.held new.held link.Memory
    ⊎ ((body : Bytes) × Receives old new body)
ClosesFor BadFrame old new = ComesAtFault old.given new.given old.held new.held link.BadFrame
ClosesFor TooLarge old new = ComesAtFault old.given new.given old.held new.held link.TooLarge
ClosesFor BadMessage old new = (body : Bytes) × Receives old new body × IsNoMessage body
ClosesFor BegunElsewhere old new = ⊥

-- the body is written as a frame, whole
abbrev pub Sends : Option Bytes → Option Bytes → Bytes → Type 0
Sends old new body = Appends old new (frame_of body)

-- why it is not written whole: a write failed after a beginning, or memory was wanting before
abbrev pub BreaksOff : ServeError → Option Bytes → Option Bytes → Bytes → Type 0
BreaksOff Device old new body = AppendsSome old new (frame_of body)
BreaksOff Memory old new body = new ≡ old
BreaksOff BadFrame old new body = ⊥
BreaksOff TooLarge old new body = ⊥
BreaksOff BadMessage old new body = ⊥
BreaksOff BegunElsewhere old new body = ⊥
