-- A side that is served over connections: what was staged over each, and what the side does in one
-- hold after another.
use Rattle.std.specs.Prelude.{ℕ, ◌≡◌, ◌==◌, if◌then◌else◌, List, [], ◌∷◌, Option, None}
use Rattle.syn_model.specs.Refusal.{Refusal}
use Rattle.syn_model.specs.Event.{Edit, Event, Edited, IsLawfulEvent}
use Rattle.syn_model.specs.History.{History, IsAllowed}
use Rattle.syn_machine.specs.Machine.{Status, Journaled, Writes}
use Rattle.syn_machine.specs.MachineSteps.{Kind, Effect, Calls, MachineCall, Does}
use Rattle.syn_machine.specs.Side.{Request, Reply, Staging}
use Rattle.syn_machine.specs.SideMachine.{SideMachine, SideTakes, side_layout, staging_after}
use Rattle.syn_machine.specs.SideMachine.{causes_of}

-- a connection that may still bring a request, with what was staged over it; or one that is closed
pub data Connection : Type 0 where
  Live : (staging : Option Staging) → Connection
  Closed : Connection

-- The side's journal, and its connections by their numbers. Over one that did not come yet nothing
-- is staged, and one that closed does not come back
pub record Server : Type 0 where
  pub journal : Journaled History Event
  pub connections : ℕ → Connection

-- the side as a request over a connection with this staging finds it
abbrev pub side_over : Server → Option Staging → SideMachine
side_over server staging = record { journal = server.journal; staging = staging }

-- a stop loses what was staged over each connection
abbrev pub connection_after : Status → Connection → Connection
connection_after status (Live staging) = Live (staging_after status staging)
connection_after status Closed = Closed

-- a call on the journal left it so
abbrev pub with_journal : Server → Journaled History Event → Server
with_journal server journal = record {
  journal = journal;
  connections = λ connection. connection_after journal.status (server.connections connection);
}

-- so did one that answers a request, and it leaves what is staged over that connection alone
abbrev pub after_request : Server → ℕ → SideMachine → Server
after_request server connection machine = record {
  journal = machine.journal;
  connections = λ one. if one == connection then Live machine.staging
      else connection_after machine.journal.status (server.connections one);
}

abbrev pub without_connection : Server → ℕ → Server
without_connection server connection = record server {
  connections = λ one. if one == connection then Closed else server.connections one;
}

-- by itself a server is a machine as its side is
abbrev pub server_kind : ℕ → Kind Server (List Event) History Event
server_kind pair = record {
  layout = side_layout pair;
  CanKeep = IsAllowed;
  journal_of = λ server. server.journal;
  with_journal = with_journal;
  acknowledging = λ events. events;
}

-- an edit that is made
pub data EditsServer (pair : ℕ) (server : Server) (event : Event) : Server → List Event →
    Type 0 where
  edits : (journal : Journaled History Event) (events : List Event) → IsLawfulEvent event →
      Writes (side_layout pair) server.journal event journal events →
      EditsServer pair server event (with_journal server journal) events

-- an edit of a user, made or refused
abbrev pub ServerEdits : ℕ → Server → Event → Effect Server (List Event)
ServerEdits pair server event =
    Calls (server_kind pair) server (causes_of pair (side_over server None) event)
    (EditsServer pair server event)

-- Why the side is held: for a user's edit, for a request that came over a connection, since a
-- connection closed, or for a call of the machine itself
pub data Hold : Type 0 where
  ByUser : (user : ℕ) (edit : Edit) → Hold
  ByRequest : (connection session number : ℕ) (request : Request) → Hold
  ByClose : (connection : ℕ) → Hold
  ByMachine : (call : MachineCall) → Hold

-- with the reply that was written, if one was, the events that it acknowledged, and what its user
-- was refused
pub record Held : Type 0 where
  pub hold : Hold
  pub reply : Option Reply
  pub events : List Event
  pub refusals : List Refusal

-- one hold
pub data Holds (pair : ℕ) (old : Server) : Held → Server → Type 0 where
  edited : (user : ℕ) (edit : Edit) (new : Server) (events : List Event)
      (refusals : List Refusal) →
      ServerEdits pair old (Edited user edit) new events refusals →
      Holds pair old (record {
        hold = ByUser user edit;
        reply = None;
        events = events;
        refusals = refusals;
      }) new
  answered : (connection session number : ℕ) (request : Request) (staging : Option Staging)
      (machine : SideMachine) (reply : Option Reply) (events : List Event) →
      old.connections connection ≡ Live staging →
      SideTakes pair (side_over old staging) session request machine reply events →
      Holds pair old (record {
        hold = ByRequest connection session number request;
        reply = reply;
        events = events;
        refusals = [];
      }) (after_request old connection machine)
  closed : (connection : ℕ) →
      Holds pair old (record {
        hold = ByClose connection;
        reply = None;
        events = [];
        refusals = [];
      }) (without_connection old connection)
  called : (call : MachineCall) (new : Server) (events : List Event) (refusals : List Refusal) →
      Does (server_kind pair) old call new events refusals →
      Holds pair old (record {
        hold = ByMachine call;
        reply = None;
        events = events;
        refusals = refusals;
      }) new

-- holds, one after another
abbrev pub HoldsAll : ℕ → Server → List Held → Server → Type 0
HoldsAll pair old [] new = new ≡ old
HoldsAll pair old (held ∷ later) new =
    (between : Server) × Holds pair old held between × HoldsAll pair between later new
