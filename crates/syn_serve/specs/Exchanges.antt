-- One exchange over a connection: a request comes, one hold answers it, and the reply goes back.
use Rattle.std.specs.Prelude.{◌≡◌, Result, Ok, Err}
use Rattle.syn_disk.specs.declared.disk.Disk.{Ghosts}
use Rattle.syn_lock.specs.declared.own.Pass.{Pass}
use Rattle.syn_replica.specs.declared.replica.Replica.{Replica}
use Rattle.syn_serve.specs.Begins.{begun_after}
use Rattle.syn_serve.specs.Holds.{DeclinesMessage, Responds}
use Rattle.syn_serve.specs.States.{BreaksOff, ClosesFor, Ends, IsSilent, ConnectionState, Receives}
use Rattle.syn_serve.specs.States.{Sends}
use Rattle.syn_serve.specs.Messages.{IsLawfulMessage, Message, Response, message_spelling}
use Rattle.syn_serve.specs.Messages.{response_spelling}
use Rattle.syn_serve.specs.declared.connection.Exchanged.{Exchanged}
use Rattle.syn_serve.specs.declared.connection.Exchanged.TheVariants.{Answered, Ended}
use Rattle.syn_serve.specs.declared.error.ServeError.{ServeError}
use Rattle.syn_serve.specs.declared.error.ServeError.TheVariants.{BegunElsewhere}
use Rattle.syn_shared.specs.declared.shared.SharedReplica.{SharedReplica}

-- a connection with the pass that it has
pub record Moment (D : Type 0) (disk : Ghosts D) : Type 0 where
  pub state : ConnectionState
  pub pass : Pass (Replica D disk)

abbrev pub moment : {D : Type 0} → {disk : Ghosts D} → ConnectionState → Pass (Replica D disk)
    → Moment D disk
moment state pass = record { state = state; pass = pass }

module _ {D : Type 0} {disk : Ghosts D} (shared : SharedReplica D disk) where
  -- a message came, and one hold answered it
  pub record IsAnswered (old new : Moment D disk) (message : Message) (response : Response)
      : Type 0 where
    pub lawful : IsLawfulMessage message
    pub came : Receives old.state new.state (message_spelling message)
    pub held : Responds shared old.pass new.pass old.state.begun old.state.agent new.state.agent
        message response
    pub begun : new.state.begun ≡ begun_after old.state.begun response

  -- a message came that begins a session, and one hold declined it
  pub record IsDeclined (old new : Moment D disk) (message : Message) : Type 0 where
    pub lawful : IsLawfulMessage message
    pub came : Receives old.state new.state (message_spelling message)
    pub held : DeclinesMessage shared old.pass new.pass old.state.begun message

  -- The reply to a message was written; or the other side closed. Or the connection is to be
  -- closed, and nothing was answered: no hold was made, or one that changed nothing. Or the reply
  -- was not written whole
  pub data Exchanges (old new : Moment D disk) : Result Exchanged ServeError → Type 0 where
    answers : (message : Message) (response : Response) → IsAnswered old new message response →
        Sends old.state.written new.state.written (response_spelling response) →
        Exchanges old new (Ok Answered)
    ends : Ends old.state new.state → IsSilent old.state new.state → new.pass ≡ old.pass →
        Exchanges old new (Ok Ended)
    closes : (error : ServeError) → ClosesFor error old.state new.state →
        IsSilent old.state new.state → new.pass ≡ old.pass → Exchanges old new (Err error)
    declines : (message : Message) → IsDeclined old new message → IsSilent old.state new.state →
        Exchanges old new (Err BegunElsewhere)
    breaks : (message : Message) (response : Response) (error : ServeError) →
        IsAnswered old new message response →
        BreaksOff error old.state.written new.state.written (response_spelling response) →
        Exchanges old new (Err error)
