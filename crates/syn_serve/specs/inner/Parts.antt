-- The parts of an exchange.
use Rattle.std.specs.Prelude.{◌≡◌, ℕ, Option, Some, None}
use Rattle.syn_agent.specs.declared.agent.Agent.{Agent}
use Rattle.syn_disk.specs.declared.disk.Disk.{Ghosts}
use Rattle.syn_link.specs.declared.error.LinkError.{LinkError}
use Rattle.syn_link.specs.declared.error.LinkError.TheVariants as link
use Rattle.syn_machine.specs.Side.{Reply, Request}
use Rattle.syn_replica.specs.declared.replica.Replica.{Replica}
use Rattle.syn_serve.specs.Holds.{AnswersAlone, Declines}
use Rattle.syn_serve.specs.States.{ConnectionState, Receives}
use Rattle.syn_serve.specs.Messages.{IsLawfulMessage, Message, message_spelling}
use Rattle.syn_serve.specs.declared.error.ServeError.{ServeError}
use Rattle.syn_serve.specs.declared.error.ServeError.TheVariants.{BadFrame, Device, Memory}
use Rattle.syn_serve.specs.declared.error.ServeError.TheVariants.{TooLarge}

-- a message came so
pub record ReceivesMessage (old new : ConnectionState) (message : Message) : Type 0 where
  pub lawful : IsLawfulMessage message
  pub came : Receives old new (message_spelling message)

-- what a hold makes of a session's request: it answers, or declines
abbrev pub TakesUp : {D : Type 0} → {disk : Ghosts D} → Option ℕ → Agent → Agent → ℕ → Request
    → Option Reply → Replica D disk → Replica D disk → Type 0
TakesUp begun agent after session request (Some reply) found left =
    AnswersAlone begun agent after session request reply found left
TakesUp begun agent after session request None found left =
    Declines begun session request found left

-- all but what was written stays
abbrev pub IsOnlyWritten : ConnectionState → ConnectionState → Type 0
IsOnlyWritten old new =
    (new.given ≡ old.given) × (new.held ≡ old.held) × (new.agent ≡ old.agent)
    × (new.begun ≡ old.begun)

-- a frame's error
abbrev pub of_link : LinkError → ServeError
of_link link.BadFrame = BadFrame
of_link link.TooLarge = TooLarge
of_link link.Device = Device
of_link link.Memory = Memory
