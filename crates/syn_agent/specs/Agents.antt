-- What an agent keeps, and how it stages.
use Rattle.std.specs.Prelude.{◌≡◌, ◌⊎◌, ℕ, Option}
use Rattle.std.specs.Option.{option_map}
use Rattle.syn_agent.specs.Stagings.{staged_of}
use Rattle.syn_agent.specs.declared.agent.Agent.{Agent}
use Rattle.syn_machine.specs.Side as model
use Rattle.syn_machine.specs.Side.{GoesAfter, Side, Refused, answer, stage, stage_first}
use Rattle.syn_message.specs.Replies.{reply_of}
use Rattle.syn_message.specs.declared.reply.Reply.{Reply}
use Rattle.syn_model.specs.Event.{Token}
use Rattle.syn_model.specs.History.{History}
use Rattle.syn_model.specs.Path.{Bytes}
use Rattle.syn_model.specs.Refusal as why

abbrev pub staging_of : Agent → Option model.Staging
staging_of agent = option_map staged_of agent.staging

-- the side of the history that has what the agent keeps
abbrev pub side_of : History → Agent → Side
side_of history agent = record { history = history; staging = staging_of agent }

-- a first piece is staged as the definition of a side says
abbrev pub StagesFirst : Agent → Agent → Reply → Token → ℕ → Bytes → Type 0
StagesFirst old new reply token offset bytes = (history : History)
    → stage_first (side_of history old) token offset bytes
    ≡ answer (side_of history new) (reply_of reply)

-- A piece is staged so; or nothing, out of memory, where it goes after another of its token
abbrev pub StagesAs : Agent → Agent → Reply → Token → ℕ → Bytes → Type 0
StagesAs old new reply token offset bytes =
    ((history : History) → stage (side_of history old) (staging_of old) token offset bytes
    ≡ answer (side_of history new) (reply_of reply))
    ⊎ ((reply_of reply ≡ Refused why.Memory) × (staging_of new ≡ staging_of old)
    × GoesAfter (staging_of old) token offset)
