-- What is staged, as the model has it.
use Rattle.std.specs.Prelude.{◌≡◌, ◌⊎◌, ℕ, Some, length}
use Rattle.syn_agent.specs.declared.staging.Staging.{Staging}
use Rattle.syn_machine.specs.Side as model
use Rattle.syn_machine.specs.Side.{Side, Refused, answer, stage_more}
use Rattle.syn_history.specs.Events.{token_of}
use Rattle.syn_message.specs.Replies.{reply_of}
use Rattle.syn_message.specs.declared.reply.Reply.{Reply}
use Rattle.syn_model.specs.History.{History}
use Rattle.syn_model.specs.Path.{Bytes}
use Rattle.syn_model.specs.Refusal.{Memory}
use Rattle.syn_model.specs.Refusal as why

abbrev pub staged_of : Staging → model.Staging
staged_of staging = record { token = token_of staging.token; bytes = staging.bytes.items }

-- a side of the history, with this staged
abbrev pub side_with : History → model.Staging → Side
side_with history staging = record { history = history; staging = Some staging }

-- A piece is added as the definition of a side says; or nothing, out of memory, where it goes after
-- what is there
abbrev pub AddsAs : model.Staging → model.Staging → Reply → ℕ → Bytes → Type 0
AddsAs old new reply offset bytes =
    ((history : History) → stage_more (side_with history old) old.token old.bytes offset bytes
    ≡ answer (side_with history new) (reply_of reply))
    ⊎ ((reply_of reply ≡ Refused why.Memory) × (new ≡ old) × (offset ≡ length old.bytes))
