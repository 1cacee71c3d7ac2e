use Rattle.std.proofs.Common.{option_map}
use Rattle.syn_history.specs.Events.{token_of}
use Rattle.syn_message.proofs.StatusLemmas.{last_token_tells}
use Rattle.syn_message.specs.inner.Stated.{IsAnyToken}
use Rattle.syn_model.specs.Image.{last_token_spelling}
use Rattle.syn_wire.specs.Events.{IsNumber64, number64_spelling}
use Rattle.syn_message.proofs.status_reading.read_token_and_place.Goals as goal
use Rattle.syn_wire.proofs.Sequences.{failed, first_none, second_none}

pub returns-in_err-token : goal.returns-in_err-token
returns-in_err-token c =
    failed _ _ _ _ _ c.from_residual.result _ c.from_residual.ensures.1
    (λ e same malformed. first_none IsAnyToken IsNumber64 last_token_spelling number64_spelling
    c.args.reader.now
    (c.in_err-token.ensures (rw (← same) malformed)))

pub returns-in_err-place : goal.returns-in_err-place
returns-in_err-place c =
    failed _ _ _ _ _ c.from_residual-in_err-place.result _ c.from_residual-in_err-place.ensures.1
    (λ e same malformed. second_none IsAnyToken IsNumber64 last_token_spelling number64_spelling
    last_token_tells
    c.args.reader.now c.read_last_token.new.reader (option_map token_of c.in_ok-token.token)
    c.in_ok-token.ensures (c.in_err-place.ensures.read (rw (← same) malformed)))
