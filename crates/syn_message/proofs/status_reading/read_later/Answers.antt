use Rattle.std.proofs.Common.{option_map}
use Rattle.syn_history.specs.Events.{token_of}
use Rattle.syn_message.proofs.StatusLemmas.{token_and_place_tell}
use Rattle.syn_message.specs.inner.Stated.{AreTokenAndPlace, AreTouchAndHalted, token_and_place}
use Rattle.syn_message.specs.inner.Stated.{touch_and_halted}
use Rattle.syn_message.proofs.status_reading.read_later.Goals as goal
use Rattle.syn_wire.proofs.Sequences.{failed, first_none, second_none}

pub returns-in_err-first : goal.returns-in_err-first
returns-in_err-first c =
    failed _ _ _ _ _ c.from_residual.result _ c.from_residual.ensures.1
    (λ e same malformed. first_none AreTokenAndPlace AreTouchAndHalted token_and_place
    touch_and_halted c.args.reader.now
    (c.in_err-first.ensures (rw (← same) malformed)))

pub returns-in_err-second : goal.returns-in_err-second
returns-in_err-second c =
    failed _ _ _ _ _ c.from_residual-in_err-second.result _ c.from_residual-in_err-second.ensures.1
    (λ e same malformed. second_none AreTokenAndPlace AreTouchAndHalted token_and_place
    touch_and_halted token_and_place_tell
    c.args.reader.now c.read_token_and_place.new.reader (
      option_map token_of c.in_ok-first.first.0,
      c.in_ok-first.first.1,
    )
    c.in_ok-first.ensures (c.in_err-second.ensures (rw (← same) malformed)))
