use Rattle.syn_message.proofs.StatusLemmas.{touched_tells}
use Rattle.syn_message.specs.Statuses.{halted_spelling, touched_spelling}
use Rattle.syn_message.specs.inner.Stated.{IsAnyFlag, IsAnyPath}
use Rattle.syn_message.proofs.status_reading.read_touch_and_halted.Goals as goal
use Rattle.syn_wire.proofs.Sequences.{failed, first_none, second_none}

pub returns-in_err-touch : goal.returns-in_err-touch
returns-in_err-touch c =
    failed _ _ _ _ _ c.from_residual.result _ c.from_residual.ensures.1
    (λ e same malformed. first_none IsAnyPath IsAnyFlag touched_spelling halted_spelling
    c.args.reader.now
    (c.in_err-touch.ensures (rw (← same) malformed)))

pub returns-in_err-halted : goal.returns-in_err-halted
returns-in_err-halted c =
    failed _ _ _ _ _ c.from_residual-in_err-halted.result _ c.from_residual-in_err-halted.ensures.1
    (λ e same malformed. second_none IsAnyPath IsAnyFlag touched_spelling halted_spelling
    touched_tells
    c.args.reader.now c.read_touched.new.reader c.in_ok-touch.touch
    c.in_ok-touch.ensures (c.in_err-halted.ensures (rw (← same) malformed)))
