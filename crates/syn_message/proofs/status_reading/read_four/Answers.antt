use Rattle.syn_message.proofs.StatusLemmas.{two_tell}
use Rattle.syn_message.specs.inner.Stated.{AreTwo, two_spelling}
use Rattle.syn_message.proofs.status_reading.read_four.Goals as goal
use Rattle.syn_wire.proofs.Sequences.{failed, first_none, second_none}

pub returns-in_err-first : goal.returns-in_err-first
returns-in_err-first c =
    failed _ _ _ _ _ c.from_residual.result _ c.from_residual.ensures.1
    (λ e same malformed. first_none AreTwo AreTwo two_spelling two_spelling c.args.reader.now
    (c.in_err-first.ensures (rw (← same) malformed)))

pub returns-in_err-second : goal.returns-in_err-second
returns-in_err-second c =
    failed _ _ _ _ _ c.from_residual-in_err-second.result _ c.from_residual-in_err-second.ensures.1
    (λ e same malformed. second_none AreTwo AreTwo two_spelling two_spelling two_tell
    c.args.reader.now c.read_two.new.reader c.in_ok-first.first
    c.in_ok-first.ensures (c.in_err-second.ensures (rw (← same) malformed)))
