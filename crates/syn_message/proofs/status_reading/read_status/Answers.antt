use Rattle.syn_message.proofs.StatusLemmas.{four_tell, no_status, status_found}
use Rattle.syn_message.proofs.status_reading.read_status.Goals as goal
use Rattle.syn_message.specs.inner.Stated.{AreFour, AreLater, four_spelling, later_spelling}
use Rattle.syn_wire.proofs.Sequences.{failed, first_none, second_none}

pub returns-in_err-pair : goal.returns-in_err-pair
returns-in_err-pair c =
    failed _ _ _ _ _ c.from_residual.result _ c.from_residual.ensures.1
    (λ e same malformed. no_status c.args.reader.now
    (first_none AreFour AreLater four_spelling later_spelling c.args.reader.now
    (c.in_err-pair.ensures (rw (← same) malformed))))

pub returns-in_err-token : goal.returns-in_err-token
returns-in_err-token c =
    failed _ _ _ _ _ c.from_residual-in_err-token.result _ c.from_residual-in_err-token.ensures.1
    (λ e same malformed. no_status c.args.reader.now
    (second_none AreFour AreLater four_spelling later_spelling four_tell c.args.reader.now
    c.read_four.new.reader
    ((c.in_ok-pair.pair, c.in_ok-pair.position), (c.in_ok-pair.floor, c.in_ok-pair.session))
    c.in_ok-pair.ensures (c.in_err-token.ensures (rw (← same) malformed))))

pub returns : goal.returns
returns c =
    status_found c.args.reader.now c.read_four.new.reader c.read_later.new.reader _
    c.in_ok-pair.ensures c.in_ok-token.ensures
