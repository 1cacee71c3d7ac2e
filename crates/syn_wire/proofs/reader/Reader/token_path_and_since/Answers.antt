use Rattle.syn_history.specs.Events.{token_of}
use Rattle.syn_wire.specs.Events.{IsNumber64, number64_spelling}
use Rattle.syn_wire.proofs.EventLemmas.{IsItem, item_spelling, item_tells}
use Rattle.syn_wire.proofs.Sequences.{failed, first_none, second_none}
use Rattle.syn_wire.proofs.reader.Reader.token_path_and_since.Goals as goal

pub returns-in_err-token : goal.returns-in_err-token
returns-in_err-token c =
    failed _ _ _ _ _ c.from_residual.result _ c.from_residual.ensures.1 (λ e same malformed.
    (first_none IsItem IsNumber64 item_spelling number64_spelling c.args.self.now
    (c.in_err-token.ensures (rw (← same) malformed))))

pub returns-in_err-since : goal.returns-in_err-since
returns-in_err-since c =
    failed _ _ _ _ _ c.from_residual-in_err-since.result _ c.from_residual-in_err-since.ensures.1 (λ
    e same malformed.
    (second_none IsItem IsNumber64 item_spelling number64_spelling item_tells c.args.self.now
    c.token_and_path.new.self (token_of c.in_ok-token.token, c.in_ok-token.path)
    c.in_ok-token.ensures
    (c.in_err-since.ensures.read (rw (← same) malformed))))
