use Rattle.syn_wire.specs.Events.{IsFile, file_spelling}
use Rattle.syn_wire.proofs.EventLemmas.{IsPlace, place_spelling, place_tells, put_none}
use Rattle.syn_wire.proofs.Sequences.{failed, first_none, second_none}
use Rattle.syn_wire.proofs.reader.Reader.put.Goals as goal

pub returns-in_err-user : goal.returns-in_err-user
returns-in_err-user c version =
    failed _ _ _ _ _ c.from_residual.result _ c.from_residual.ensures.1 (λ e same malformed.
    put_none version c.args.self.now (first_none IsPlace IsFile place_spelling file_spelling
    c.args.self.now
    (c.in_err-user.ensures (rw (← same) malformed))))

pub returns-in_err-bytes : goal.returns-in_err-bytes
returns-in_err-bytes c version =
    failed _ _ _ _ _ c.from_residual-in_err-bytes.result _ c.from_residual-in_err-bytes.ensures.1 (λ
    e same malformed.
    put_none version c.args.self.now (second_none IsPlace IsFile place_spelling file_spelling
    place_tells c.args.self.now
    c.user_and_path.new.self (c.in_ok-user.user, c.in_ok-user.path) c.in_ok-user.ensures
    (c.in_err-bytes.ensures.read (rw (← same) malformed))))
