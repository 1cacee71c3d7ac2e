use Rattle.syn_wire.proofs.EventLemmas.{remove_none}
use Rattle.syn_wire.proofs.Sequences.{failed}
use Rattle.syn_wire.proofs.reader.Reader.remove.Goals as goal

pub returns-in_err-user : goal.returns-in_err-user
returns-in_err-user c version =
    failed _ _ _ _ _ c.from_residual.result _ c.from_residual.ensures.1 (λ e same malformed.
    remove_none version c.args.self.now (c.in_err-user.ensures (rw (← same) malformed)))
