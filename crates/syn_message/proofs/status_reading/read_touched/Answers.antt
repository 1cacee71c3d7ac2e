use Rattle.std.proofs.Common.{◌∷◌, ◌∙◌, ap}
use Rattle.syn_message.proofs.StatusLemmas.{no_path_after}
use Rattle.syn_message.proofs.status_reading.read_touched.Goals as goal
use Rattle.syn_wire.proofs.Sequences.{failed}

pub returns-in_err-path-in-1 : goal.returns-in_err-path-in-1
returns-in_err-path-in-1 c =
    failed _ _ _ _ _ c.from_residual-in_err-path-in-1.result _
    c.from_residual-in_err-path-in-1.ensures.1
    (λ e same malformed. no_path_after c.args.reader.now c.byte.new.self
    (c.in_ok-byte.ensures.read ∙ ap (λ k. k ∷ c.byte.new.self) c.in-1.is)
    (c.in_err-path-in-1.ensures (rw (← same) malformed)))
