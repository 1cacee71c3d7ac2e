use Rattle.syn_wire.proofs.PartsLemmas.{no_child, a_child, bad_child}
use Rattle.syn_wire.proofs.Sequences.{failed}
use Rattle.syn_wire.proofs.part_reading.read_child.Goals as goal

pub returns-in_err-name : goal.returns-in_err-name
returns-in_err-name c =
    failed _ _ _ _ _ c.from_residual.result _ c.from_residual.ensures.1
    (λ e same malformed. no_child c.args.above.now c.args.reader.now
    (c.in_err-name.ensures (rw (← same) malformed)))

pub returns-in_err-child : goal.returns-in_err-child
returns-in_err-child c =
    failed _ _ _ _ _ c.from_residual-in_err-child.result _ c.from_residual-in_err-child.ensures.1
    (λ e bad malformed. bad_child c.args.above.now c.args.reader.now c.name.new.self
    c.in_ok-name.name c.in_ok-name.ensures (c.in_err-child.ensures.bad (bad malformed)))

pub returns : goal.returns
returns c =
    a_child c.args.above.now c.in_ok-child.field-0 c.args.reader.now c.name.new.self
    c.in_ok-name.name c.in_ok-name.ensures c.in_ok-child.ensures.ok.0 c.in_ok-child.ensures.ok.1
