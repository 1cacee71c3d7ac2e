use Rattle.syn_wire.proofs.Sequences.{failed}
use Rattle.syn_image.proofs.ImageLemmas.{no_count, no_touches}
use Rattle.syn_image.proofs.image_reading.read_touches.Goals as goal

pub returns-in_err-count : goal.returns-in_err-count
returns-in_err-count c =
    failed _ _ _ _ _ c.from_residual.result _ c.from_residual.ensures.1
    (λ e same malformed. no_count c.args.reader.now (c.in_err-count.ensures.read (rw (← same)
    malformed)))

pub returns-in_err-touches : goal.returns-in_err-touches
returns-in_err-touches c =
    failed _ _ _ _ _ c.from_residual-in_err-touches.result _
    c.from_residual-in_err-touches.ensures.1
    (λ e same malformed. no_touches c.args.reader.now c.u16.new.self c.in_ok-count.count
    c.in_ok-count.ensures.read (c.in_err-touches.ensures (rw (← same) malformed)))
