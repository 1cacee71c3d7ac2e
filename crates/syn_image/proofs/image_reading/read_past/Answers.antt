use Rattle.syn_wire.proofs.Sequences.{failed, first_none, second_none}
use Rattle.std.proofs.Common.{option_map}
use Rattle.syn_history.specs.Events.{token_of}
use Rattle.syn_image.specs.Images.{AreTouches, touches_spelling}
use Rattle.syn_image.specs.inner.Pasts.{AreFences, fences_spelling}
use Rattle.syn_image.proofs.ImageLemmas.{fences_tell}
use Rattle.syn_image.proofs.image_reading.read_past.Goals as goal

pub returns-in_err-pair : goal.returns-in_err-pair
returns-in_err-pair c =
    failed _ _ _ _ _ c.from_residual.result _ c.from_residual.ensures.1
    (λ e same malformed. first_none AreFences AreTouches fences_spelling touches_spelling
    c.args.reader.now
    (c.in_err-pair.ensures (rw (← same) malformed)))

pub returns-in_err-touches : goal.returns-in_err-touches
returns-in_err-touches c =
    failed _ _ _ _ _ c.from_residual-in_err-touches.result _
    c.from_residual-in_err-touches.ensures.1
    (λ e same malformed. second_none AreFences AreTouches fences_spelling touches_spelling
    fences_tell
    c.args.reader.now c.read_fences.new.reader (
      ((c.in_ok-pair.pair, c.in_ok-pair.position), (c.in_ok-pair.floor, c.in_ok-pair.session)),
      option_map token_of c.in_ok-pair.token,
    )
    c.in_ok-pair.ensures (c.in_err-touches.ensures (rw (← same) malformed)))
