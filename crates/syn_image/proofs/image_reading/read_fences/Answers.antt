use Rattle.syn_wire.proofs.Sequences.{failed, first_none, second_none}
use Rattle.syn_model.specs.Image.{last_token_spelling}
use Rattle.syn_image.specs.Images.{IsLastToken}
use Rattle.syn_image.specs.inner.Pasts.{AreFour, four_spelling}
use Rattle.syn_image.proofs.ImageLemmas.{four_tell}
use Rattle.syn_image.proofs.image_reading.read_fences.Goals as goal

pub returns-in_err-first : goal.returns-in_err-first
returns-in_err-first c =
    failed _ _ _ _ _ c.from_residual.result _ c.from_residual.ensures.1
    (λ e same malformed. first_none AreFour IsLastToken four_spelling last_token_spelling
    c.args.reader.now
    (c.in_err-first.ensures (rw (← same) malformed)))

pub returns-in_err-token : goal.returns-in_err-token
returns-in_err-token c =
    failed _ _ _ _ _ c.from_residual-in_err-token.result _ c.from_residual-in_err-token.ensures.1
    (λ e same malformed. second_none AreFour IsLastToken four_spelling last_token_spelling four_tell
    c.args.reader.now c.read_four.new.reader (c.in_ok-first.first, c.in_ok-first.second)
    c.in_ok-first.ensures (c.in_err-token.ensures (rw (← same) malformed)))
