use Rattle.std.proofs.Common.{◌∷◌, ap, ◌∙◌}
use Rattle.syn_message.proofs.RefusalLemmas.{no_refusal}
use Rattle.syn_message.proofs.reply_reading.read_refusal.Goals as goal

pub returns-in-None : goal.returns-in-None
returns-in-None c =
    λ malformed. no_refusal c.args.reader.now c.in_ok-number.number
    (c.in_ok-number.ensures.read ∙ ap (λ xs. c.in_ok-number.number ∷ xs) c.in_ok-end.ensures.ended)
    c.in-None.ensures.none
