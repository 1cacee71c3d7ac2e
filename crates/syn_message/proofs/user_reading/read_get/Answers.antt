use Rattle.syn_model.specs.Path.{IsPath, path_spelling}
use Rattle.syn_message.proofs.UserRequestFieldsLemmas.{get_none}
use Rattle.syn_message.proofs.WholeLemmas.{failed_whole, no_end, no_value}
use Rattle.syn_message.proofs.user_reading.read_get.Goals as goal

pub returns-in_err-path : goal.returns-in_err-path
returns-in_err-path c =
    failed_whole _ _ _ _ c.from_residual.result _ c.from_residual.ensures.1
    (λ e same malformed. get_none c.args.reader.now
    (no_value IsPath path_spelling c.args.reader.now
    (c.in_err-path.ensures (rw (← same) malformed))))

pub returns-in_err-end : goal.returns-in_err-end
returns-in_err-end c =
    failed_whole _ _ _ _ c.from_residual-in_err-end.result _ c.from_residual-in_err-end.ensures.1
    (λ e same malformed. get_none c.args.reader.now
    (no_end IsPath path_spelling c.spelling_laws.ensures.path c.args.reader.now c.path.new.self
    c.in_ok-path.path c.in_ok-path.ensures c.in_err-end.ensures.more))
