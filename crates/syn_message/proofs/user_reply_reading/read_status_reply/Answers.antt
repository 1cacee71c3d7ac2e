use Rattle.syn_message.proofs.StatusLemmas.{stated_none}
use Rattle.syn_message.proofs.WholeLemmas.{failed_whole}
use Rattle.syn_message.proofs.user_reply_reading.read_status_reply.Goals as goal

pub returns-in_err-identity : goal.returns-in_err-identity
returns-in_err-identity c =
    failed_whole _ _ _ _ c.from_residual.result _ c.from_residual.ensures.1
    (λ e same malformed. stated_none c.args.reader.now
    (c.in_err-identity.ensures (rw (← same) malformed)))
