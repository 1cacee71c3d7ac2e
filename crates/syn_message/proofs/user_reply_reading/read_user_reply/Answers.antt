use Rattle.std.proofs.Common.{refl}
use Rattle.syn_message.proofs.HeadLemmas.{no_head}
use Rattle.syn_message.proofs.WholeLemmas.{failed_whole}
use Rattle.syn_message.proofs.user_reply_reading.read_user_reply.Goals as goal
use Rattle.syn_message.specs.UserReplies.{IsLawfulUserReplyMessage, user_reply_fields}
use Rattle.syn_message.specs.UserReplies.{user_reply_kind}
use Rattle.syn_message.specs.inner.Heads.{IsUserHead}

pub returns-in_err-number : goal.returns-in_err-number
returns-in_err-number c =
    failed_whole IsLawfulUserReplyMessage _ _ _ c.from_residual-in_err-number.result _
    c.from_residual-in_err-number.ensures.1 (λ e same malformed answered lawful.
    no_head IsUserHead c.args.reader.now c.byte.new.self c.in_ok-kind.kind c.in_ok-kind.ensures.read
    (c.in_err-number.ensures (rw (← same) malformed))
    (user_reply_kind answered.reply) 0 answered.number
    (user_reply_fields answered.reply)
    (record { none = refl; number = lawful.number }))
