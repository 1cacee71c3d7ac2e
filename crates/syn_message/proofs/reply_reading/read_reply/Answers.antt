use Rattle.syn_message.proofs.HeadLemmas.{no_head}
use Rattle.syn_message.proofs.WholeLemmas.{failed_whole}
use Rattle.syn_message.proofs.reply_reading.read_reply.Goals as goal
use Rattle.syn_message.specs.Replies.{IsLawfulReplyMessage, reply_fields, reply_kind}
use Rattle.syn_message.specs.inner.Heads.{IsHead}

pub returns-in_err-session : goal.returns-in_err-session
returns-in_err-session c =
    failed_whole IsLawfulReplyMessage _ _ _ c.from_residual-in_err-session.result _
    c.from_residual-in_err-session.ensures.1 (λ e same malformed answered lawful.
    no_head IsHead c.args.reader.now c.byte.new.self c.in_ok-kind.kind c.in_ok-kind.ensures.read
    (c.in_err-session.ensures (rw (← same) malformed)) (reply_kind answered.reply)
    answered.session
    answered.number (reply_fields answered.reply)
    (record { session = lawful.session; begun = lawful.begun; number = lawful.number }))
