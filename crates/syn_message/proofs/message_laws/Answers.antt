use Rattle.syn_message.proofs.ReplyLemmas.{reply_tells}
use Rattle.syn_message.proofs.RequestLemmas.{request_tells}
use Rattle.syn_message.proofs.UserReplyLemmas.{user_reply_tells}
use Rattle.syn_message.proofs.UserRequestLemmas.{user_request_tells}
use Rattle.syn_message.proofs.message_laws.Goals as goal

pub returns-clause-requests : goal.returns-clause-requests
returns-clause-requests c =
    let laws = c.spelling_laws.ensures in request_tells laws.u32 laws.u64 laws.path laws.file

pub returns-clause-replies : goal.returns-clause-replies
returns-clause-replies c =
    let laws = c.spelling_laws.ensures in reply_tells laws.u16 laws.u32 laws.u64 laws.file

pub returns-clause-user_requests : goal.returns-clause-user_requests
returns-clause-user_requests c =
    let laws = c.spelling_laws.ensures in user_request_tells laws.u32 laws.u64 laws.path laws.event

pub returns-clause-user_replies : goal.returns-clause-user_replies
returns-clause-user_replies c =
    let laws = c.spelling_laws.ensures in user_reply_tells laws.u32 laws.u64
