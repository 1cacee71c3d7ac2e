-- What comes over a connection and what goes back: of a session, or of a user.
use Rattle.std.specs.Prelude.{ℕ}
use Rattle.syn_message.specs.Replies.{ReplyMessage, IsLawfulReplyMessage, reply_message_of}
use Rattle.syn_message.specs.Replies.{reply_spelling}
use Rattle.syn_message.specs.Requests.{RequestMessage, IsLawfulRequestMessage, request_message_of}
use Rattle.syn_message.specs.Requests.{request_spelling, kind_of}
use Rattle.syn_message.specs.UserReplies.{IsLawfulUserReplyMessage, UserReplyMessage}
use Rattle.syn_message.specs.UserReplies.{user_reply_message_of, user_reply_spelling}
use Rattle.syn_message.specs.Users.{IsLawfulUserRequestMessage, UserRequestMessage}
use Rattle.syn_message.specs.Users.{user_request_kind, user_request_message_of}
use Rattle.syn_message.specs.Users.{user_request_spelling}
use Rattle.syn_model.specs.Path.{Bytes}
use Rattle.syn_serve.specs.declared.message.AnyReply.{AnyReply}
use Rattle.syn_serve.specs.declared.message.AnyReply.TheVariants as reply
use Rattle.syn_serve.specs.declared.message.AnyRequest.{AnyRequest}
use Rattle.syn_serve.specs.declared.message.AnyRequest.TheVariants as request

-- a request of a session, or of a user
pub data Message : Type 0 where
  Asks : (asked : RequestMessage) → Message
  Wishes : (asked : UserRequestMessage) → Message

abbrev pub message_of : AnyRequest → Message
message_of (request.Session asked) = Asks (request_message_of asked)
message_of (request.User asked) = Wishes (user_request_message_of asked)

abbrev pub message_spelling : Message → Bytes
message_spelling (Asks asked) = request_spelling asked
message_spelling (Wishes asked) = user_request_spelling asked

abbrev pub IsLawfulMessage : Message → Type 0
IsLawfulMessage (Asks asked) = IsLawfulRequestMessage asked
IsLawfulMessage (Wishes asked) = IsLawfulUserRequestMessage asked

-- the first byte of its body
abbrev pub message_kind : Message → ℕ
message_kind (Asks asked) = kind_of asked.request
message_kind (Wishes asked) = user_request_kind asked.request

-- a reply to a session, or to a user
pub data Response : Type 0 where
  Answers : (answered : ReplyMessage) → Response
  Tells : (answered : UserReplyMessage) → Response

abbrev pub response_of : AnyReply → Response
response_of (reply.Session answered) = Answers (reply_message_of answered)
response_of (reply.User answered) = Tells (user_reply_message_of answered)

abbrev pub response_spelling : Response → Bytes
response_spelling (Answers answered) = reply_spelling answered
response_spelling (Tells answered) = user_reply_spelling answered

abbrev pub IsLawfulResponse : Response → Type 0
IsLawfulResponse (Answers answered) = IsLawfulReplyMessage answered
IsLawfulResponse (Tells answered) = IsLawfulUserReplyMessage answered
