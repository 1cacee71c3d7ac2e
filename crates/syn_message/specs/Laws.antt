-- The body of a message tells it.
use Rattle.std.specs.Prelude.{◌≡◌}
use Rattle.syn_model.specs.Path.{Bytes}
use Rattle.syn_message.specs.Requests.{IsLawfulRequestMessage, request_spelling}
use Rattle.syn_message.specs.Replies.{IsLawfulReplyMessage, reply_spelling}
use Rattle.syn_message.specs.Users.{IsLawfulUserRequestMessage, user_request_spelling}
use Rattle.syn_message.specs.UserReplies.{IsLawfulUserReplyMessage, user_reply_spelling}

-- no two lawful values have one spelling
abbrev pub EachTellsItself : {V : Type 0} → (V → Type 0) → (V → Bytes) → Type 0
EachTellsItself {V} IsLawful spelling = (v w : V) → IsLawful v → IsLawful w
    → spelling v ≡ spelling w → v ≡ w

abbrev pub RequestsTell : Type 0
RequestsTell = EachTellsItself IsLawfulRequestMessage request_spelling

abbrev pub RepliesTell : Type 0
RepliesTell = EachTellsItself IsLawfulReplyMessage reply_spelling

abbrev pub UserRequestsTell : Type 0
UserRequestsTell = EachTellsItself IsLawfulUserRequestMessage user_request_spelling

abbrev pub UserRepliesTell : Type 0
UserRepliesTell = EachTellsItself IsLawfulUserReplyMessage user_reply_spelling
