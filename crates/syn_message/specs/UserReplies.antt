-- How a reply to a user is spelled.
use Rattle.std.specs.Prelude.{◌≡◌, ◌≤◌, ◌<◌, ◌^◌, ℕ, [], ◌∷◌, length, Option, Some, None, Result}
use Rattle.std.specs.Option.{option_map}
use Rattle.std.specs.Int.{to_be_bytes, w64}
use Rattle.syn_history.specs.Status.{Status, identity_of, status_of}
use Rattle.syn_model.specs.Limits.{greatest_file}
use Rattle.syn_model.specs.Contents.{Contents, AreLawfulContents, contents_spelling}
use Rattle.syn_model.specs.Path.{Bytes}
use Rattle.syn_model.specs.Refusal.{Refusal, number}
use Rattle.syn_model.specs.Tree.{Content, Directory, File}
use Rattle.syn_message.specs.Bodies.{ReadsWhole, body_spelling}
use Rattle.syn_message.specs.Statuses.{IsStated, stated_spelling}
use Rattle.syn_message.specs.declared.kind.TheConstants.{EDITED, GOT, REFUSED, STATED}
use Rattle.syn_message.specs.declared.user_reply.UserReplyMessage.{UserReplyMessage as CodedMessage}
use Rattle.syn_message.specs.declared.user_reply.UserReply.{UserReply as Coded}
use Rattle.syn_message.specs.declared.user_reply.UserReply.TheVariants as has
use Rattle.syn_refusal.specs.Refusals.{cause_of}
use Rattle.syn_tree.specs.Contents.{content_of}
use Rattle.syn_wire.specs.declared.error.ReadError.{ReadError}

-- what a user is told
pub data UserReply : Type 0 where
  Edited : (position : ℕ) → UserReply
  Got : (found : Option Content) → UserReply
  States : (identity : Option Bytes) (status : Status) → UserReply
  Refused : (why : Refusal) → UserReply

abbrev pub user_reply_of : Coded → UserReply
user_reply_of (has.Edited position) = Edited position
user_reply_of (has.Got found) = Got (option_map content_of found)
user_reply_of (has.Status identity status) =
    States (option_map identity_of identity) (status_of status)
user_reply_of (has.Refused why) = Refused (cause_of why)

-- with the number of the request
pub record UserReplyMessage : Type 0 where
  pub number : ℕ
  pub reply : UserReply

abbrev pub user_reply_message_of : CodedMessage → UserReplyMessage
user_reply_message_of answered = record
    { number = answered.number; reply = user_reply_of answered.reply }

abbrev pub user_reply_kind : UserReply → ℕ
user_reply_kind (Edited position) = EDITED
user_reply_kind (Got found) = GOT
user_reply_kind (States identity status) = STATED
user_reply_kind (Refused why) = REFUSED

-- nothing, a file with its bytes, or a directory
abbrev pub found_spelling : Option Content → Bytes
found_spelling None = 0 ∷ []
found_spelling (Some (File contents)) = 1 ∷ contents_spelling contents
found_spelling (Some Directory) = 2 ∷ []

abbrev pub user_reply_fields : UserReply → Bytes
user_reply_fields (Edited position) = to_be_bytes w64 position
user_reply_fields (Got found) = found_spelling found
user_reply_fields (States identity status) = stated_spelling (identity, status)
user_reply_fields (Refused why) = number why ∷ []

abbrev pub user_reply_spelling : UserReplyMessage → Bytes
user_reply_spelling answered =
    body_spelling (user_reply_kind answered.reply) 0 answered.number
    (user_reply_fields answered.reply)

-- a file within the limit of each file
abbrev pub IsWithinFile : Contents → Type 0
IsWithinFile contents = (length contents.bytes ≤ greatest_file) × AreLawfulContents contents

abbrev pub IsFound : Option Content → Type 0
IsFound None = Unit {0}
IsFound (Some (File contents)) = IsWithinFile contents
IsFound (Some Directory) = Unit {0}

abbrev pub IsLawfulUserReply : UserReply → Type 0
IsLawfulUserReply (Edited position) = position < 2 ^ 64
IsLawfulUserReply (Got found) = IsFound found
IsLawfulUserReply (States identity status) = IsStated (identity, status)
IsLawfulUserReply (Refused why) = Unit {0}

pub record IsLawfulUserReplyMessage (answered : UserReplyMessage) : Type 0 where
  pub number : answered.number < 2 ^ 32
  pub lawful : IsLawfulUserReply answered.reply

-- the same of the fields of a kind
abbrev pub IsUserReplyOf : ℕ → UserReply → Type 0
IsUserReplyOf kind told = (user_reply_kind told ≡ kind) × IsLawfulUserReply told

abbrev pub ReadsUserReply : ℕ → Bytes → Result Coded ReadError → Type 0
ReadsUserReply kind = ReadsWhole (IsUserReplyOf kind) user_reply_fields user_reply_of
