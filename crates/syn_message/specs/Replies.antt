-- How a reply of a side is spelled.
use Rattle.std.specs.Prelude.{◌≡◌, ◌≤◌, ◌<◌, ◌^◌, ℕ, [], ◌∷◌, ◌++◌, length, Result}
use Rattle.std.specs.Int.{to_be_bytes, w32, w64}
use Rattle.syn_machine.specs.Side as model
use Rattle.syn_model.specs.Limits.{greatest_piece}
use Rattle.syn_model.specs.Event.{AreBytes}
use Rattle.syn_model.specs.Path.{Bytes}
use Rattle.syn_model.specs.Refusal.{number}
use Rattle.syn_message.specs.Bodies.{ReadsWhole, body_spelling}
use Rattle.syn_message.specs.Listings.{IsListing, entries_of, entries_spelling}
use Rattle.syn_message.specs.declared.kind.TheConstants.{BEGUN, LISTED, NOT_DIR, PIECE, STAGED}
use Rattle.syn_message.specs.declared.kind.TheConstants.{DONE, REFUSED}
use Rattle.syn_message.specs.declared.reply.ReplyMessage.{ReplyMessage as Coded}
use Rattle.syn_message.specs.declared.reply.Reply.{Reply}
use Rattle.syn_message.specs.declared.reply.Reply.TheVariants as has
use Rattle.syn_refusal.specs.Refusals.{cause_of}
use Rattle.syn_wire.specs.Events.{file_spelling}
use Rattle.syn_wire.specs.declared.error.ReadError.{ReadError}

-- a reply as the model has it
abbrev pub reply_of : Reply → model.Reply
reply_of (has.Begun position) = model.Begun position
reply_of (has.Listed position entries) = model.Listed position (entries_of entries.items)
reply_of (has.NotDir position) = model.NotDir position
reply_of (has.Piece total bytes) = model.Piece total bytes.items
reply_of has.Staged = model.Staged
reply_of has.Done = model.Done
reply_of (has.Refused why) = model.Refused (cause_of why)

-- a reply with the session and the number of its request
pub record ReplyMessage : Type 0 where
  pub session : ℕ
  pub number : ℕ
  pub reply : model.Reply

abbrev pub reply_message_of : Coded → ReplyMessage
reply_message_of answered = record {
  session = answered.session;
  number = answered.number;
  reply = reply_of answered.reply;
}

abbrev pub reply_kind : model.Reply → ℕ
reply_kind (model.Begun position) = BEGUN
reply_kind (model.Listed position entries) = LISTED
reply_kind (model.NotDir position) = NOT_DIR
reply_kind (model.Piece total bytes) = PIECE
reply_kind model.Staged = STAGED
reply_kind model.Done = DONE
reply_kind (model.Refused why) = REFUSED

-- what stands after the number
abbrev pub reply_fields : model.Reply → Bytes
reply_fields (model.Begun position) = to_be_bytes w64 position
reply_fields (model.Listed position entries) = to_be_bytes w64 position ++ entries_spelling entries
reply_fields (model.NotDir position) = to_be_bytes w64 position
reply_fields (model.Piece total bytes) = to_be_bytes w32 total ++ file_spelling bytes
reply_fields model.Staged = []
reply_fields model.Done = []
reply_fields (model.Refused why) = number why ∷ []

abbrev pub reply_spelling : ReplyMessage → Bytes
reply_spelling answered = body_spelling (reply_kind answered.reply) answered.session
    answered.number (reply_fields answered.reply)

-- what is fetched at a time
abbrev pub IsFetchedBytes : Bytes → Type 0
IsFetchedBytes bytes = (length bytes ≤ greatest_piece) × AreBytes bytes

-- its numbers, bytes and entries are lawful
abbrev pub IsLawfulReply : model.Reply → Type 0
IsLawfulReply (model.Begun position) = position < 2 ^ 64
IsLawfulReply (model.Listed position entries) = (position < 2 ^ 64) × IsListing entries
IsLawfulReply (model.NotDir position) = position < 2 ^ 64
IsLawfulReply (model.Piece total bytes) = (total < 2 ^ 32) × IsFetchedBytes bytes
IsLawfulReply model.Staged = Unit {0}
IsLawfulReply model.Done = Unit {0}
IsLawfulReply (model.Refused why) = Unit {0}

-- Sessions count from 1: the reply to a user has the session 0.
pub record IsLawfulReplyMessage (answered : ReplyMessage) : Type 0 where
  pub session : answered.session < 2 ^ 64
  pub begun : 0 < answered.session
  pub number : answered.number < 2 ^ 32
  pub reply : IsLawfulReply answered.reply

-- the same of the fields of a kind
abbrev pub IsReplyOf : ℕ → model.Reply → Type 0
IsReplyOf kind reply = (reply_kind reply ≡ kind) × IsLawfulReply reply

abbrev pub ReadsReply : ℕ → Bytes → Result Reply ReadError → Type 0
ReadsReply kind = ReadsWhole (IsReplyOf kind) reply_fields reply_of
