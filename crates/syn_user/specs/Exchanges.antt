-- One request of a user and its reply.
use Rattle.std.specs.Prelude.{◌≡◌, ◌≢◌, ◌⊎◌, ◌+◌, ◌<◌, ◌%◌, ◌^◌, ℕ, Bool, true, false, length}
use Rattle.std.specs.Prelude.{Result, Ok, Err}
use Rattle.std.specs.Io.KnownBytes.{Appends}
use Rattle.syn_link.specs.Frames.{AppendsSome, Bytes, IsBody, frame_of}
use Rattle.syn_link.specs.Streams.{ComesAtFault, EndsBefore}
use Rattle.syn_link.specs.declared.error.LinkError.TheVariants as link
use Rattle.syn_link.specs.declared.frames.TheConstants.{LONGEST_BODY}
use Rattle.syn_message.specs.UserReplies as told
use Rattle.syn_message.specs.UserReplies.{IsLawfulUserReply, UserReply, user_reply_spelling}
use Rattle.syn_message.specs.Users.{AsksStatus, Edits, Gets, IsLawfulUserRequestMessage}
use Rattle.syn_message.specs.Users.{UserRequest}
use Rattle.syn_message.specs.Users.{UserRequestMessage, user_request_spelling}
use Rattle.syn_refusal.specs.Refusals.{cause_of}
use Rattle.syn_refusal.specs.declared.refusal.Refusal.{Refusal}
use Rattle.syn_refusal.specs.declared.refusal.Refusal.TheVariants.{Full}
use Rattle.syn_user.specs.States.{IsUnread, ConnectionState, Receives}
use Rattle.syn_user.specs.declared.error.UserError.{UserError}
use Rattle.syn_user.specs.declared.error.UserError.TheVariants.{BadFrame, BadMessage, Device}
use Rattle.syn_user.specs.declared.error.UserError.TheVariants.{Memory, Refused, TooLarge}

-- after the greatest number comes 0 again
abbrev pub number_after : ℕ → ℕ
number_after number = (number + 1) % 2 ^ 32

-- an edit is made or refused, and a question is answered by what was found, or by where the
-- replica is, or it is refused
abbrev pub Answers : UserRequest → UserReply → Type 0
Answers (Edits user edit) (told.Edited position) = Unit {0}
Answers (Edits user edit) (told.Got found) = ⊥
Answers (Edits user edit) (told.States identity status) = ⊥
Answers (Edits user edit) (told.Refused why) = Unit {0}
Answers (Gets path) (told.Edited position) = ⊥
Answers (Gets path) (told.Got found) = Unit {0}
Answers (Gets path) (told.States identity status) = ⊥
Answers (Gets path) (told.Refused why) = Unit {0}
Answers (AsksStatus place) (told.Edited position) = ⊥
Answers (AsksStatus place) (told.Got found) = ⊥
Answers (AsksStatus place) (told.States identity status) = Unit {0}
Answers (AsksStatus place) (told.Refused why) = Unit {0}

module _ (asked : UserRequestMessage) where
  -- its body has more bytes than a frame takes
  abbrev pub IsTooLong : Type 0
  IsTooLong = LONGEST_BODY < length (user_request_spelling asked)

  -- the body of a reply to it
  abbrev pub reply_body : UserReply → Bytes
  reply_body what = user_reply_spelling (record { number = asked.number; reply = what })

  -- no reply to it has this body
  abbrev pub IsNoReply : Bytes → Type 0
  IsNoReply body = (what : UserReply) → Answers asked.request what → IsLawfulUserReply what
      → body ≢ reply_body what

module _ (old new : ConnectionState) (asked : UserRequestMessage) where
  -- it was written as a frame, whole, and the next number follows
  pub record IsSent : Type 0 where
    pub lawful : IsLawfulUserRequestMessage asked
    pub written : Appends old.written new.written (frame_of (user_request_spelling asked))
    pub next : new.next ≡ number_after asked.number

  -- the first frame that came is a reply to it, which tells this
  pub record IsHeard (what : UserReply) : Type 0 where
    pub answers : Answers asked.request what
    pub lawful : IsLawfulUserReply what
    pub came : Receives old new (reply_body asked what)

  -- why it was not written whole: a write failed after a beginning, or memory was wanting before
  abbrev pub BreaksOff : UserError → Type 0
  BreaksOff (Refused why) = ⊥
  BreaksOff Device = IsBody (user_request_spelling asked)
      × AppendsSome old.written new.written (frame_of (user_request_spelling asked))
  BreaksOff Memory = new.written ≡ old.written
  BreaksOff BadFrame = ⊥
  BreaksOff TooLarge = ⊥
  BreaksOff BadMessage = ⊥

  -- Why no reply to it was read: for a read that failed, or the end of the reader; for memory, also
  -- where a body came; for the frame; or for a body that is no reply to it
  abbrev pub IsUnheard : UserError → Type 0
  IsUnheard (Refused why) = ⊥
  IsUnheard Device = ComesAtFault old.given new.given old.held new.held link.Device
      ⊎ EndsBefore old.given new.given old.held new.held
  IsUnheard Memory = ComesAtFault old.given new.given old.held new.held link.Memory
      ⊎ ((body : Bytes) × Receives old new body)
  IsUnheard BadFrame = ComesAtFault old.given new.given old.held new.held link.BadFrame
  IsUnheard TooLarge = ComesAtFault old.given new.given old.held new.held link.TooLarge
  IsUnheard BadMessage = (body : Bytes) × Receives old new body × IsNoReply asked body

-- the request with the number that is next
abbrev pub request_at : ConnectionState → UserRequest → UserRequestMessage
request_at state request = record { number = state.next; request = request }

module _ (old new : ConnectionState) (request : UserRequest) where
  -- the request was sent, and the first reply tells this
  pub record IsTold (what : UserReply) : Type 0 where
    pub went : old.goes ≡ true
    pub sent : IsSent old new (request_at old request)
    pub heard : IsHeard old new (request_at old request) what
    pub goes : new.goes ≡ true

  -- The replica refused it; or it was too long to be sent, and the connection stays as it was. Or
  -- the connection was closed before; or it comes to be, since the request was not written whole,
  -- or was, and no reply to it was read
  pub data Fails : UserError → Type 0 where
    refused : (why : Refusal) → IsTold (told.Refused (cause_of why)) → Fails (Refused why)
    too_long : old.goes ≡ true → IsTooLong (request_at old request) → new ≡ old →
        Fails (Refused Full)
    closed : old.goes ≡ false → new ≡ old → Fails Device
    unsent : (error : UserError) → old.goes ≡ true →
        BreaksOff old new (request_at old request) error → IsUnread old new →
        new.goes ≡ false → Fails error
    unheard : (error : UserError) → old.goes ≡ true → IsSent old new (request_at old request) →
        IsUnheard old new (request_at old request) error → new.goes ≡ false → Fails error

-- a connection goes on after an answer and after a refusal of the replica
abbrev pub goes_on_after : {A : Type 0} → Result A UserError → Bool
goes_on_after (Ok value) = true
goes_on_after (Err (Refused why)) = true
goes_on_after (Err Device) = false
goes_on_after (Err Memory) = false
goes_on_after (Err BadFrame) = false
goes_on_after (Err TooLarge) = false
goes_on_after (Err BadMessage) = false
