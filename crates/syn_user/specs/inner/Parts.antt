-- The parts of an exchange.
use Rattle.std.specs.Prelude.{◌≡◌, ◌≢◌, ◌≤◌, ◌-◌, ℕ, Bool, true, false, IfSome, List, min, Option}
use Rattle.syn_link.specs.Connections.{writer_of}
use Rattle.syn_link.specs.declared.error.LinkError.{LinkError}
use Rattle.syn_link.specs.declared.error.LinkError.TheVariants as link
use Rattle.syn_message.specs.UserReplies.{UserReplyMessage, UserReply}
use Rattle.syn_message.specs.Users.{UserRequestMessage}
use Rattle.syn_model.specs.Limits.{greatest_piece, greatest_spelling}
use Rattle.syn_model.specs.Spelling.{spelling}
use Rattle.syn_model.specs.Tree.{Tree}
use Rattle.syn_model.specs.Version.{current_version}
use Rattle.syn_refusal.specs.declared.refusal.Refusal.TheVariants.{Full}
use Rattle.syn_user.specs.Exchanges.{Answers, BreaksOff, IsHeard, IsSent, IsTooLong, IsUnheard}
use Rattle.syn_user.specs.States.{IsUnread, ConnectionState}
use Rattle.syn_user.specs.declared.error.UserError.{UserError}
use Rattle.syn_user.specs.declared.error.UserError.TheVariants.{BadFrame, BadMessage, Device}
use Rattle.syn_user.specs.declared.error.UserError.TheVariants.{Memory, Refused, TooLarge}
use Rattle.syn_user.specs.declared.side.SideConnection.{SideConnection}
use Rattle.syn_wire.specs.Trees.{IsWholeTreeIn}

-- a frame's error
abbrev pub of_link : LinkError → UserError
of_link link.BadFrame = BadFrame
of_link link.TooLarge = TooLarge
of_link link.Device = Device
of_link link.Memory = Memory

-- the replica refused
abbrev pub is_refusal : UserError → Bool
is_refusal (Refused why) = true
is_refusal Device = false
is_refusal Memory = false
is_refusal BadFrame = false
is_refusal TooLarge = false
is_refusal BadMessage = false

-- why a request has no body: it is longer than a frame takes, or memory is wanting
pub data HasNoBody (asked : UserRequestMessage) : UserError → Type 0 where
  too_long : IsTooLong asked → HasNoBody asked (Refused Full)
  wanting : HasNoBody asked Memory

-- a reply to the request
pub record IsReplyTo (asked : UserRequestMessage) (answered : UserReplyMessage)
    (what : UserReply) : Type 0 where
  pub is : answered ≡ record { number = asked.number; reply = what }
  pub answers : Answers asked.request what

-- another message
abbrev pub IsForeign : UserRequestMessage → UserReplyMessage → Type 0
IsForeign asked answered = (what : UserReply) → ¬ IsReplyTo asked answered what

-- nothing was written, and neither the number nor whether the connection goes on changed
abbrev pub IsSilent : ConnectionState → ConnectionState → Type 0
IsSilent old new =
    (new.written ≡ old.written) × (new.goes ≡ old.goes) × (new.next ≡ old.next)

module _ (old new : ConnectionState) (asked : UserRequestMessage) where
  -- the request was sent, and a reply to it came
  pub record IsAnswered (what : UserReply) : Type 0 where
    pub sent : IsSent old new asked
    pub heard : IsHeard old new asked what

  -- it was too long, or not written whole, or no reply to it was read
  pub data Breaks : UserError → Type 0 where
    too_long : IsTooLong asked → new ≡ old → Breaks (Refused Full)
    unsent : (error : UserError) → BreaksOff old new asked error → IsUnread old new →
        Breaks error
    unheard : (error : UserError) → IsSent old new asked → IsUnheard old new asked error →
        Breaks error

-- what a side's requests are written to
abbrev pub side_writer : {R W : Type 0} → SideConnection R W → W
side_writer side = writer_of side.connection

-- so many bytes are as many as a piece can have from the offset on, of so many as a tree may have
abbrev pub IsFull : ℕ → ℕ → ℕ → Type 0
IsFull offset total count = (offset ≤ total) × (total ≤ greatest_spelling)
    × (count ≡ min greatest_piece (total - offset))

-- and the piece tells as many in all as the first one did
abbrev pub IsNext : Option ℕ → ℕ → ℕ → ℕ → Type 0
IsNext told offset total count = IfSome told (λ first. total ≡ first) × IsFull offset total count

-- no tree of a replica is spelled so
abbrev pub SpellNoTree : List ℕ → Type 0
SpellNoTree bytes = (tree : Tree) → IsWholeTreeIn current_version tree → spelling tree ≢ bytes
