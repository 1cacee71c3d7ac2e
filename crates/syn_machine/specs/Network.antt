-- Messages, each in the order in which it was sent. A delivery takes any of them, as often as the
-- steps say.
use Rattle.std.specs.Prelude.{ℕ, ◌≡◌, List, Contains}
pub use Rattle.syn_model.specs.Which.{Which, Left, Right, other, is_side}
use Rattle.syn_machine.specs.Side.{Request, Begin, ListAt, Fetch, Stage, Replace, Reply}

-- a request to a side, or the side's reply to it, with the session and number of the request
pub data Message : Type 0 where
  Asks : (to : Which) (session : ℕ) (number : ℕ) (request : Request) → Message
  Answers : (from : Which) (session : ℕ) (number : ℕ) (reply : Reply) → Message

abbrev pub Sent : Type 0
Sent = List Message

-- a side replied so to a request of a session
pub record WasAnswered (sent : Sent) (side : Which) (session : ℕ) (request : Request)
    (reply : Reply) : Type 0 where
  pub number : ℕ
  pub asked : Contains sent (Asks side session number request)
  pub answered : Contains sent (Answers side session number reply)

-- a request that is sent again is the same
abbrev pub NumbersTell : Sent → Type 0
NumbersTell sent = (side : Which) (session n : ℕ) (a b : Request) →
    Contains sent (Asks side session n a) → Contains sent (Asks side session n b) → a ≡ b

-- the two ask for the same thing
abbrev pub IsRepeat : Request → Request → Type 0
IsRepeat (Begin a) (Begin b) = Unit {0}
IsRepeat (ListAt p) (ListAt q) = p ≡ q
IsRepeat (Fetch p k m) (Fetch q l n) = (p ≡ q) × (m ≡ n)
IsRepeat (Stage i m a) (Stage j n b) = (i ≡ j) × (m ≡ n)
IsRepeat (Replace i p k a) (Replace j q l b) = i ≡ j
IsRepeat _ _ = ⊥

-- resends aside, nothing is asked twice of a side in one session
abbrev pub AsksNothingTwice : Sent → Type 0
AsksNothingTwice sent = (side : Which) (session m n : ℕ) (a b : Request) →
    Contains sent (Asks side session m a) → Contains sent (Asks side session n b) → IsRepeat a b →
    m ≡ n
