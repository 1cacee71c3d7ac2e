-- What a transfer asks for next, and what it answers.
use Rattle.std.specs.Prelude.{◌≡◌, ◌⊎◌, ◌++◌, ℕ, false, [], ◌∷◌, Option, None, Some, IsSome, Result}
use Rattle.std.specs.Prelude.{Ok, Err}
use Rattle.syn_machine.specs.Network.{Which}
use Rattle.syn_machine.specs.Coordinator.{is_last}
use Rattle.syn_machine.specs.Side.{Request, Fetch, Stage, Replace, IsLawfulBody}
use Rattle.syn_machine.specs.Side as model
use Rattle.syn_message.specs.Requests.{request_of}
use Rattle.syn_path.specs.Sides.{which_of}
use Rattle.syn_message.specs.declared.reply.Reply.{Reply}
use Rattle.syn_message.specs.declared.reply.Reply.TheVariants as has
use Rattle.syn_propagate.specs.Carrying.{Exchanges, IsNew, MayAsk, WasCarried, source_of, target_of}
use Rattle.syn_propagate.specs.declared.transfer_spec.TransferSpec.{TransferSpec}
use Rattle.syn_propagate.specs.declared.error.TransferError.{TransferError}
use Rattle.syn_propagate.specs.declared.error.TransferError.TheVariants.{BadMessage}
use Rattle.syn_propagate.specs.declared.next.Next.{Next}
use Rattle.syn_propagate.specs.declared.next.Next.TheVariants.{Ask, Done, Refused}
use Rattle.syn_propagate.specs.declared.transfer.Transfer.{Transfer}
pub use Rattle.syn_propagate.specs.inner.TransferStates.{IsOver, IsReady, IsWaiting, WaitsFor}
pub use Rattle.syn_propagate.specs.inner.TransferStates.{spec_of}
use Rattle.syn_refusal.specs.Refusals.{cause_of}

-- it asks for what may be asked, for the first time, and waits for the answer
pub record Asks (transfer : Transfer) (taken : Exchanges) (to : Which) (request : Request)
    : Type 0 where
  pub may : MayAsk (spec_of transfer) taken to request
  pub new : IsNew taken request
  pub lawful : IsLawfulBody request
  pub waits : WaitsFor transfer taken to request

-- what follows the answer to what it asked last
abbrev pub Follows : Transfer → Exchanges → model.Reply → Next → Type 0
Follows transfer taken reply (Ask asked) =
    Asks transfer taken (which_of asked.to) (request_of asked.request)
Follows transfer taken reply Done = WasCarried (spec_of transfer) taken
Follows transfer taken reply (Refused why) = reply ≡ model.Refused (cause_of why)

-- whatever was answered
abbrev pub FollowsAny : Transfer → Exchanges → Next → Type 0
FollowsAny transfer taken next = (reply : model.Reply) → Follows transfer taken reply next

-- it goes on only where it asks
abbrev pub IsOverUnlessAsking : Transfer → Next → Type 0
IsOverUnlessAsking transfer (Ask asked) = Unit {0}
IsOverUnlessAsking transfer Done = IsOver transfer
IsOverUnlessAsking transfer (Refused why) = IsOver transfer

-- the request is for what is carried
abbrev pub IsForItem : TransferSpec → Which → Request → Type 0
IsForItem c to (Fetch path since offset) = (to ≡ source_of c) × (path ≡ c.path)
IsForItem c to (Stage item offset bytes) = (to ≡ target_of c) × (item ≡ c.item)
IsForItem c to (Replace item path since size) = (to ≡ target_of c) × (item ≡ c.item)
    × (path ≡ c.path)
IsForItem c to _ = ⊥

-- what a transfer waits for is for what it carries
abbrev pub WaitsForItem : Type 0
WaitsForItem = (transfer : Transfer) (taken : Exchanges) (to : Which) (request : Request)
    → WaitsFor transfer taken to request → IsForItem (spec_of transfer) to request

-- it asks for something
abbrev pub IsAsking : Next → Type 0
IsAsking (Ask asked) = Unit {0}
IsAsking Done = ⊥
IsAsking (Refused why) = ⊥

-- the last answer is that a side refused, or that the replacement is done: it goes on after no
-- other
abbrev pub EndsBy : TransferSpec → Request → model.Reply → Next → Type 0
EndsBy c request reply (Ask asked) = is_last reply ≡ false
EndsBy c request reply Done = (reply ≡ model.Done)
    × (size : ℕ) × (request ≡ Replace c.item c.path c.target_since size)
EndsBy c request reply (Refused why) = Unit {0}

-- with the answer
abbrev pub with_answer : Exchanges → Which → ℕ → Request → model.Reply → Exchanges
with_answer taken to number request reply =
    taken ++ record { side = to; number = number; request = request; reply = reply } ∷ []

-- what an answer that does not go on is: a refusal, or none that belongs
abbrev pub or_refused : Reply → Result Next TransferError
or_refused (has.Refused why) = Ok (Refused why)
or_refused _ = Err BadMessage

-- nothing was asked for what was answered, or nothing was answered
abbrev pub IsMisfit : Transfer → Option Reply → Type 0
IsMisfit transfer reply = IsOver transfer ⊎ (IsReady transfer × IsSome reply)
    ⊎ (IsWaiting transfer × (reply ≡ None))

-- What takes memory to answer: the first request, and what follows a piece that is staged, or one
-- without bytes. A piece is handed on, and a refusal and the end are passed on, without any
abbrev pub TakesMemory : Option Reply → Type 0
TakesMemory None = Unit {0}
TakesMemory (Some has.Staged) = Unit {0}
TakesMemory (Some (has.Piece total bytes)) = bytes.items ≡ []
TakesMemory _ = ⊥
