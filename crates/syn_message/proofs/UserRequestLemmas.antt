-- The body of a user's request tells it.
use Rattle.std.proofs.Common.{◌≡◌, ◌<◌, ◌^◌, [], ap, ap₂, arith}
use Rattle.std.specs.Int.{to_be_bytes, w64}
use Rattle.syn_model.specs.Event.{Event, Edited, Began, Replaced}
use Rattle.syn_model.specs.Path.{IsPath, path_spelling}
use Rattle.syn_model.specs.Spelling.{event_spelling}
use Rattle.syn_message.proofs.HeadLemmas.{body_tells}
use Rattle.syn_message.proofs.WholeLemmas.{alone}
use Rattle.syn_message.specs.Users.{UserRequest, UserRequestMessage, AsksStatus, Edits, Gets}
use Rattle.syn_message.specs.Users.{IsLawfulUserRequest, IsLawfulUserRequestMessage}
use Rattle.syn_message.specs.Users.{user_request_fields, user_request_kind, user_request_spelling}
use Rattle.syn_model.specs.Version.{Two}
use Rattle.syn_wire.specs.Events.{IsSpelledEvent}
use Rattle.syn_wire.specs.Laws.{NoU32BeginsAnother, NoU64BeginsAnother, NoPathBeginsAnother}
use Rattle.syn_wire.specs.Laws.{NoEventBeginsAnother}

-- an edit as a request
abbrev user_edit : Event → UserRequest
user_edit (Edited user edit) = Edits user edit
user_edit (Began session) = Gets []
user_edit (Replaced token path since new) = Gets []

module _ (u32 : NoU32BeginsAnother) (u64 : NoU64BeginsAnother) (paths : NoPathBeginsAnother)
    (events : NoEventBeginsAnother) where
  fields_tell : (a b : UserRequest) → IsLawfulUserRequest a → IsLawfulUserRequest b
      → user_request_kind a ≡ user_request_kind b
      → user_request_fields a ≡ user_request_fields b → a ≡ b
  fields_tell (Edits user edit) (Edits user' edit') p q kind same =
      ap user_edit (alone IsSpelledEvent event_spelling (events Two) (Edited user edit)
      (Edited user' edit') p q same)
  fields_tell (Gets path) (Gets path') p q kind same =
      ap Gets (alone IsPath path_spelling paths path path' p q same)
  fields_tell (AsksStatus place) (AsksStatus place') p q kind same =
      ap AsksStatus (alone (λ n. n < 2 ^ 64) (to_be_bytes w64) u64 place place' p q same)
  fields_tell a b p q kind same =
      absurd (let k : user_request_kind a ≡ user_request_kind b = kind in omega (arith, k))

  pub user_request_tells : (a b : UserRequestMessage) → IsLawfulUserRequestMessage a
      → IsLawfulUserRequestMessage b
      → user_request_spelling a ≡ user_request_spelling b → a ≡ b
  user_request_tells a b p q same =
      let parts = body_tells u32 u64 (user_request_kind a.request) 0 a.number
      (user_request_kind b.request) 0 b.number
      (user_request_fields a.request) (user_request_fields b.request) (omega arith)
      (omega arith) p.number q.number
      same in
      ap₂ (λ x y. record { number = x; request = y }) parts.2
      (fields_tell a.request b.request p.lawful q.lawful parts.0 parts.3)
