-- How a request of a user is spelled.
use Rattle.std.specs.Prelude.{◌<◌, ◌^◌, ℕ}
use Rattle.std.specs.Int.{to_be_bytes, w64}
use Rattle.syn_model.specs.Event.{Edit, Edited}
use Rattle.syn_model.specs.Path.{Bytes, Path, IsPath, path_spelling}
use Rattle.syn_model.specs.Spelling.{event_spelling}
use Rattle.syn_message.specs.Bodies.{body_spelling}
use Rattle.syn_message.specs.declared.kind.TheConstants.{EDIT, GET, STATUS}
use Rattle.syn_message.specs.declared.user.UserRequestMessage.{UserRequestMessage as CodedMessage}
use Rattle.syn_message.specs.declared.user.UserRequest.{UserRequest as Coded}
use Rattle.syn_message.specs.declared.user.UserRequest.TheVariants as has
use Rattle.syn_tree.specs.Edits.{edit_of}
use Rattle.syn_wire.specs.Events.{IsSpelledEvent}

-- what a user asks for
pub data UserRequest : Type 0 where
  Edits : (user : ℕ) (edit : Edit) → UserRequest
  Gets : (path : Path) → UserRequest
  AsksStatus : (place : ℕ) → UserRequest

abbrev pub user_request_of : Coded → UserRequest
user_request_of (has.Edit user edit) = Edits user (edit_of edit)
user_request_of (has.Get path) = Gets path
user_request_of (has.Status place) = AsksStatus place

-- with its number
pub record UserRequestMessage : Type 0 where
  pub number : ℕ
  pub request : UserRequest

abbrev pub user_request_message_of : CodedMessage → UserRequestMessage
user_request_message_of asked = record
    { number = asked.number; request = user_request_of asked.request }

abbrev pub user_request_kind : UserRequest → ℕ
user_request_kind (Edits user edit) = EDIT
user_request_kind (Gets path) = GET
user_request_kind (AsksStatus place) = STATUS

abbrev pub user_request_fields : UserRequest → Bytes
user_request_fields (Edits user edit) = event_spelling (Edited user edit)
user_request_fields (Gets path) = path_spelling path
user_request_fields (AsksStatus place) = to_be_bytes w64 place

-- with the session 0
abbrev pub user_request_spelling : UserRequestMessage → Bytes
user_request_spelling asked =
    body_spelling (user_request_kind asked.request) 0 asked.number
    (user_request_fields asked.request)

-- What is put may have any length that four bytes spell; how many a file may have says the replica.
abbrev pub IsLawfulUserRequest : UserRequest → Type 0
IsLawfulUserRequest (Edits user edit) = IsSpelledEvent (Edited user edit)
IsLawfulUserRequest (Gets path) = IsPath path
IsLawfulUserRequest (AsksStatus place) = place < 2 ^ 64

pub record IsLawfulUserRequestMessage (asked : UserRequestMessage) : Type 0 where
  pub number : asked.number < 2 ^ 32
  pub lawful : IsLawfulUserRequest asked.request
