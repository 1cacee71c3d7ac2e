-- How a request of a coordinator is spelled.
use Rattle.std.specs.Prelude.{◌≡◌, ◌<◌, ◌^◌, ℕ, ◌++◌, Result}
use Rattle.std.specs.Int.{to_be_bytes, w32, w64}
use Rattle.syn_machine.specs.Side.{IsLawfulBody}
use Rattle.syn_machine.specs.Side as model
use Rattle.syn_model.specs.Path.{Bytes, path_spelling}
use Rattle.syn_message.specs.Bodies.{ReadsWhole, body_spelling}
use Rattle.syn_message.specs.declared.kind.TheConstants.{BEGIN, LIST, FETCH, STAGE, REPLACE}
use Rattle.syn_message.specs.declared.request.RequestMessage.{RequestMessage as Coded}
use Rattle.syn_message.specs.declared.request.Request.{Request}
use Rattle.syn_message.specs.declared.request.Request.TheVariants as has
use Rattle.syn_wire.specs.Events.{file_spelling}
use Rattle.syn_wire.specs.declared.error.ReadError.{ReadError}

-- a request as the model has it
abbrev pub request_of : Request → model.Request
request_of (has.Begin pair) = model.Begin pair
request_of (has.List path) = model.ListAt path
request_of (has.Fetch path since offset) = model.Fetch path since offset
request_of (has.Stage item offset piece) = model.Stage item offset piece
request_of (has.Replace item path since size) = model.Replace item path since size

-- a request with its session and its number in it
pub record RequestMessage : Type 0 where
  pub session : ℕ
  pub number : ℕ
  pub request : model.Request

abbrev pub request_message_of : Coded → RequestMessage
request_message_of asked =
    record { session = asked.session; number = asked.number; request = request_of asked.request }

abbrev pub kind_of : model.Request → ℕ
kind_of (model.Begin pair) = BEGIN
kind_of (model.ListAt path) = LIST
kind_of (model.Fetch path since offset) = FETCH
kind_of (model.Stage item offset bytes) = STAGE
kind_of (model.Replace item path since size) = REPLACE

-- what stands after the number
abbrev pub fields_spelling : model.Request → Bytes
fields_spelling (model.Begin pair) = to_be_bytes w64 pair
fields_spelling (model.ListAt path) = path_spelling path
fields_spelling (model.Fetch path since offset) =
    path_spelling path ++ (to_be_bytes w64 since ++ to_be_bytes w32 offset)
fields_spelling (model.Stage item offset bytes) =
    to_be_bytes w32 item ++ (to_be_bytes w32 offset ++ file_spelling bytes)
fields_spelling (model.Replace item path since size) =
    to_be_bytes w32 item ++ (path_spelling path ++ (to_be_bytes w64 since ++ to_be_bytes w32 size))

-- a kind, a session, a number, and what the request has
abbrev pub request_spelling : RequestMessage → Bytes
request_spelling asked = body_spelling (kind_of asked.request) asked.session asked.number
    (fields_spelling asked.request)

-- Sessions count from 1: a user's request has the session 0.
pub record IsLawfulRequestMessage (asked : RequestMessage) : Type 0 where
  pub session : asked.session < 2 ^ 64
  pub begun : 0 < asked.session
  pub number : asked.number < 2 ^ 32
  pub body : IsLawfulBody asked.request

-- the same of the fields of a kind
abbrev pub IsOfKind : ℕ → model.Request → Type 0
IsOfKind kind request = (kind_of request ≡ kind) × IsLawfulBody request

abbrev pub ReadsFields : ℕ → Bytes → Result Request ReadError → Type 0
ReadsFields kind = ReadsWhole (IsOfKind kind) fields_spelling request_of
