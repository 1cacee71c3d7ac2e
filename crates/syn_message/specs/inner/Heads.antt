-- Parts of a body that have no contract of their own.
use Rattle.std.specs.Prelude.{◌≡◌, ◌<◌, ◌^◌, ℕ, [], ◌∷◌, ◌++◌, Result}
use Rattle.std.specs.Int.{to_be_bytes, w32, w64}
use Rattle.syn_model.specs.Path.{Bytes}
use Rattle.syn_model.specs.Refusal.{Refusal, number}
use Rattle.syn_message.specs.Bodies.{ReadsWhole}
use Rattle.syn_message.specs.Users.{UserRequest, IsLawfulUserRequest, user_request_fields}
use Rattle.syn_message.specs.Users.{user_request_kind, user_request_of}
use Rattle.syn_message.specs.declared.user.UserRequest.{UserRequest as Coded}
use Rattle.syn_wire.specs.declared.error.ReadError.{ReadError}

-- a session, from 1, and a number in it
pub record IsHead (head : ℕ × ℕ) : Type 0 where
  pub session : head.0 < 2 ^ 64
  pub begun : 0 < head.0
  pub number : head.1 < 2 ^ 32

abbrev pub head_spelling : ℕ × ℕ → Bytes
head_spelling head = to_be_bytes w64 head.0 ++ to_be_bytes w32 head.1

-- a position, and a number
abbrev pub IsLast : ℕ × ℕ → Type 0
IsLast last = (last.0 < 2 ^ 64) × (last.1 < 2 ^ 32)

abbrev pub ReadsLast : Bytes → Result (ℕ × ℕ) ReadError → Type 0
ReadsLast = ReadsWhole IsLast head_spelling (λ last. last)

-- the session 0, and a number
pub record IsUserHead (head : ℕ × ℕ) : Type 0 where
  pub none : head.0 ≡ 0
  pub number : head.1 < 2 ^ 32

-- what stands after the number of a user's request
abbrev pub IsUserRequestOf : ℕ → UserRequest → Type 0
IsUserRequestOf kind request = (user_request_kind request ≡ kind) × IsLawfulUserRequest request

abbrev pub ReadsUserRequest : ℕ → Bytes → Result Coded ReadError → Type 0
ReadsUserRequest kind = ReadsWhole (IsUserRequestOf kind) user_request_fields user_request_of

-- a refusal, by its number
abbrev pub IsRefusal : Refusal → Type 0
IsRefusal why = Unit {0}

abbrev pub refusal_spelling : Refusal → Bytes
refusal_spelling why = number why ∷ []
