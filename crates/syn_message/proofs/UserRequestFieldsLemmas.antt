-- A user's request of a kind has the fields of that kind.
use Rattle.std.proofs.Common.{◌≡◌, ◌≢◌, ℕ, arith}
use Rattle.syn_model.specs.Event.{Edit, Edited}
use Rattle.syn_model.specs.Path.{Bytes, Path, IsPath, path_spelling}
use Rattle.syn_model.specs.Spelling.{event_spelling}
use Rattle.syn_message.specs.Bodies.{SpellsNone}
use Rattle.syn_message.specs.Users.{Edits, Gets, user_request_fields, user_request_kind}
use Rattle.syn_message.specs.declared.kind.TheConstants.{EDIT, GET}
use Rattle.syn_message.specs.inner.Heads.{IsUserRequestOf}
use Rattle.syn_wire.specs.Events.{IsSpelledEvent}

module _ (fields : Bytes) where
  pub edit_none : ((user : ℕ) (edit : Edit) → IsSpelledEvent (Edited user edit)
      → fields ≢ event_spelling (Edited user edit))
      → SpellsNone (IsUserRequestOf EDIT) user_request_fields fields
  edit_none none (Edits user edit) of is = none user edit of.1 is
  edit_none none other of is =
      absurd (let k : user_request_kind other ≡ EDIT = of.0 in omega (arith, k))

  pub get_none : ((path : Path) → IsPath path → fields ≢ path_spelling path)
      → SpellsNone (IsUserRequestOf GET) user_request_fields fields
  get_none none (Gets path) of is = none path of.1 is
  get_none none other of is =
      absurd (let k : user_request_kind other ≡ GET = of.0 in omega (arith, k))
