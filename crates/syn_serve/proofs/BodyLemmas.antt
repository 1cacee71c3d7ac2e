-- The body of a reply goes into a frame.
use Rattle.std.proofs.Common.{◌≡◌, ◌≤◌, ◌+◌, ◌*◌, ◌∷◌, ◌++◌, [], length, Option, Some, None, arith}
use Rattle.std.proofs.Common.{Bool, true, false, refl}
use Rattle.std.proofs.lemmas.List.{length-append}
use Rattle.std.proofs.lemmas.List.Elements.{All-head, All-tail}
use Rattle.std.specs.Prelude.{All, IfSome, flat_map}
use Rattle.std.specs.Int.{to_be_bytes, w64}
use Rattle.syn_machine.specs.Side as model
use Rattle.syn_history.specs.Status.{IsLawfulStatus, Status}
use Rattle.syn_link.specs.Frames.{IsBody}
use Rattle.syn_mark.specs.Marks.{IsDigestOrDirectory}
use Rattle.syn_message.specs.Listings.{Entries, IsEntry, entry_spelling, mark_spelling}
use Rattle.syn_message.specs.Replies.{IsLawfulReply, reply_fields}
use Rattle.syn_message.specs.Statuses.{IsIdentity, IsStated, halted_spelling, identity_spelling}
use Rattle.syn_message.specs.Statuses.{stated_spelling, status_spelling, touched_spelling}
use Rattle.syn_message.specs.UserReplies as user
use Rattle.syn_message.specs.UserReplies.{IsFound, IsLawfulUserReply, UserReply, found_spelling}
use Rattle.syn_message.specs.UserReplies.{user_reply_fields}
use Rattle.syn_model.specs.Event.{Token}
use Rattle.syn_model.specs.Image.{last_token_spelling}
use Rattle.syn_model.specs.Path.{Bytes, IsPath, Name, Path}
use Rattle.syn_model.specs.Tree.{Content, Directory, File}
use Rattle.syn_serve.specs.Messages.{Answers, IsLawfulResponse, Response, Tells, response_spelling}

short_mark : (content : Content) → IsDigestOrDirectory content
    → length (mark_spelling content) ≤ 35
short_mark Directory is = omega arith
short_mark (File contents) is = let size = is.1 in omega (arith, size)

short_entry : (entry : Name × Content) → IsEntry entry → length (entry_spelling entry) ≤ 100
short_entry entry is =
    let name = is.0.not_long in
    let mark = short_mark entry.1 is.1 in
    omega (arith, name, mark, length-append entry.0 (mark_spelling entry.1))

short_each : (entries : Entries) → All IsEntry entries
    → length (flat_map entry_spelling entries) ≤ 100 * length entries
short_each [] all = omega arith
short_each (entry ∷ entries) all =
    let here = short_entry entry (All-head IsEntry entry entries all) in
    let others = short_each entries (All-tail IsEntry entry entries all) in
    omega (
      arith,
      here,
      others,
      length-append (entry_spelling entry) (flat_map entry_spelling entries),
    )

short_reply : (reply : model.Reply) → IsLawfulReply reply → length (reply_fields reply) ≤ 65000
short_reply (model.Begun position) is = omega arith
short_reply (model.Listed position entries) is =
    let few = is.1.few in
    let each = short_each entries is.1.each in
    let size : length (reply_fields (model.Listed position entries))
    ≡ 10 + length (flat_map entry_spelling entries) = omega arith in
    omega (arith, few, each, size)
short_reply (model.NotDir position) is = omega arith
short_reply (model.Piece total bytes) is =
    let few = is.1.0 in
    let size : length (reply_fields (model.Piece total bytes)) ≡ 8 + length bytes = omega arith in
    omega (arith, few, size)
short_reply model.Staged is = omega arith
short_reply model.Done is = omega arith
short_reply (model.Refused why) is = omega arith

short_found : (found : Option Content) → IsFound found → length (found_spelling found) ≤ 65000
short_found None is = omega arith
short_found (Some (File contents)) is =
    let few = is.0 in
    let size : length (found_spelling (Some (File contents))) ≡ 7 + length contents.bytes =
    omega arith in
    omega (arith, few, size)
short_found (Some Directory) is = omega arith

short_identity : (identity : Option Bytes) → IfSome identity IsIdentity
    → length (identity_spelling identity) ≤ 17
short_identity None is = omega arith
short_identity (Some identity) is = let size = is.0 in omega (arith, size)

short_touch : (touch : Option Path) → IfSome touch IsPath → length (touched_spelling touch) ≤ 256
short_touch None is = omega arith
short_touch (Some path) is = let size = is.not_long in omega (arith, size)

short_token : (token : Option Token) → length (last_token_spelling token) ≤ 13
short_token None = omega arith
short_token (Some token) = omega arith

short_halted : (halted : Bool) → length (halted_spelling halted) ≡ 1
short_halted true = refl
short_halted false = refl

short_status : (status : Status) → IsLawfulStatus status → length (status_spelling status) ≤ 400
short_status status is =
    let token = short_token status.token in
    let touch = short_touch status.touch is.touch in
    let halted = short_halted status.halted in
    omega (
      arith,
      token,
      touch,
      halted,
      length-append (last_token_spelling status.token) (to_be_bytes w64 status.place
          ++ (touched_spelling status.touch ++ halted_spelling status.halted)),
      length-append (touched_spelling status.touch) (halted_spelling status.halted),
    )

short_stated : (identity : Option Bytes) (status : Status) → IsStated (identity, status)
    → length (stated_spelling (identity, status)) ≤ 65000
short_stated identity status is =
    let known = short_identity identity is.0 in
    let told = short_status status is.1 in
    omega (
      arith,
      known,
      told,
      length-append (identity_spelling identity) (status_spelling status),
    )

short_told : (told : UserReply) → IsLawfulUserReply told → length (user_reply_fields told) ≤ 65000
short_told (user.Edited position) is = omega arith
short_told (user.Got found) is = short_found found is
short_told (user.States identity status) is = short_stated identity status is
short_told (user.Refused why) is = omega arith

pub is_body : (response : Response) → IsLawfulResponse response
    → IsBody (response_spelling response)
is_body (Answers answered) is =
    let short = short_reply answered.reply is.reply in
    let size : length (response_spelling (Answers answered))
    ≡ 13 + length (reply_fields answered.reply) = omega arith in
    (omega (arith, size), omega (arith, short, size))
is_body (Tells answered) is =
    let short = short_told answered.reply is.lawful in
    let size : length (response_spelling (Tells answered))
    ≡ 13 + length (user_reply_fields answered.reply) =
    omega arith in
    (omega (arith, size), omega (arith, short, size))
