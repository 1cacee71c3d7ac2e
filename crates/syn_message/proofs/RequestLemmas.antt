-- The body of a request tells it.
use Rattle.std.proofs.Common.{◌≡◌, ◌∙◌, ◌<◌, ◌^◌, ap, ap₂, arith}
use Rattle.std.specs.Int.{to_be_bytes, w32, w64}
use Rattle.syn_machine.specs.Side.{Request, Begin, ListAt, Fetch, Stage, Replace}
use Rattle.syn_machine.specs.Side.{IsLawfulBody, IsPieceBytes}
use Rattle.syn_model.specs.Path.{Bytes, IsPath, path_spelling}
use Rattle.syn_message.proofs.HeadLemmas.{body_tells}
use Rattle.syn_message.proofs.WholeLemmas.{alone}
use Rattle.syn_message.specs.Requests.{RequestMessage, IsLawfulRequestMessage, request_spelling}
use Rattle.syn_message.specs.Requests.{fields_spelling}
use Rattle.syn_message.specs.Requests.{kind_of}
use Rattle.syn_wire.specs.Events.{IsFile, file_spelling}
use Rattle.syn_wire.specs.Laws.{NoU32BeginsAnother, NoU64BeginsAnother, NoPathBeginsAnother}
use Rattle.syn_wire.specs.Reads.{NoneBeginsAnother}

piece : (bytes : Bytes) → IsPieceBytes bytes → IsFile bytes
piece bytes is = record { bytes = is.2; brief = omega (arith, is.1) }

module _ (u32 : NoU32BeginsAnother) (u64 : NoU64BeginsAnother) (paths : NoPathBeginsAnother)
    (files : NoneBeginsAnother IsFile file_spelling) where
  fields_tell : (a b : Request) → IsLawfulBody a → IsLawfulBody b → kind_of a ≡ kind_of b
      → fields_spelling a ≡ fields_spelling b → a ≡ b
  fields_tell (Begin pair) (Begin pair') p q kind same =
      ap Begin (alone (λ n. n < 2 ^ 64) (to_be_bytes w64) u64 pair pair' p q same)
  fields_tell (ListAt path) (ListAt path') p q kind same =
      ap ListAt (alone IsPath path_spelling paths path path' p q same)
  fields_tell (Fetch path since offset) (Fetch path' since' offset') p q kind same =
      let first = paths path path' _ _ p.0 q.0 same in
      let second = u64 since since' _ _ p.1 q.1 first.1 in
      let third = alone (λ n. n < 2 ^ 32) (to_be_bytes w32) u32 offset offset' p.2 q.2 second.1 in
      ap₂ (λ x y. Fetch x y offset) first.0 second.0 ∙ ap (Fetch path' since') third
  fields_tell (Stage item offset bytes) (Stage item' offset' bytes') p q kind same =
      let first = u32 item item' _ _ p.0 q.0 same in
      let second = u32 offset offset' _ _ p.1 q.1 first.1 in
      let third = alone IsFile file_spelling files bytes bytes' (piece bytes p.2) (piece bytes' q.2)
      second.1 in
      ap₂ (λ x y. Stage x y bytes) first.0 second.0 ∙ ap (Stage item' offset') third
  fields_tell (Replace item path since size) (Replace item' path' since' size') p q kind same =
      let first = u32 item item' _ _ p.0 q.0 same in
      let second = paths path path' _ _ p.1 q.1 first.1 in
      let third = u64 since since' _ _ p.2 q.2 second.1 in
      let fourth = alone (λ n. n < 2 ^ 32) (to_be_bytes w32) u32 size size' p.3 q.3 third.1 in
      ap₂ (λ x y. Replace x y since size) first.0 second.0
      ∙ ap₂ (λ x y. Replace item' path' x y) third.0 fourth
  fields_tell a b p q kind same =
      absurd (let k : kind_of a ≡ kind_of b = kind in omega (arith, k))

  pub request_tells : (a b : RequestMessage) → IsLawfulRequestMessage a → IsLawfulRequestMessage b
      → request_spelling a ≡ request_spelling b → a ≡ b
  request_tells a b p q same =
      let parts = body_tells u32 u64 (kind_of a.request) a.session a.number (kind_of b.request)
      b.session b.number (fields_spelling a.request) (fields_spelling b.request) p.session q.session
      p.number q.number same in
      let request = fields_tell a.request b.request p.body q.body parts.0 parts.3 in
      ap₂ (λ x y. record { session = x; number = y; request = a.request }) parts.1 parts.2
      ∙ ap (λ r. record { session = b.session; number = b.number; request = r }) request
