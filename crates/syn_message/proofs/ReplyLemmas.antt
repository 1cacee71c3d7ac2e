-- The body of a reply tells it.
use Rattle.std.proofs.Common.{◌≡◌, ◌∙◌, ◌<◌, ◌^◌, ap, ap₂, arith, refl}
use Rattle.std.specs.Int.{to_be_bytes, w64}
use Rattle.syn_machine.specs.Side.{Reply, Begun, Listed, NotDir, Piece, Staged, Done, Refused}
use Rattle.syn_model.specs.Path.{Bytes}
use Rattle.syn_message.proofs.HeadLemmas.{body_tells}
use Rattle.syn_message.proofs.ListingLemmas.{listing_tells}
use Rattle.syn_message.proofs.RefusalLemmas.{number_tells}
use Rattle.syn_message.proofs.WholeLemmas.{alone, first_of}
use Rattle.syn_message.specs.Replies.{ReplyMessage, IsLawfulReplyMessage, reply_spelling}
use Rattle.syn_message.specs.Replies.{IsFetchedBytes, IsLawfulReply, reply_fields, reply_kind}
use Rattle.syn_wire.specs.Events.{IsFile, file_spelling}
use Rattle.syn_wire.specs.Laws.{NoU16BeginsAnother, NoU32BeginsAnother, NoU64BeginsAnother}
use Rattle.syn_wire.specs.Reads.{NoneBeginsAnother}

fetched : (bytes : Bytes) → IsFetchedBytes bytes → IsFile bytes
fetched bytes is = record { bytes = is.1; brief = omega (arith, is.0) }

module _ (u16 : NoU16BeginsAnother) (u32 : NoU32BeginsAnother) (u64 : NoU64BeginsAnother)
    (files : NoneBeginsAnother IsFile file_spelling) where
  fields_tell : (a b : Reply) → IsLawfulReply a → IsLawfulReply b → reply_kind a ≡ reply_kind b
      → reply_fields a ≡ reply_fields b → a ≡ b
  fields_tell (Begun position) (Begun position') p q kind same =
      ap Begun (alone (λ n. n < 2 ^ 64) (to_be_bytes w64) u64 position position' p q same)
  fields_tell (Listed position entries) (Listed position' entries') p q kind same =
      let first = u64 position position' _ _ p.0 q.0 same in
      let second = listing_tells u16 entries entries' p.1 q.1 first.1 in
      ap₂ (λ x y. Listed x y) first.0 second
  fields_tell (NotDir position) (NotDir position') p q kind same =
      ap NotDir (alone (λ n. n < 2 ^ 64) (to_be_bytes w64) u64 position position' p q same)
  fields_tell (Piece total bytes) (Piece total' bytes') p q kind same =
      let first = u32 total total' _ _ p.0 q.0 same in
      let second = alone IsFile file_spelling files bytes bytes' (fetched bytes p.1)
      (fetched bytes' q.1) first.1 in
      ap₂ (λ x y. Piece x y) first.0 second
  fields_tell Staged Staged p q kind same = refl
  fields_tell Done Done p q kind same = refl
  fields_tell (Refused why) (Refused why') p q kind same =
      ap Refused (number_tells why why' (ap first_of same))
  fields_tell a b p q kind same =
      absurd (let k : reply_kind a ≡ reply_kind b = kind in omega (arith, k))

  pub reply_tells : (a b : ReplyMessage) → IsLawfulReplyMessage a → IsLawfulReplyMessage b
      → reply_spelling a ≡ reply_spelling b → a ≡ b
  reply_tells a b p q same =
      let parts = body_tells u32 u64 (reply_kind a.reply) a.session a.number (reply_kind b.reply)
      b.session b.number (reply_fields a.reply) (reply_fields b.reply) p.session q.session
      p.number q.number same in
      let reply = fields_tell a.reply b.reply p.reply q.reply parts.0 parts.3 in
      ap₂ (λ x y. record { session = x; number = y; reply = a.reply }) parts.1 parts.2
      ∙ ap (λ r. record { session = b.session; number = b.number; reply = r }) reply
