-- The body of a reply to a user tells it.
use Rattle.std.proofs.Common.{◌≡◌, ◌<◌, ◌^◌, ◌++◌, [], length, ap, ap₂, arith, refl, Option, Some}
use Rattle.std.proofs.Common.{None}
use Rattle.std.specs.Int.{to_be_bytes, w64}
use Rattle.syn_model.specs.Contents.{Contents}
use Rattle.syn_model.specs.Tree.{Content, Directory, File}
use Rattle.syn_model.specs.Version.{Two}
use Rattle.syn_model.proofs.ToldSpellings.{contents_tell}
use Rattle.syn_message.proofs.HeadLemmas.{body_tells}
use Rattle.syn_message.proofs.RefusalLemmas.{number_tells}
use Rattle.syn_message.proofs.StatusLemmas.{stated_tells}
use Rattle.syn_message.proofs.WholeLemmas.{alone, first_of, rest_of}
use Rattle.syn_message.specs.UserReplies.{UserReply, Edited, Got, States, Refused}
use Rattle.syn_message.specs.UserReplies.{UserReplyMessage}
use Rattle.syn_message.specs.UserReplies.{IsLawfulUserReplyMessage}
use Rattle.syn_message.specs.UserReplies.{IsFound, IsLawfulUserReply, IsWithinFile, found_spelling}
use Rattle.syn_message.specs.UserReplies.{user_reply_spelling, user_reply_fields, user_reply_kind}
use Rattle.syn_wire.specs.Laws.{NoU32BeginsAnother, NoU64BeginsAnother}

short : (contents : Contents) → IsWithinFile contents → length contents.bytes < 2 ^ 32
short contents is = omega (arith, is.0)

module _ (u32 : NoU32BeginsAnother) (u64 : NoU64BeginsAnother) where
  found_tells : (a b : Option Content) → IsFound a → IsFound b
      → found_spelling a ≡ found_spelling b → a ≡ b
  found_tells None None p q same = refl
  found_tells (Some (File a)) (Some (File b)) p q same =
      ap (λ c. Some (File c)) (contents_tell Two a b [] [] p.1 q.1 (short a p) (short b q)
      (ap (λ xs. xs ++ []) (ap rest_of same))).0
  found_tells (Some Directory) (Some Directory) p q same = refl
  found_tells None (Some (File b)) p q same =
      absurd (let k : 0 ≡ 1 = ap first_of same in omega (arith, k))
  found_tells None (Some Directory) p q same =
      absurd (let k : 0 ≡ 2 = ap first_of same in omega (arith, k))
  found_tells (Some (File a)) None p q same =
      absurd (let k : 1 ≡ 0 = ap first_of same in omega (arith, k))
  found_tells (Some (File a)) (Some Directory) p q same =
      absurd (let k : 1 ≡ 2 = ap first_of same in omega (arith, k))
  found_tells (Some Directory) None p q same =
      absurd (let k : 2 ≡ 0 = ap first_of same in omega (arith, k))
  found_tells (Some Directory) (Some (File b)) p q same =
      absurd (let k : 2 ≡ 1 = ap first_of same in omega (arith, k))

  fields_tell : (a b : UserReply) → IsLawfulUserReply a → IsLawfulUserReply b → user_reply_kind a
      ≡ user_reply_kind b
      → user_reply_fields a ≡ user_reply_fields b → a ≡ b
  fields_tell (Edited position) (Edited position') p q kind same =
      ap Edited (alone (λ n. n < 2 ^ 64) (to_be_bytes w64) u64 position position' p q same)
  fields_tell (Got found) (Got found') p q kind same = ap Got (found_tells found found' p q same)
  fields_tell (States identity status) (States identity' status') p q kind same =
      ap (λ stated. States stated.0 stated.1)
      (stated_tells (identity, status) (identity', status') p q same)
  fields_tell (Refused why) (Refused why') p q kind same =
      ap Refused (number_tells why why' (ap first_of same))
  fields_tell a b p q kind same =
      absurd (let k : user_reply_kind a ≡ user_reply_kind b = kind in omega (arith, k))

  pub user_reply_tells : (a b : UserReplyMessage) → IsLawfulUserReplyMessage a
      → IsLawfulUserReplyMessage b
      → user_reply_spelling a ≡ user_reply_spelling b → a ≡ b
  user_reply_tells a b p q same =
      let parts = body_tells u32 u64 (user_reply_kind a.reply) 0 a.number
      (user_reply_kind b.reply) 0 b.number
      (user_reply_fields a.reply) (user_reply_fields b.reply) (omega arith)
      (omega arith) p.number q.number
      same in
      ap₂ (λ x y. record { number = x; reply = y }) parts.2
      (fields_tell a.reply b.reply p.lawful q.lawful parts.0 parts.3)
