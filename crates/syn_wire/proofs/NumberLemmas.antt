-- The spelling of a number tells it.
use Rattle.std.proofs.Common.{refl, sym, ap, ◌∙◌}
use Rattle.std.specs.Int.{from_be_bytes, to_be_bytes, w16, w32, w64}
use Rattle.std.proofs.lemmas.Nat.{from_be_bytes-to_be_bytes_2, from_be_bytes-to_be_bytes_4}
use Rattle.std.proofs.lemmas.Nat.{from_be_bytes-to_be_bytes_8}
use Rattle.syn_wire.specs.Laws.{NoU16BeginsAnother, NoU32BeginsAnother, NoU64BeginsAnother}
use Rattle.syn_model.proofs.SpellingLemmas.{split}

pub u16_tells : NoU16BeginsAnother
u16_tells v w r s hv hw e =
    let both = split (to_be_bytes w16 v) (to_be_bytes w16 w) r s refl e in (
      sym (from_be_bytes-to_be_bytes_2 v hv)
          ∙ (ap (from_be_bytes w16) both.0 ∙ from_be_bytes-to_be_bytes_2 w hw),
      both.1,
    )

pub u32_tells : NoU32BeginsAnother
u32_tells v w r s hv hw e =
    let both = split (to_be_bytes w32 v) (to_be_bytes w32 w) r s refl e in (
      sym (from_be_bytes-to_be_bytes_4 v hv)
          ∙ (ap (from_be_bytes w32) both.0 ∙ from_be_bytes-to_be_bytes_4 w hw),
      both.1,
    )

pub u64_tells : NoU64BeginsAnother
u64_tells v w r s hv hw e =
    let both = split (to_be_bytes w64 v) (to_be_bytes w64 w) r s refl e in (
      sym (from_be_bytes-to_be_bytes_8 v hv)
          ∙ (ap (from_be_bytes w64) both.0 ∙ from_be_bytes-to_be_bytes_8 w hw),
      both.1,
    )
