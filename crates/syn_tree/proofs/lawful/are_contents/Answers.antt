use Rattle.std.proofs.Common.{◌<◌, ℕ, subst, arith, slice_index_or, Fits, w8}
use Rattle.std.proofs.lemmas.List.{get_or_default}
use Rattle.syn_model.specs.Contents.{IsMode}
use Rattle.syn_model.proofs.ContentsLemmas.{with_are_lawful}
use Rattle.syn_tree.proofs.lawful.are_contents.Goals as goal
use Rattle.syn_tree.specs.Modes.{mode_of}

byte_fits : (n : ℕ) → Fits w8 n → n < 256
byte_fits n h = omega arith

pub returns : goal.returns
returns c =
    with_are_lawful (mode_of c.args.mode) c.args.bytes.now
    (subst IsMode c.bits.ensures.same c.bits.ensures.lawful)
    (λ k d l. subst (λ v. v < 256) (get_or_default c.args.bytes.now k 0 d l)
    (byte_fits (slice_index_or c.args.bytes.now k 0) (c.type_inv.bytes k)))
