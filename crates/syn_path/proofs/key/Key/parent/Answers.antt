use Rattle.std.proofs.Common.{◌∙◌, append-nil}
use Rattle.syn_path.proofs.DerivedKeyLemmas.{is_spelling}
use Rattle.syn_path.proofs.KeyLemmas.{names_of-key}
use Rattle.syn_path.proofs.key.Key.parent.Goals as goal

pub of_bytes-requires : goal.of_bytes-requires
of_bytes-requires c =
    is_spelling _ _ _ c.above.ensures.lawful (append-nil c.above.result.now ∙ c.above.ensures.bytes)
    c.above_start.ensures

pub returns : goal.returns
returns c =
    c.of_bytes.ensures ∙ names_of-key _ _ c.above.ensures.lawful
    (append-nil c.above.result.now ∙ c.above.ensures.bytes)
