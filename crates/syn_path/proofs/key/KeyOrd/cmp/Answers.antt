use Rattle.std.proofs.Common.{sym, ap₂, ◌∙◌}
use Rattle.syn_model.specs.Path.{key_cmp}
use Rattle.syn_model.proofs.KeyLemmas.{paths_go_by_key}
use Rattle.syn_path.proofs.key.KeyOrd.cmp.Goals as goal

pub returns : goal.returns
returns c =
    c.cmp.ensures ∙ (ap₂ key_cmp c.spelled.ensures.bytes c.spelled-2.ensures.bytes
    ∙ sym (paths_go_by_key _ _ c.spelled.ensures.lawful c.spelled-2.ensures.lawful))
