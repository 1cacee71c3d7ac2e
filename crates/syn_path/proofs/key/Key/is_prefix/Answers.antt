use Rattle.std.proofs.Common.{nat_eq, ap₂, ◌∙◌}
use Rattle.std.specs.List.{starts_with}
use Rattle.syn_path.proofs.KeyLemmas.{key_begins}
use Rattle.syn_path.proofs.key.Key.is_prefix.Goals as goal

pub returns : goal.returns
returns c =
    c.starts_with.ensures.value
    ∙ (ap₂ (starts_with nat_eq) c.spelled.ensures.bytes c.spelled-2.ensures.bytes
    ∙ key_begins _ _ c.spelled-2.ensures.lawful c.spelled.ensures.lawful)
