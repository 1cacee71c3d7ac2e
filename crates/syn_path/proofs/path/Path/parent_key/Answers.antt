use Rattle.std.proofs.Common.{ap, ◌∙◌}
use Rattle.syn_model.specs.Path.{parent}
use Rattle.syn_path.proofs.KeyLemmas.{parent_taken}
use Rattle.syn_path.proofs.path.Path.parent_key.Goals as goal

pub returns-in-len1-up : goal.returns-in-len1-up
returns-in-len1-up c =
    let path = c.self.inside.names.items in
    c.of-in-len1-up.ensures ∙ (parent_taken _ c.in-len1-up.len_at_least
    ∙ ap parent (c.as_slice.ensures.value ∙ c.self.view_is))
