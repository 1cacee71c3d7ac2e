use Rattle.std.proofs.Common.{ap, ◌∙◌}
use Rattle.syn_model.specs.Path.{parent}
use Rattle.syn_path.proofs.KeyLemmas.{parent_taken}
use Rattle.syn_folder.proofs.system.writing.above.Goals as goal

pub returns-in-len1-up : goal.returns-in-len1-up
returns-in-len1-up c =
    parent_taken c.names.result.now c.in-len1-up.len_at_least ∙ ap parent c.names.ensures.names
