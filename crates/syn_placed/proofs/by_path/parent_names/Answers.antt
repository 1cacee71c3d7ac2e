use Rattle.std.proofs.Common.{◌-◌, ap, ◌∙◌, length, arith}
use Rattle.syn_model.specs.Path.{parent}
use Rattle.syn_placed.proofs.ParentLemmas.{parent-take}
use Rattle.syn_placed.proofs.by_path.parent_names.Goals as goal

pub returns-in-len1-up : goal.returns-in-len1-up
returns-in-len1-up c =
    let names = c.names.result.now in
    parent-take names (length names - 1) (omega (arith, c.in-len1-up.len_at_least))
    ∙ ap parent c.names.ensures.names
