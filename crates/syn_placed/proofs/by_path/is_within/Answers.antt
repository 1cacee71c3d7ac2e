use Rattle.std.proofs.Common.{ap, ◌∙◌}
use Rattle.syn_model.specs.Path.{is_prefix}
use Rattle.syn_path.proofs.PathLemmas.{is_prefix-starts_with}
use Rattle.syn_placed.proofs.by_path.is_within.Goals as goal

pub returns : goal.returns
returns g c =
    c.starts_with.ensures.value ∙ (is_prefix-starts_with c.args.names.now c.names.result.now
    ∙ ap (is_prefix c.args.names.now) (c.names.ensures.names ∙ c.path.ensures))
