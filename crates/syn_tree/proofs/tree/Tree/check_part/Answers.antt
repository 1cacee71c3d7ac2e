use Rattle.std.proofs.Common.{ap, ◌∙◌, option_map}
use Rattle.std.specs.List.{list_all}
use Rattle.syn_model.specs.Limits.{fits_part, fits_paths, fits_path}
use Rattle.syn_tree.specs.Nodes.{part_of}
use Rattle.syn_placed.proofs.TreeLemmas.{entries-absent}
use Rattle.syn_tree.proofs.tree.Tree.check_part.Goals as goal

pub returns-in-None-clause-brief : goal.returns-in-None-clause-brief
returns-in-None-clause-brief c =
    ap (λ o. fits_part (part_of (option_map (λ there. there.now) o))) c.in-None.is
    ∙ ap (list_all _) entries-absent

pub returns-in-None-clause-paths : goal.returns-in-None-clause-paths
returns-in-None-clause-paths c =
    ap (λ o. fits_paths (part_of (option_map (λ there. there.now) o))) c.in-None.is
    ∙ ap (list_all (λ pair. fits_path pair.0)) entries-absent
