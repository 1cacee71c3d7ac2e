use Rattle.std.proofs.Common.{rules, not}
use Rattle.std.specs.Ordering.{eq_by_cmp}
use Rattle.std.proofs.lemmas.Fn.{filter_same}
use Rattle.syn_model.specs.Path.{path_cmp}
use Rattle.syn_scan.proofs.paths.take_back.Goals as goal

pub returns : goal.returns
returns c =
    filter_same _ (λ other. not (eq_by_cmp path_cmp c.args.path.now other)) _ (λ x b f' k.
    search rules) c.args.paths.now.items c.retain.new.self.items c.retain.ensures.filtered
