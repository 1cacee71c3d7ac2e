use Rattle.std.proofs.Common.{ap, ◌∙◌, sym, is_some}
use Rattle.std.specs.FinMap.{get}
use Rattle.syn_scan.specs.Found.{was_no_directory}
use Rattle.syn_scan.proofs.FoundLemmas.{unstable_key}
use Rattle.syn_scan.proofs.scan.Scan.is_unstable.Goals as goal

pub returns : goal.returns
returns c =
    c.is_some.ensures
    ∙ (ap is_some (c.get.ensures ∙ ap (get c.self.inside.not_dirs) c.names.ensures.names)
    ∙ (ap (λ f. was_no_directory f c.args.path.now) c.self.view_is
    ∙ sym (unstable_key c.args.self.now c.args.path.now)))
