use Rattle.std.proofs.Common.{◌∙◌, ap}
use Rattle.std.specs.FinMap.{keys}
use Rattle.std.specs.List.{list_any}
use Rattle.syn_model.specs.Path.{is_prefix}
use Rattle.syn_scan.proofs.PositionLemmas.{any_key}
use Rattle.syn_scan.proofs.positions.Positions.any_within.Goals as goal

pub returns : goal.returns
returns c =
    let path = c.args.path.now in
    c.any_within.ensures ∙ (ap (λ es. list_any (λ e. is_prefix path e.0) es) c.deref.ensures.value
    ∙ (any_key (is_prefix path) c.self.inside.list.items c.self.invariant
    ∙ ap (λ m. list_any (is_prefix path) (keys m)) c.self.view_is))
