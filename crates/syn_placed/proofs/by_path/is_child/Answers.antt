use Rattle.std.proofs.Common.{rules, ◌≡◌, ◌<◌, ◌-◌, take, sym, ap, ◌∙◌, subst, length, arith}
use Rattle.std.specs.Ordering.{eq_by_cmp}
use Rattle.syn_model.specs.Path.{path_cmp}
use Rattle.syn_placed.specs.Pairs.{is_child}
use Rattle.syn_placed.proofs.ParentLemmas.{child-take, no_child}
use Rattle.syn_placed.proofs.by_path.is_child.Goals as goal

pub returns-in-empty : goal.returns-in-empty
returns-in-empty c =
    sym (no_child c.args.above.now c.args.path.now
    (subst (λ q. length q < 1) c.names.ensures.names c.in-empty.len_below))

pub returns-in-len1-up : goal.returns-in-len1-up
returns-in-len1-up c =
    let names = c.names.result.now in
    let same : c.eq.result ≡ eq_by_cmp path_cmp (take (length names - 1) names) c.args.above.now =
    search rules in
    same ∙ (child-take c.args.above.now names (length names - 1)
    (omega (arith, c.in-len1-up.len_at_least))
    ∙ ap (λ q. is_child c.args.above.now q) c.names.ensures.names)
