use Rattle.std.proofs.Common.{◌++◌, refl, ap, ◌∙◌, subst}
use Rattle.syn_model.specs.Path.{IsPath}
use Rattle.syn_placed.specs.Pairs.{under}
use Rattle.syn_tree.proofs.PlaceableLemmas.{paths_fit, paths-fail, no_path}
use Rattle.syn_tree.proofs.parts.push_under.Goals as goal

pub returns-in_default-clause-full : goal.returns-in_default-clause-full
returns-in_default-clause-full c _ =
    let at = c.args.at.now in
    let x = c.in-Some.entry in
    let lawful : IsPath x.0 = subst IsPath c.key.ensures c.is_path-in-loop-entry.ensures in
    let none : ¬ IsPath (at ++ x.0) =
    subst (λ q. ¬ IsPath (at ++ q)) c.key-in-loop-entry.ensures c.in_default.ensures.none in
    let parts = c.loop-entry.invariant.whole
    ∙ ap (λ xs. c.loop-entry.yielded ++ xs) c.in-Some.ensures.steps.0 in (
      refl,
      ap (λ xs. paths_fit (under at xs)) parts
          ∙ paths-fail at c.loop-entry.yielded x _
          (no_path at x.0 c.is_path.ensures.names lawful.names none _ refl),
    )
