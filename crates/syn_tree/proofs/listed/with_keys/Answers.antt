use Rattle.std.proofs.Common.{◌++◌, ◌∷◌, [], sym, ap₂, ◌∙◌}
use Rattle.std.proofs.lemmas.List.{take_more}
use Rattle.syn_model.specs.Path.{Path}
use Rattle.syn_model.specs.Tree.{Content}
use Rattle.syn_tree.proofs.listed.with_keys.Goals as goal

pub loop-entry-preserved : goal.loop-entry-preserved
loop-entry-preserved c =
    let made = c.in_ok-new.ensures ∙ ap₂ (λ (p : Path) (d : Content). (p, d))
    (c.key.ensures ∙ c.path.ensures) (c.in_ok-content.ensures ∙ c.content.ensures) in
    c.in_ok-push.ensures.items
    ∙ (ap₂ (λ xs x. xs ++ x ∷ []) c.loop-entry.invariant (made ∙ c.entry-item.is))
    ∙ sym (take_more c.args.list.now c.loop-entry.entry-index c.entry-item.result
    c.loop-entry-test.true)
