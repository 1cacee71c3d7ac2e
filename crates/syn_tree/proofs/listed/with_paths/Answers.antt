use Rattle.std.proofs.Common.{◌++◌, ◌∷◌, [], sym, ap, ap₂, ◌∙◌, append_assoc}
use Rattle.syn_model.specs.Path.{Path}
use Rattle.syn_model.specs.Tree.{Content}
use Rattle.syn_tree.proofs.listed.with_paths.Goals as goal

pub loop-entry-preserved : goal.loop-entry-preserved
loop-entry-preserved c =
    let read = c.loop-entry.yielded in
    let x = c.in-Some.entry in
    record {
      whole =
          c.loop-entry.invariant.whole ∙ (ap (λ xs. read ++ xs) c.in-Some.ensures.steps.0
          ∙ sym (append_assoc read (x ∷ []) c.next.new.self.rest.items));
      pushed =
          c.in_ok-push.ensures.items
          ∙ ap₂ (λ xs y. xs ++ y ∷ []) c.loop-entry.invariant.pushed
          (c.new.ensures ∙ ap₂ (λ (p : Path) (d : Content). (p, d))
          (c.in_ok-path.ensures ∙ c.key.ensures)
          (c.in_ok-content.ensures ∙ c.content.ensures));
    }
