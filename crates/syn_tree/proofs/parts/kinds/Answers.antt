use Rattle.std.proofs.Common.{◌++◌, ◌∷◌, [], sym, ap, ap₂, ◌∙◌, append_assoc}
use Rattle.syn_model.specs.Path.{Name}
use Rattle.syn_tree.specs.declared.content.Found.{Found}
use Rattle.syn_tree.proofs.ListingLemmas.{kinds-more}
use Rattle.syn_tree.proofs.parts.kinds.Goals as goal

pub loop-name-preserved : goal.loop-name-preserved
loop-name-preserved c =
    let read = c.loop-name.yielded in
    let x : Name × Found = (c.in-Some.name, c.in-Some.found) in
    record {
      whole =
          c.loop-name.invariant.whole ∙ (ap (λ xs. read ++ xs) c.in-Some.ensures.steps.0
          ∙ sym (append_assoc read (x ∷ []) c.next.new.self.rest.items));
      pushed =
          c.in_ok-push.ensures.items
          ∙ (ap₂ (λ xs b. xs ++ (x.0, b) ∷ []) c.loop-name.invariant.pushed c.is_directory.ensures
          ∙ sym (kinds-more read x));
    }
