use Rattle.std.proofs.Common.{◌++◌, ◌∷◌, [], sym, ap, ap₂, ◌∙◌, append_assoc}
use Rattle.syn_wire.proofs.tree_reading.keyed.Goals as goal

pub loop-placed-preserved : goal.loop-placed-preserved
loop-placed-preserved c =
    let read = c.loop-placed.yielded in
    let x = c.in-Some.placed in
    record {
      whole =
          c.loop-placed.invariant.whole ∙ (ap (λ xs. read ++ xs) c.in-Some.ensures.steps.0
          ∙ sym (append_assoc read (x ∷ []) c.next.new.self.rest.items));
      pushed =
          c.in_ok-push.ensures.items
          ∙ ap₂ (λ xs y. xs ++ y ∷ []) c.loop-placed.invariant.pushed c.in_ok-of.ensures;
    }
